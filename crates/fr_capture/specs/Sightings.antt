-- The observations of a controller: on each channel of each window that it observed, with time and place.
use Rattle.std.specs.Prelude.{ℕ, List, [], ◌∷◌, Option, Some, None}
use Rattle.std.specs.Option.{option_and_then}
use Rattle.arrayvec.specs.ArrayVec.{ArrayVec}
use Rattle.fr_capture.specs.declared.takers.Taker.{Taker}
use Rattle.fr_capture.specs.Moments.{last_fetch, last_window, time_of}
use Rattle.fr_capture.specs.Takers.{takers_of}
use Rattle.fr_interface.specs.Handing.{bytes_handed}
use Rattle.fr_interface.specs.State.{State}
use Rattle.fr_journal.specs.Counts.{seen_on}
use Rattle.fr_journal.specs.Forms.{Entry}
use Rattle.fr_journal.specs.declared.entry.Entry.TheVariants.{Commit, Withdraw, Read, Pop, Fetch, Observe}
use Rattle.fr_slots.specs.declared.channel.Channel.{Channel}
use Rattle.fr_slots.specs.declared.channel.Channel.TheVariants.{A, B}
use Rattle.fr_slots.specs.History.{each_after}
use Rattle.fr_slots.specs.Windows.{Opportunity, slot_of}
use Rattle.fr_status.specs.Forms.{Seen}

-- An observation on a channel: the start of the window, its cycle count, and the slot that the channel had open, if
-- any. It also has the frame that the fetch of the window handed to the bus there, if any, and the receivers of the
-- frame that came.
pub record Sighting : Type 0 where
  pub time : ℕ
  pub cycle : ℕ
  pub slot : Option ℕ
  pub channel : Channel
  pub seen : Seen
  pub handed : Option (ArrayVec ℕ)
  pub takers : List Taker

-- the frame that the fetch of this number handed to the bus on the channel
abbrev pub handed_by : State → Option ℕ → Channel → Option (ArrayVec ℕ)
handed_by s fetch channel = option_and_then (λ number. bytes_handed s number channel) fetch

abbrev pub sighting_with : State → ℕ → Option ℕ → Opportunity → Channel → Seen → List Taker → Sighting
sighting_with s time fetch w channel seen takers =
    record {
      time = time;
      cycle = w.cycle;
      slot = slot_of w channel;
      channel = channel;
      seen = seen;
      handed = handed_by s fetch channel;
      takers = takers;
    }

-- of the observations on channels A and B of a window, that on one of them
abbrev pub sighting : State → ℕ → Option ℕ → Opportunity → Seen → Seen → Channel → Sighting
sighting s time fetch w a b channel =
    sighting_with s time fetch w channel (seen_on channel a b) (takers_of s.params s.plan w a b channel None)

-- in a window, channel A before B; a legal journal observes only in a window
abbrev pub in_window : State → List Entry → Option Opportunity → Seen → Seen → List Sighting
in_window s before None a b = []
in_window s before (Some w) a b =
    sighting s (time_of s.params before w) (last_fetch before) w a b A
    ∷ sighting s (time_of s.params before w) (last_fetch before) w a b B ∷ []

abbrev pub sightings_at : State → List Entry → Entry → List Sighting
sightings_at s before (Commit task buffer payload) = []
sightings_at s before (Withdraw task buffer of) = []
sightings_at s before (Read task buffer from) = []
sightings_at s before (Pop task from) = []
sightings_at s before (Fetch window a b) = []
sightings_at s before (Observe window a b) = in_window s before (last_window before) a b

-- the observations of the first entries of an interface in order, and of all entries
abbrev pub sightings_in : State → List Entry → List Sighting
sightings_in s entries = each_after (sightings_at s) [] entries

abbrev pub sightings : State → List Sighting
sightings s = sightings_in s s.entries
