-- The content of a receive buffer, as the code goes along a journal: the entries that it passed, the cycles that they
-- began, and the payload that they left (project-defined). The meaning is in `Expected`.
use Rattle.std.specs.Prelude.{◌≡◌, ℕ, ◌+◌, ◌≤◌, List, length, take, slice_get, count_by, Option, Some, None, option_map}
use Rattle.std.specs.Prelude.{if◌then◌else◌}
use Rattle.std.specs.Option.{option_and_then, option_or}
use Rattle.fr_journal.specs.Cycles.{begins_cycle_at}
use Rattle.fr_expecting.specs.declared.expectation.Expectation.{Expectation}
use Rattle.fr_expecting.specs.declared.missed.Found.{Found}
use Rattle.fr_expecting.specs.declared.missed.Found.TheVariants.{Nothing, Data}
use Rattle.fr_expecting.specs.declared.missed.Missed.{Missed}
use Rattle.fr_expecting.specs.declared.walk.Place.{Place}
use Rattle.fr_expecting.specs.Expected.{meets}
use Rattle.fr_frame.specs.Fields.{Fields}
use Rattle.fr_interface.specs.State.{State}
use Rattle.fr_journal.specs.declared.entry.Arrival.{Arrival}
use Rattle.fr_journal.specs.Forms.{Entry}
use Rattle.fr_journal.specs.Held.{held, frame_named}
use Rattle.fr_journal.specs.OpenWindow.{closed_window}
use Rattle.fr_slots.specs.declared.channel.Channel.{Channel}
use Rattle.fr_slots.specs.declared.channel.Channel.TheVariants.{A, B}
use Rattle.fr_slots.specs.declared.filter.Filter.{Filter}
use Rattle.fr_slots.specs.Parameters.{Parameters}
use Rattle.fr_slots.specs.Plans.{admits_window}
use Rattle.fr_slots.specs.Windows.{Opportunity}

abbrev pub payload_of : Fields → List ℕ
payload_of frame = frame.payload

abbrev pub payload_in : Arrival → List ℕ
payload_in arrival = arrival.frame.payload

-- the payload in a receive buffer with this filter, after some entries
abbrev pub payload_held : Parameters → Filter → List Entry → Option (List ℕ)
payload_held params filter entries = option_map payload_in (held params filter entries)

-- ---- one entry

-- the payload that the entry of this number brings on a channel of the window that it closes
abbrev pub payload_on : State → Filter → ℕ → Channel → Opportunity → Option (List ℕ)
payload_on s filter number channel window =
    if admits_window filter window channel
    then option_map payload_of (frame_named s.params s.entries (record { entry = number; channel = channel })) else None

-- on both channels: A's, if A has one, and otherwise B's
abbrev pub payload_from : State → Filter → ℕ → Opportunity → Option (List ℕ)
payload_from s filter number window =
    option_or (payload_on s filter number A window) (payload_on s filter number B window)

abbrev pub payload_at : State → Filter → ℕ → Option (List ℕ)
payload_at s filter number =
    option_and_then (payload_from s filter number)
    (option_and_then (closed_window (take number s.entries)) (slice_get s.entries number))

-- ---- a place in a journal

-- the entries before it, with the number of cycles that they began and the payload that they left in the buffer
pub record IsPlace (s : State) (filter : Filter) (place : Place) : Type 0 where
  pub within : place.next ≤ length s.entries
  pub begun_is : place.begun ≡ count_by begins_cycle_at (take place.next s.entries)
  pub held_is : place.held ≡ payload_held s.params filter (take place.next s.entries)

abbrev pub found_left : Option (List ℕ) → Found
found_left None = Nothing
found_left (Some payload) = Data payload

-- ---- one more cycle that misses an expectation

abbrev pub with_miss : Expectation → ℕ → Found → Option Missed → Option Missed
with_miss x cycle found None =
    Some record {
      line = x.line;
      node = x.node;
      buffer = x.buffer;
      wanted = x.payload;
      cycle = cycle;
      found = found;
      count = 1;
    }
with_miss x cycle found (Some missed) = Some (record missed { count = missed.count + 1 })

abbrev pub judged : Expectation → ℕ → Found → Option Missed → Option Missed
judged x cycle found missed = if meets x.payload found then missed else with_miss x cycle found missed
