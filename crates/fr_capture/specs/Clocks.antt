-- The window fetched last with its time, entry by entry, as the code goes along a journal. The proofs show that it
-- agrees with `Moments`.
use Rattle.std.specs.Prelude.{◌≡◌, ℕ, ◌+◌, ◌*◌, ◌≤◌, List, [], ◌∷◌, Option, Some, None, nat_le, if◌then◌else◌}
use Rattle.fr_capture.specs.declared.moment.Moment.{Moment}
use Rattle.fr_capture.specs.Moments.{last_fetch, last_window, place_in_round, round_length, rounds}
use Rattle.fr_capture.specs.Sightings.{Sighting, sighting}
use Rattle.fr_interface.specs.State.{State}
use Rattle.fr_journal.specs.Forms.{Entry}
use Rattle.fr_journal.specs.declared.entry.Entry.TheVariants.{Commit, Withdraw, Read, Pop, Fetch, Observe}
use Rattle.fr_slots.specs.declared.channel.Channel.{Channel}
use Rattle.fr_slots.specs.declared.channel.Channel.TheVariants.{A, B}
use Rattle.fr_slots.specs.Parameters.{Parameters}
use Rattle.fr_slots.specs.Windows.{Opportunity}
use Rattle.fr_status.specs.Forms.{Seen}

abbrev pub time_at : Parameters → Moment → ℕ
time_at p m = m.rounds * round_length p + m.place

-- the rounds that are completed at a window of this place
abbrev pub rounds_at : ℕ → Option Moment → ℕ
rounds_at place None = 0
rounds_at place (Some m) = if nat_le place m.place then m.rounds + 1 else m.rounds

abbrev pub moment_of : Parameters → Opportunity → ℕ → Option Moment → Moment
moment_of p w number last =
    record { window = w; entry = number; rounds = rounds_at (place_in_round p w) last; place = place_in_round p w }

-- the moment after the entry of this number
abbrev pub moment_after : Parameters → Option Moment → ℕ → Entry → Option Moment
moment_after p last number (Commit task buffer payload) = last
moment_after p last number (Withdraw task buffer of) = last
moment_after p last number (Read task buffer from) = last
moment_after p last number (Pop task from) = last
moment_after p last number (Fetch window a b) = Some (moment_of p window number last)
moment_after p last number (Observe window a b) = last

-- the observation of an entry after that
abbrev pub sighting_at : State → Moment → Seen → Seen → Channel → Sighting
sighting_at s m a b channel = sighting s (time_at s.params m) (Some m.entry) m.window a b channel

abbrev pub in_moment : State → Option Moment → Seen → Seen → List Sighting
in_moment s None a b = []
in_moment s (Some m) a b = sighting_at s m a b A ∷ sighting_at s m a b B ∷ []

abbrev pub seen_after : State → Option Moment → Entry → List Sighting
seen_after s last (Commit task buffer payload) = []
seen_after s last (Withdraw task buffer of) = []
seen_after s last (Read task buffer from) = []
seen_after s last (Pop task from) = []
seen_after s last (Fetch window a b) = []
seen_after s last (Observe window a b) = in_moment s last a b

-- at most this number of rounds is completed
abbrev pub HasRounds : ℕ → Option Moment → Type 0
HasRounds most None = Unit {0}
HasRounds most (Some m) = m.rounds ≤ most

-- the moment is the one that follows from the entries before
abbrev pub IsMoment : Parameters → List Entry → Option Moment → Type 0
IsMoment p before None = (last_window before ≡ None) × (rounds p before ≡ 0)
IsMoment p before (Some m) =
    (last_window before ≡ Some m.window) × (m.place ≡ place_in_round p m.window) × (m.rounds ≡ rounds p before)
    × (last_fetch before ≡ Some m.entry)
