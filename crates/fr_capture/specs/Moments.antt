-- The times of a journal's windows. The time is counted in microseconds from the start of the round of 64 cycles of the
-- first window, and a macrotick is one microsecond (project-defined).
use Rattle.std.specs.Prelude.{ℕ, ◌+◌, ◌*◌, nat_le, Bool, false, List, [], length, Option, Some, None, unwrap_or}
use Rattle.std.specs.Prelude.{if◌then◌else◌}
use Rattle.fr_journal.specs.Forms.{Entry}
use Rattle.fr_journal.specs.declared.entry.Entry.TheVariants.{Commit, Withdraw, Read, Pop, Fetch, Observe}
use Rattle.fr_slots.specs.History.{last_after, count_after}
use Rattle.fr_slots.specs.Numbers.{cycle_count}
use Rattle.fr_slots.specs.Parameters.{Parameters}
use Rattle.fr_slots.specs.Windows.{Opportunity, is_static}
use Rattle.fr_timing.specs.declared.place.Place.{Place}
use Rattle.fr_timing.specs.declared.place.Place.TheVariants.{Static, Minislot}
use Rattle.fr_timing.specs.Division.{start_at}

-- ---- in the cycle

-- the place where a window begins: its static slot, or its minislot
abbrev pub place_of : Opportunity → Place
place_of w = if is_static w then Static (unwrap_or w.a 1) 0 else Minislot w.minislot 0

-- the macrotick of the cycle at which it begins; each window of a cluster has one
abbrev pub start_of : Parameters → Opportunity → ℕ
start_of p w = unwrap_or (start_at p (place_of w)) 0

-- ---- in the round of 64 cycles

abbrev pub place_in_round : Parameters → Opportunity → ℕ
place_in_round p w = w.cycle * p.cycle_mt + start_of p w

abbrev pub round_length : Parameters → ℕ
round_length p = cycle_count * p.cycle_mt

-- ---- in the journal

abbrev pub fetched : List Entry → Entry → Option Opportunity
fetched before (Commit task buffer payload) = None
fetched before (Withdraw task buffer of) = None
fetched before (Read task buffer from) = None
fetched before (Pop task from) = None
fetched before (Fetch window a b) = Some window
fetched before (Observe window a b) = None

-- the window that was fetched last; an observe closes this one
abbrev pub last_window : List Entry → Option Opportunity
last_window entries = last_after fetched [] entries

-- the number of the entry that fetched it
abbrev pub fetch_number : List Entry → Entry → Option ℕ
fetch_number before (Commit task buffer payload) = None
fetch_number before (Withdraw task buffer of) = None
fetch_number before (Read task buffer from) = None
fetch_number before (Pop task from) = None
fetch_number before (Fetch window a b) = Some (length before)
fetch_number before (Observe window a b) = None

abbrev pub last_fetch : List Entry → Option ℕ
last_fetch entries = last_after fetch_number [] entries

-- A window of the next round. The numbers of windows rise, so a window that isn't later in its round than the one
-- before can't be of the same round.
abbrev pub is_not_later : Parameters → Opportunity → Option Opportunity → Bool
is_not_later p w None = false
is_not_later p w (Some before) = nat_le (place_in_round p w) (place_in_round p before)

abbrev pub begins_round : Parameters → List Entry → Entry → Bool
begins_round p before (Commit task buffer payload) = false
begins_round p before (Withdraw task buffer of) = false
begins_round p before (Read task buffer from) = false
begins_round p before (Pop task from) = false
begins_round p before (Fetch window a b) = is_not_later p window (last_window before)
begins_round p before (Observe window a b) = false

-- the number of completed rounds
abbrev pub rounds : Parameters → List Entry → ℕ
rounds p entries = count_after (begins_round p) [] entries

-- the time of the window that was fetched last
abbrev pub time_of : Parameters → List Entry → Opportunity → ℕ
time_of p entries w = rounds p entries * round_length p + place_in_round p w
