-- The window that is open after some entries: a fetch opens it, and an observe closes it.
use Rattle.std.specs.Prelude.{ℕ, List, [], Option, Some, None}
use Rattle.std.specs.Option.{option_and_then}
use Rattle.fr_journal.specs.Forms.{Entry}
use Rattle.fr_journal.specs.declared.entry.Entry.TheVariants.{Commit, Withdraw, Read, Pop, Fetch, Observe}
use Rattle.fr_slots.specs.History.{last_after}
use Rattle.fr_slots.specs.Windows.{Opportunity}

abbrev pub window_mark : List Entry → Entry → Option (Option Opportunity)
window_mark before (Commit task buffer payload) = None
window_mark before (Withdraw task buffer of) = None
window_mark before (Read task buffer from) = None
window_mark before (Pop task from) = None
window_mark before (Fetch window a b) = Some (Some window)
window_mark before (Observe window a b) = Some None

abbrev pub open_window : List Entry → Option Opportunity
open_window entries = option_and_then (λ w. w) (last_after window_mark [] entries)

-- the window that an entry closes, after those before it
abbrev pub closed_window : List Entry → Entry → Option Opportunity
closed_window before (Commit task buffer payload) = None
closed_window before (Withdraw task buffer of) = None
closed_window before (Read task buffer from) = None
closed_window before (Pop task from) = None
closed_window before (Fetch window a b) = None
closed_window before (Observe window a b) = open_window before

abbrev pub fetched_number : List Entry → Entry → Option ℕ
fetched_number before (Commit task buffer payload) = None
fetched_number before (Withdraw task buffer of) = None
fetched_number before (Read task buffer from) = None
fetched_number before (Pop task from) = None
fetched_number before (Fetch window a b) = Some window.number
fetched_number before (Observe window a b) = None

-- the number of the last fetched window
abbrev pub last_number : List Entry → Option ℕ
last_number entries = last_after fetched_number [] entries
