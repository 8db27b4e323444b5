-- The marks of short entries. A mark is a fetch or an observe, where a window opens or closes.
use Rattle.std.specs.Prelude.{◌≡◌, ℕ, ◌≤◌, List, take, slice_get, Option, Some, None, IfSome}
use Rattle.std.specs.Option.{option_and_then}
use Rattle.fr_journal.specs.Forms.{Entry, ShortEntry}
use Rattle.fr_journal.specs.declared.entry.Entry.TheVariants.{Commit, Withdraw, Read, Pop, Fetch, Observe}
use Rattle.fr_journal.specs.OpenWindow.{open_window}
use Rattle.fr_slots.specs.Windows.{Opportunity}

-- the window that a fetch opened
abbrev pub fetched_window : ShortEntry → Option Opportunity
fetched_window (Commit task buffer payload) = None
fetched_window (Withdraw task buffer of) = None
fetched_window (Read task buffer from) = None
fetched_window (Pop task from) = None
fetched_window (Fetch window a b) = Some window
fetched_window (Observe window a b) = None

-- the place of the last mark before an observe
abbrev pub last_mark : ShortEntry → Option ℕ
last_mark (Commit task buffer payload) = None
last_mark (Withdraw task buffer of) = None
last_mark (Read task buffer from) = None
last_mark (Pop task from) = None
last_mark (Fetch window a b) = None
last_mark (Observe window a b) = Some window.last_mark

abbrev pub fetched_at : List ShortEntry → ℕ → Option Opportunity
fetched_at shorts place = option_and_then fetched_window (slice_get shorts place)

abbrev pub mark_at : List ShortEntry → ℕ → Option ℕ
mark_at shorts place = option_and_then last_mark (slice_get shorts place)

-- the window that the entry at this mark fetched, if any, is the one that is open at the place
pub record TellsOpen (shorts : List ShortEntry) (entries : List Entry) (place mark : ℕ) : Type 0 where
  pub before : mark ≤ place
  pub opens : fetched_at shorts mark ≡ open_window (take place entries)

-- the mark of each observe has the window that is open at its place
abbrev pub AreMarked : List ShortEntry → List Entry → Type 0
AreMarked shorts entries =
    (place : ℕ) (s : ShortEntry) → slice_get shorts place ≡ Some s
    → IfSome (last_mark s) (TellsOpen shorts entries place)
