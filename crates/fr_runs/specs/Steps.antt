-- The progress of a walk along a journal: the counts of the entries before.
use Rattle.std.specs.Prelude.{◌≡◌, ℕ, ◌≤◌, List, length, take, slice_get, count_by, Some, true, IfSome}
use Rattle.fr_bus.specs.Record.{Recorded}
use Rattle.fr_bus.specs.Windows.{cycles_begun}
use Rattle.fr_core.specs.declared.script.Line.{Line}
use Rattle.fr_journal.specs.Forms.{Entry}
use Rattle.fr_runs.specs.declared.stepping.Progress.{Progress}
use Rattle.fr_runs.specs.Stepping.{is_fetch, is_observe, is_by, is_beginning}
use Rattle.fr_slots.specs.Numbers.{most_tasks}

-- so many entries of a task are among these
abbrev pub IsCountOf : List Entry → ℕ → ℕ → Type 0
IsCountOf entries task count = count ≡ count_by (is_by task) entries

pub record IsProgress (rs : List Recorded) (before : List Entry) (x : Progress) : Type 0 where
  pub fetches : x.fetches ≡ count_by is_fetch before
  pub observes : x.observes ≡ count_by is_observe before
  pub begun : x.begun ≡ cycles_begun (take x.fetches rs)
  pub as_many : length x.calls ≡ most_tasks
  pub calls : (task : ℕ) (count : ℕ) → slice_get x.calls task ≡ Some count → IsCountOf before task count

-- the next call is in step with this cycle
pub record Stands (rs : List Recorded) (cycle : ℕ) (x : Progress) : Type 0 where
  pub begun : x.begun ≡ cycle
  pub beginning : is_beginning (slice_get rs x.fetches) ≡ true
  pub observed : x.observes ≡ x.fetches

-- if the task has a line after so many others, the next call is in step with its cycle
abbrev pub StandsFor : List Recorded → List Line → ℕ → Progress → Type 0
StandsFor rs lines place x = IfSome (slice_get lines place) (λ line. Stands rs line.cycle x)
