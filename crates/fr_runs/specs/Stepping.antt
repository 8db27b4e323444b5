-- Calls of tasks in the cycles of their lines (project-defined).
use Rattle.std.specs.Prelude.{◌≡◌, ℕ, ◌==◌, Bool, true, false, List, [], ◌∷◌, take, slice_get, count_by}
use Rattle.std.specs.Prelude.{Option, Some, None, IfSome, if◌then◌else◌}
use Rattle.fr_bus.specs.Record.{Recorded}
use Rattle.fr_bus.specs.Windows.{begins_cycle, cycles_begun}
use Rattle.fr_core.specs.declared.script.Line.{Line}
use Rattle.fr_core.specs.Scripts.{Scripted, is_for}
use Rattle.fr_core.specs.Settling.{EachNode, IfThere}
use Rattle.fr_interface.specs.State.{State}
use Rattle.fr_journal.specs.Forms.{Entry}
use Rattle.fr_journal.specs.declared.entry.Entry.TheVariants.{Commit, Withdraw, Read, Pop, Fetch, Observe}

-- ---- entries

abbrev pub is_fetch : Entry → Bool
is_fetch (Commit task buffer payload) = false
is_fetch (Withdraw task buffer of) = false
is_fetch (Read task buffer from) = false
is_fetch (Pop task from) = false
is_fetch (Fetch window a b) = true
is_fetch (Observe number a b) = false

abbrev pub is_observe : Entry → Bool
is_observe (Commit task buffer payload) = false
is_observe (Withdraw task buffer of) = false
is_observe (Read task buffer from) = false
is_observe (Pop task from) = false
is_observe (Fetch window a b) = false
is_observe (Observe number a b) = true

-- the task that made the call, if a task did
abbrev pub task_of : Entry → Option ℕ
task_of (Commit task buffer payload) = Some task
task_of (Withdraw task buffer of) = Some task
task_of (Read task buffer from) = Some task
task_of (Pop task from) = Some task
task_of (Fetch window a b) = None
task_of (Observe number a b) = None

abbrev pub is_task : ℕ → Option ℕ → Bool
is_task task None = false
is_task task (Some of) = of == task

-- the task made the call
abbrev pub is_by : ℕ → Entry → Bool
is_by task e = is_task task (task_of e)

-- ---- lines

-- the lines of the first script for the task
abbrev pub lines_given : List Scripted → ℕ → ℕ → List Line
lines_given [] node task = []
lines_given (script ∷ scripts) node task =
    if is_for node task script then script.lines else lines_given scripts node task

-- ---- the times of calls

abbrev pub is_beginning : Option Recorded → Bool
is_beginning None = false
is_beginning (Some r) = begins_cycle r

-- The call after these entries is in step with this cycle of the run. All windows of the earlier cycles were fetched
-- and observed, and the next window of the record is the first of this cycle.
pub record IsInStep (rs : List Recorded) (cycle : ℕ) (before : List Entry) : Type 0 where
  pub cycle_is : cycles_begun (take (count_by is_fetch before) rs) ≡ cycle
  pub beginning : is_beginning (slice_get rs (count_by is_fetch before)) ≡ true
  pub observed : count_by is_observe before ≡ count_by is_fetch before

-- if the entry is a task's, it is in step with the cycle of the task's next line
abbrev pub IsInTurn : List Recorded → List Scripted → ℕ → List Entry → Entry → Type 0
IsInTurn rs scripts node before e =
    IfSome (task_of e) (λ task.
    IfSome (slice_get (lines_given scripts node task) (count_by (is_by task) before)) (λ line.
    IsInStep rs line.cycle before))

abbrev pub IsInTurnAt : List Recorded → List Scripted → ℕ → List Entry → ℕ → Type 0
IsInTurnAt rs scripts node entries k = IfSome (slice_get entries k) (IsInTurn rs scripts node (take k entries))

-- in the journal of the node, each call came in the cycle of its line
abbrev pub IsStepped : List Recorded → List Scripted → ℕ → State → Type 0
IsStepped rs scripts node s = (k : ℕ) → IsInTurnAt rs scripts node s.entries k

abbrev pub IsSteppedAt : List Recorded → List Scripted → List State → ℕ → Type 0
IsSteppedAt rs scripts is node = IfThere (slice_get is node) (IsStepped rs scripts node)

-- the same in the journal of each node
abbrev pub AreStepped : List Recorded → List Scripted → List State → Type 0
AreStepped rs scripts is = EachNode (IsSteppedAt rs scripts is)
