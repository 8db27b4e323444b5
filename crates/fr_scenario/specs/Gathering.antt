-- The lines that are kept of those that were read, while further lines may come.
use Rattle.std.specs.Prelude.{ℕ, ◌+◌, ◌*◌, List, [], ◌∷◌, ◌++◌, replicate, slice_set, slice_index_or, Result, Ok, Err}
use Rattle.fr_core.specs.declared.script.Line.{Line}
use Rattle.fr_core.specs.Scripts.{Scripted}
use Rattle.fr_runs.specs.declared.fault_line.FaultLine.{FaultLine}
use Rattle.fr_scenario.specs.Contents.{script_of, node_at, task_at, task_count}
use Rattle.fr_scenario.specs.declared.error.ScenarioError.{ScenarioError}
use Rattle.fr_scenario.specs.declared.spelled.SpelledLine.{SpelledLine}
use Rattle.fr_scenario.specs.declared.spelled.SpelledLine.TheVariants.{Host, Fault as FaultOf}
use Rattle.fr_scenario.specs.Reading.{Read}
use Rattle.fr_slots.specs.Numbers.{most_tasks}

-- the lines of each task, and the fault lines with their numbers
pub record Kept : Type 0 where
  pub tasks : List (List Line)
  pub faults : List FaultLine
  pub numbers : List ℕ

abbrev pub none_yet : Kept
none_yet = record { tasks = replicate task_count []; faults = []; numbers = [] }

-- the place of a node's task among all tasks
abbrev pub place_of : ℕ → ℕ → ℕ
place_of node task = most_tasks * node + task

-- with one more line of the task at this place
abbrev pub with_task_line : ℕ → Line → List (List Line) → List (List Line)
with_task_line place line tasks = slice_set tasks place (slice_index_or tasks place [] ++ line ∷ [])

-- with the line of number n
abbrev pub with_line : ℕ → Kept → SpelledLine → Kept
with_line n g (Host node task line) =
    record { tasks = with_task_line (place_of node task) line g.tasks; faults = g.faults; numbers = g.numbers }
with_line n g (FaultOf f) =
    record { tasks = g.tasks; faults = g.faults ++ f ∷ []; numbers = g.numbers ++ n ∷ [] }

-- with these lines, of which the first has number n
abbrev pub with_lines : ℕ → Kept → List SpelledLine → Kept
with_lines n g [] = g
with_lines n g (line ∷ lines) = with_lines (n + 1) (with_line n g line) lines

-- the lines that are kept once these lines have come too, of which the first has number n
abbrev pub kept_from : ℕ → Kept → Read → Result Kept ScenarioError
kept_from n g (Ok lines) = Ok (with_lines n g lines)
kept_from n g (Err e) = Err e

-- the scripts of the tasks from this place on
abbrev pub scripts_from : ℕ → List (List Line) → List Scripted
scripts_from place [] = []
scripts_from place (lines ∷ tasks) = script_of (node_at place) (task_at place) lines ++ scripts_from (place + 1) tasks
