-- The contents of a scenario: a script for each task that has calls, and fault lines, each with its number in the text.
use Rattle.std.specs.Prelude.{ℕ, ◌+◌, ◌/◌, ◌%◌, ◌==◌, ◌&&◌, List, [], ◌∷◌, if◌then◌else◌}
use Rattle.std.specs.List.{flat_map, range_with_len}
use Rattle.fr_core.specs.declared.script.Line.{Line}
use Rattle.fr_core.specs.Scripts.{Scripted}
use Rattle.fr_expecting.specs.declared.expectation.Expectation.{Expectation}
use Rattle.fr_runs.specs.declared.fault_line.FaultLine.{FaultLine}
use Rattle.fr_scenario.specs.declared.spelled.SpelledLine.{SpelledLine}
use Rattle.fr_scenario.specs.declared.spelled.SpelledLine.TheVariants.{Host, Fault as FaultOf}
use Rattle.fr_slots.specs.Numbers.{most_tasks}

pub record Contents : Type 0 where
  pub scripts : List Scripted
  pub faults : List FaultLine
  -- the number of each fault line among all lines of the text, counted from 1
  pub numbers : List ℕ
  -- the numbers of the lines of version 3 that name cycles, but none of the run
  pub skipped : List ℕ
  -- the expectations of version 3 that name a cycle of the run, in the order of their lines
  pub expected : List Expectation

-- ---- the contents of all lines

-- the lines of a task of a node, in their order
abbrev pub task_lines : ℕ → ℕ → List SpelledLine → List Line
task_lines n t [] = []
task_lines n t (Host node task line ∷ lines) =
    if node == n && task == t then line ∷ task_lines n t lines else task_lines n t lines
task_lines n t (FaultOf f ∷ lines) = task_lines n t lines

-- the fault lines, in their order
abbrev pub fault_lines : List SpelledLine → List FaultLine
fault_lines [] = []
fault_lines (Host node task line ∷ lines) = fault_lines lines
fault_lines (FaultOf f ∷ lines) = f ∷ fault_lines lines

-- the numbers of the fault lines, if the first of these lines has number n
abbrev pub fault_numbers : ℕ → List SpelledLine → List ℕ
fault_numbers n [] = []
fault_numbers n (Host node task line ∷ lines) = fault_numbers (n + 1) lines
fault_numbers n (FaultOf f ∷ lines) = n ∷ fault_numbers (n + 1) lines

-- a task without lines has no script
abbrev pub script_of : ℕ → ℕ → List Line → List Scripted
script_of n t [] = []
script_of n t (line ∷ lines) = record { node = n; task = t; lines = line ∷ lines } ∷ []

-- the tasks of 16 nodes with 8 tasks each, by node and then task: the first is task 0 of node 0
abbrev pub task_count : ℕ
task_count = 128

abbrev pub node_at : ℕ → ℕ
node_at k = k / most_tasks

abbrev pub task_at : ℕ → ℕ
task_at k = k % most_tasks

-- the script of the task of number k, if it has lines
abbrev pub script_at : List SpelledLine → ℕ → List Scripted
script_at lines k = script_of (node_at k) (task_at k) (task_lines (node_at k) (task_at k) lines)

-- the scripts, by node and then task
abbrev pub scripts_of : List SpelledLine → List Scripted
scripts_of lines = flat_map (script_at lines) (range_with_len 0 task_count)

-- line 1 of a text names its version, so the first of these lines is line 2
abbrev pub contents_of : List SpelledLine → Contents
contents_of lines = record {
  scripts = scripts_of lines;
  faults = fault_lines lines;
  numbers = fault_numbers 2 lines;
  skipped = [];
  expected = [];
}
