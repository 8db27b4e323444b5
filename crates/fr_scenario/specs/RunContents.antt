-- The contents of a scenario of version 3 in a run of so many cycles. A line has the statements of the lines for which
-- it stands.
use Rattle.std.specs.Prelude.{ℕ, ◌+◌, ◌==◌, ◌&&◌, not, Bool, false, nat_lt, List, [], ◌∷◌, ◌++◌, length, map}
use Rattle.std.specs.Prelude.{count_by, None, Result, Ok, Err, if◌then◌else◌}
use Rattle.std.specs.List.{flat_map, list_all, range_with_len, sum_by}
use Rattle.fr_core.specs.declared.script.Line.{Line}
use Rattle.fr_core.specs.Scripts.{Scripted}
use Rattle.fr_expecting.specs.declared.expectation.Expectation.{Expectation}
use Rattle.fr_interface.specs.declared.call.Call.{Call}
use Rattle.fr_runs.specs.Cycles.{names_cycle}
use Rattle.fr_runs.specs.declared.cycles.RunCycles.{RunCycles}
use Rattle.fr_runs.specs.declared.fault_line.FaultLine.{FaultLine}
use Rattle.fr_runs.specs.Striking.{line_within}
use Rattle.fr_runs.specs.Suiting.{has_cycle}
use Rattle.fr_scenario.specs.Contents.{Contents, script_of, node_at, task_at, task_count}
use Rattle.fr_scenario.specs.declared.error.ScenarioError.{ScenarioError}
use Rattle.fr_scenario.specs.declared.error.ScenarioError.TheVariants.{TooManyLines, TooManyCalls}
use Rattle.fr_scenario.specs.declared.statement.Statement.{Statement}
use Rattle.fr_scenario.specs.declared.statement.Statement.TheVariants.{Nothing, Calls, Fault, Faults, Expected}
use Rattle.fr_scenario.specs.ScenarioText.{most_lines}

-- ---- the calls of a task

-- a call and the cycles in which it is made
abbrev pub Planned : Type 0
Planned = RunCycles × Call

-- the calls of the lines of a task of a node, in their order
abbrev pub planned : ℕ → ℕ → List Statement → List Planned
planned n t [] = []
planned n t (Nothing ∷ statements) = planned n t statements
planned n t (Calls node task cycles call ∷ statements) =
    if node == n && task == t then (cycles, call) ∷ planned n t statements else planned n t statements
planned n t (Fault f ∷ statements) = planned n t statements
planned n t (Faults a b ∷ statements) = planned n t statements
planned n t (Expected node cycles buffer payload ∷ statements) = planned n t statements

-- the line of a call in this cycle; its answer isn't known
abbrev pub line_at : ℕ → Call → Line
line_at cycle call = record { cycle = cycle; action = call; answer = None }

-- the calls that name this cycle, in the order of their lines
abbrev pub lines_at : List Planned → ℕ → List Line
lines_at [] cycle = []
lines_at ((cycles, call) ∷ more) cycle =
    if names_cycle cycles cycle then line_at cycle call ∷ lines_at more cycle else lines_at more cycle

-- cycle after cycle, so the order of lines matters only within a cycle
abbrev pub lines_in_run : ℕ → List Planned → List Line
lines_in_run cycles plans = flat_map (lines_at plans) (range_with_len 0 cycles)

abbrev pub script_in_run : ℕ → List Statement → ℕ → List Scripted
script_in_run cycles statements k =
    script_of (node_at k) (task_at k) (lines_in_run cycles (planned (node_at k) (task_at k) statements))

-- the scripts, by node and then task
unfoldable pub scripts_in_run : ℕ → List Statement → List Scripted
scripts_in_run cycles statements = flat_map (script_in_run cycles statements) (range_with_len 0 task_count)

-- ---- the calls of all tasks, counted

abbrev pub calls_of : ℕ → Statement → ℕ
calls_of cycles Nothing = 0
calls_of cycles (Calls node task named call) = count_by (names_cycle named) (range_with_len 0 cycles)
calls_of cycles (Fault f) = 0
calls_of cycles (Faults a b) = 0
calls_of cycles (Expected node named buffer payload) = 0

-- a call counts once for each cycle of the run that its line names
abbrev pub calls_in_run : ℕ → List Statement → ℕ
calls_in_run cycles statements = sum_by (calls_of cycles) statements

abbrev pub most_calls : ℕ
most_calls = 262144

-- ---- fault lines

abbrev pub faults_of : Statement → List FaultLine
faults_of Nothing = []
faults_of (Calls node task cycles call) = []
faults_of (Fault f) = f ∷ []
faults_of (Faults a b) = a ∷ b ∷ []
faults_of (Expected node cycles buffer payload) = []

-- the line names cycles, but none that the run has
abbrev pub is_skipped : ℕ → Statement → Bool
is_skipped cycles Nothing = false
is_skipped cycles (Calls node task named call) = not (has_cycle cycles named)
is_skipped cycles (Fault f) = not (has_cycle cycles f.cycles)
is_skipped cycles (Faults a b) = not (has_cycle cycles a.cycles)
is_skipped cycles (Expected node named buffer payload) = not (has_cycle cycles named)

-- without the cycles that the run lacks
abbrev pub faults_left : ℕ → Statement → List FaultLine
faults_left cycles statement =
    if is_skipped cycles statement then [] else map (line_within cycles) (faults_of statement)

-- those of a line
abbrev pub faults_on_line : ℕ → List Statement → List FaultLine
faults_on_line cycles line = flat_map (faults_left cycles) line

abbrev pub faults_in_run : ℕ → List (List Statement) → List FaultLine
faults_in_run cycles lines = flat_map (faults_on_line cycles) lines

-- the number of the line of each fault line, if the first of these lines has number n
abbrev pub numbers_in_run : ℕ → ℕ → List (List Statement) → List ℕ
numbers_in_run cycles n [] = []
numbers_in_run cycles n (line ∷ lines) =
    map (λ f. n) (faults_on_line cycles line) ++ numbers_in_run cycles (n + 1) lines

-- the line has statements, and each is skipped
abbrev pub is_line_skipped : ℕ → List Statement → Bool
is_line_skipped cycles [] = false
is_line_skipped cycles (statement ∷ statements) = list_all (is_skipped cycles) (statement ∷ statements)

-- the numbers of the lines that are skipped, if the first of these lines has number n
abbrev pub skipped_in_run : ℕ → ℕ → List (List Statement) → List ℕ
skipped_in_run cycles n [] = []
skipped_in_run cycles n (line ∷ lines) =
    if is_line_skipped cycles line then n ∷ skipped_in_run cycles (n + 1) lines
    else skipped_in_run cycles (n + 1) lines

-- ---- expectations

-- that of the line of this number, if it has one
abbrev pub expected_of : ℕ → Statement → List Expectation
expected_of n Nothing = []
expected_of n (Calls node task cycles call) = []
expected_of n (Fault f) = []
expected_of n (Faults a b) = []
expected_of n (Expected node cycles buffer payload) =
    record { line = n; node = node; cycles = cycles; buffer = buffer; payload = payload } ∷ []

abbrev pub expected_left : ℕ → ℕ → Statement → List Expectation
expected_left cycles n statement = if is_skipped cycles statement then [] else expected_of n statement

-- those of a line
abbrev pub expected_on_line : ℕ → ℕ → List Statement → List Expectation
expected_on_line cycles n line = flat_map (expected_left cycles n) line

-- those of all lines, if the first of these lines has number n
abbrev pub expected_in_run : ℕ → ℕ → List (List Statement) → List Expectation
expected_in_run cycles n [] = []
expected_in_run cycles n (line ∷ lines) = expected_on_line cycles n line ++ expected_in_run cycles (n + 1) lines

-- ---- the contents

-- the statements of all lines
abbrev pub statements_of : List (List Statement) → List Statement
statements_of lines = flat_map (λ line. line) lines

abbrev pub run_contents : ℕ → List (List Statement) → Contents
run_contents cycles lines = record {
  scripts = scripts_in_run cycles (statements_of lines);
  faults = faults_in_run cycles lines;
  numbers = numbers_in_run cycles 2 lines;
  skipped = skipped_in_run cycles 2 lines;
  expected = expected_in_run cycles 2 lines;
}

-- each statement counts as a line, and so do the first and the last line
abbrev pub has_too_many_lines : List (List Statement) → Bool
has_too_many_lines lines = nat_lt most_lines (sum_by (λ line. length line) lines + 2)

abbrev pub has_too_many_calls : ℕ → List (List Statement) → Bool
has_too_many_calls cycles lines = nat_lt most_calls (calls_in_run cycles (statements_of lines))

-- too many lines and too many calls are refused once all lines are read
abbrev pub with_run_contents : ℕ → Result (List (List Statement)) ScenarioError → Result Contents ScenarioError
with_run_contents cycles (Err e) = Err e
with_run_contents cycles (Ok lines) =
    if has_too_many_lines lines then Err TooManyLines
    else if has_too_many_calls cycles lines then Err TooManyCalls
    else Ok (run_contents cycles lines)
