-- The calls of a scenario of version 3, gathered for each cycle of a run, and then for each task.
use Rattle.std.specs.Prelude.{◌≡◌, ℕ, ◌==◌, ◌&&◌, ◌<◌, List, [], ◌∷◌, ◌++◌, slice_index_or, if◌then◌else◌}
use Rattle.std.specs.List.{flat_map, range_with_len}
use Rattle.fr_core.specs.declared.script.Line.{Line}
use Rattle.fr_interface.specs.declared.call.Call.{Call}
use Rattle.fr_runs.specs.Cycles.{names_cycle}
use Rattle.fr_runs.specs.declared.cycles.RunCycles.{RunCycles}
use Rattle.fr_scenario.specs.Contents.{node_at, task_at, task_count}
use Rattle.fr_scenario.specs.declared.statement.Statement.{Statement}
use Rattle.fr_scenario.specs.declared.statement.Statement.TheVariants.{Nothing, Calls, Fault, Faults, Expected}
use Rattle.fr_scenario.specs.RunContents.{line_at}

-- ---- the calls of a cycle

-- a node, its task, and a call of it
abbrev pub Made : Type 0
Made = ℕ × ℕ × Call

-- the call of the statement, in whatever cycle
abbrev pub calls_by : Statement → List Made
calls_by Nothing = []
calls_by (Calls node task named call) = (node, task, call) ∷ []
calls_by (Fault f) = []
calls_by (Faults a b) = []
calls_by (Expected node named buffer payload) = []

-- its call in this cycle
abbrev pub made_by : ℕ → Statement → List Made
made_by cycle Nothing = []
made_by cycle (Calls node task named call) = if names_cycle named cycle then (node, task, call) ∷ [] else []
made_by cycle (Fault f) = []
made_by cycle (Faults a b) = []
made_by cycle (Expected node named buffer payload) = []

-- the calls of the statements in this cycle, in their order
abbrev pub made_at : ℕ → List Statement → List Made
made_at cycle statements = flat_map (made_by cycle) statements

-- ---- the places of the statements that make them

-- the calls of the statements at these places, counted from 0
abbrev pub calls_at : List Statement → List ℕ → List Made
calls_at statements places = flat_map (λ place. calls_by (slice_index_or statements place Nothing)) places

-- the place, if this cycle is named
abbrev pub place_in : RunCycles → ℕ → ℕ → List ℕ
place_in named place cycle = if names_cycle named cycle then place ∷ [] else []

-- the place of the statement, if it makes a call in this cycle
abbrev pub place_by : Statement → ℕ → ℕ → List ℕ
place_by Nothing place cycle = []
place_by (Calls node task named call) place cycle = place_in named place cycle
place_by (Fault f) place cycle = []
place_by (Faults a b) place cycle = []
place_by (Expected node named buffer payload) place cycle = []

-- the new places of each cycle of the run are the old ones and this one, if the cycle is named
abbrev pub AddsPlace : ℕ → RunCycles → ℕ → List (List ℕ) → List (List ℕ) → Type 0
AddsPlace cycles named place old new = (cycle : ℕ) → cycle < cycles
    → slice_index_or new cycle [] ≡ slice_index_or old cycle [] ++ place_in named place cycle

-- the same with the place of a statement
abbrev pub AddsPlaces : ℕ → Statement → ℕ → List (List ℕ) → List (List ℕ) → Type 0
AddsPlaces cycles statement place old new = (cycle : ℕ) → cycle < cycles
    → slice_index_or new cycle [] ≡ slice_index_or old cycle [] ++ place_by statement place cycle

-- the places of each cycle of the run are those of the statements that make its calls
abbrev pub ArePlaces : ℕ → List Statement → List (List ℕ) → Type 0
ArePlaces cycles statements places = (cycle : ℕ) → cycle < cycles
    → calls_at statements (slice_index_or places cycle []) ≡ made_at cycle statements

-- ---- the lines of a task

-- the lines of the task's calls in this cycle
abbrev pub lines_of : ℕ → ℕ → ℕ → List Made → List Line
lines_of n t cycle [] = []
lines_of n t cycle ((node, task, call) ∷ made) =
    if node == n && task == t then line_at cycle call ∷ lines_of n t cycle made else lines_of n t cycle made

-- the new lines of each task are the old ones and those of its calls in this cycle
abbrev pub AddsLines : ℕ → List Made → List (List Line) → List (List Line) → Type 0
AddsLines cycle made old new = (k : ℕ) → k < task_count
    → slice_index_or new k [] ≡ slice_index_or old k [] ++ lines_of (node_at k) (task_at k) cycle made

-- the lines of each task are those of its calls at these places, cycle after cycle
abbrev pub AreLines : ℕ → List Statement → List (List ℕ) → List (List Line) → Type 0
AreLines cycles statements places tasks = (k : ℕ) → k < task_count
    → slice_index_or tasks k [] ≡ flat_map (λ cycle. lines_of (node_at k) (task_at k) cycle
    (calls_at statements (slice_index_or places cycle []))) (range_with_len 0 cycles)
