-- The cycle barrier of a lockstep run: the times for the lines of a cycle and for its first fetch (project-defined).
use Rattle.std.specs.Prelude.{ℕ, ◌-◌, ◌==◌, nat_le, nat_lt, Bool, true, false, not, ◌&&◌, ◌||◌, Option, Some, None}
use Rattle.std.specs.Prelude.{if◌then◌else◌}
use Rattle.fr_threads.specs.declared.pace.Progress.{Progress}

-- the lines of the cycle came due, if those of this cycle came due last
abbrev pub is_due : ℕ → Option ℕ → Bool
is_due cycle None = false
is_due cycle (Some last) = nat_le cycle last

-- a task that has lines in the cycle waits until they are due
abbrev pub awaits_due : ℕ → Progress → Bool
awaits_due cycle p = not (is_due cycle p.due) && not p.stopped

-- a controller that is to begin the cycle waits until its lines are executed
abbrev pub awaits_done : ℕ → Progress → Bool
awaits_done cycle p = (not (is_due cycle p.due) || nat_lt 0 p.busy) && not p.stopped

-- the controller that arrives is the last one
abbrev pub is_last : Progress → Bool
is_last p = nat_le p.missing 1

-- A controller arrived that is to begin the cycle, in which this number of tasks have lines. With the last of the
-- controllers the lines are due, and all controllers are missing again.
abbrev pub arrived : ℕ → ℕ → ℕ → Progress → Progress
arrived nodes cycle tasks p =
    if is_last p then record p { missing = nodes; due = Some cycle; busy = tasks }
    else record p { missing = p.missing - 1 }

-- a task has executed its lines of the cycle that came due last
abbrev pub task_done : Progress → Progress
task_done p = record p { busy = p.busy - 1 }

abbrev pub halted : Progress → Progress
halted p = record p { stopped = true }
