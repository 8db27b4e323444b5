-- The fields of `Gathered` as the lines that are kept.
use Rattle.std.specs.Prelude.{◌≡◌, map, length}
use Rattle.fr_scenario.specs.Contents.{task_count}
use Rattle.fr_scenario.specs.declared.gathered.Gathered.TheInside.{Inside}
use Rattle.fr_scenario.specs.Gathering.{Kept}

abbrev pub kept_in : Inside → Kept
kept_in g =
    record { tasks = map (λ lines. lines.items) g.tasks.items; faults = g.faults.items; numbers = g.numbers.items }

-- each task has a place
abbrev pub HasAllTasks : Inside → Type 0
HasAllTasks g = length g.tasks.items ≡ task_count
