use Rattle.std.proofs.Common.{◌≡◌, ◌++◌, map, drop, length}
use Rattle.fr_scenario.specs.Gathering.{scripts_from}
use Rattle.fr_scenario.proofs.gathered.scripts_of.Given as goal

-- the scripts so far, and those of the tasks that are left
abbrev pub invariant-loop-place : goal.invariant-loop-place
invariant-loop-place l = record {
  len : length l.tasks.items ≡ 128;
  left : l.scripts.items ++ scripts_from l.place (map (λ lines. lines.items) (drop l.place l.tasks.items))
      ≡ scripts_from 0 (map (λ lines. lines.items) l.fn.tasks.items);
}
