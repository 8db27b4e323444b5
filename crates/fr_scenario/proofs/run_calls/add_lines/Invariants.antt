use Rattle.std.proofs.Common.{◌≡◌, ◌<◌, ℕ, ◌++◌, [], drop, get_or, map, length}
use Rattle.fr_scenario.specs.Contents.{node_at, task_at}
use Rattle.fr_scenario.specs.RunCalls.{calls_at, lines_of}
use Rattle.fr_scenario.proofs.run_calls.add_lines.Given as goal

-- the lines so far, and those of the places that are left
abbrev pub invariant-loop-place : goal.invariant-loop-place
invariant-loop-place l = record {
  len : length l.tasks.items ≡ 128;
  lines : (k : ℕ) → k < 128 → get_or (map (λ lines. lines.items) l.tasks.items) k []
      ++ lines_of (node_at k) (task_at k) l.cycle (calls_at l.statements (drop l.place-index l.places))
      ≡ get_or (map (λ lines. lines.items) l.fn.tasks.items) k []
      ++ lines_of (node_at k) (task_at k) l.cycle (calls_at l.statements l.places);
}
