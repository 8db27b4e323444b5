use Rattle.std.proofs.Common.{◌≡◌, ◌<◌, ◌-◌, ℕ, ◌++◌, [], get_or, map, length}
use Rattle.std.specs.List.{flat_map, range_with_len}
use Rattle.fr_scenario.specs.Contents.{node_at, task_at}
use Rattle.fr_scenario.specs.RunCalls.{calls_at, lines_of}
use Rattle.fr_scenario.proofs.run_calls.lines_in_run.Given as goal

-- the lines so far, and those of the cycles that are left
abbrev pub invariant-loop-cycle : goal.invariant-loop-cycle
invariant-loop-cycle l = record {
  len : length l.tasks.items ≡ 128;
  lines : (k : ℕ) → k < 128 → get_or (map (λ lines. lines.items) l.tasks.items) k []
      ++ flat_map (λ cycle. lines_of (node_at k) (task_at k) cycle
      (calls_at l.statements (get_or (map (λ made. made.items) l.places) cycle [])))
      (range_with_len l.cycle (l.cycles - l.cycle))
      ≡ flat_map (λ cycle. lines_of (node_at k) (task_at k) cycle
      (calls_at l.statements (get_or (map (λ made. made.items) l.places) cycle [])))
      (range_with_len 0 l.cycles);
}
