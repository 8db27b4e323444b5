use Rattle.std.proofs.Common.{◌≡◌, [], map, replicate, length}
use Rattle.fr_scenario.proofs.run_calls.roomy_tasks.Given as goal

abbrev pub invariant-loop-task : goal.invariant-loop-task
invariant-loop-task l = record {
  len : length l.tasks.items ≡ l.task;
  idle : map (λ lines. lines.items) l.tasks.items ≡ replicate l.task [];
}
