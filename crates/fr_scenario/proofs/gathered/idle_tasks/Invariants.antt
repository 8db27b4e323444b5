use Rattle.std.proofs.Common.{◌≡◌, [], map, replicate, length}
use Rattle.fr_scenario.proofs.gathered.idle_tasks.Given as goal

abbrev pub invariant-loop : goal.invariant-loop
invariant-loop l = record {
  len : length l.tasks.items ≡ l.counter;
  idle : map (λ lines. lines.items) l.tasks.items ≡ replicate l.counter [];
}
