use Rattle.std.proofs.Common.{◌≡◌, [], map, replicate, length}
use Rattle.fr_scenario.proofs.run_calls.idle_cycles.Given as goal

abbrev pub invariant-loop : goal.invariant-loop
invariant-loop l = record {
  len : length l.places.items ≡ l.counter;
  idle : map (λ made. made.items) l.places.items ≡ replicate l.counter [];
}
