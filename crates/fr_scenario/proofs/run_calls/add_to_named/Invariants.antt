use Rattle.std.proofs.Common.{◌≡◌, map, length}
use Rattle.fr_scenario.proofs.RunCallLemmas.{Adding}
use Rattle.fr_scenario.proofs.run_calls.add_to_named.Given as goal

abbrev pub invariant-loop-cycle : goal.invariant-loop-cycle
invariant-loop-cycle l = record {
  len : length l.places.items ≡ l.cycles;
  adding : Adding l.named l.place (map (λ made. made.items) l.fn.places.items) (map (λ made. made.items) l.places.items)
      l.cycle;
}
