use Rattle.std.proofs.Common.{◌≡◌, ◌<◌, ℕ, ◌++◌, [], drop, get_or, map, length}
use Rattle.fr_scenario.specs.RunCalls.{calls_at, made_at}
use Rattle.fr_scenario.proofs.run_calls.places_in_run.Given as goal

-- the calls so far, and those of the statements that are left
abbrev pub invariant-loop-place : goal.invariant-loop-place
invariant-loop-place l = record {
  len : length l.places.items ≡ l.cycles;
  made : (c : ℕ) → c < l.cycles
      → calls_at l.statements (get_or (map (λ made. made.items) l.places.items) c [])
      ++ made_at c (drop l.place l.statements) ≡ made_at c l.statements;
}
