use Rattle.fr_endless.proofs.EachLemmas.{below}
use Rattle.fr_endless.specs.Taps.{AddsEach, last_line}
use Rattle.fr_endless.proofs.taps.Taps.end.Given as goal

-- the first traces have their last lines
abbrev pub invariant-loop-place : goal.invariant-loop-place
invariant-loop-place g l = AddsEach l.fn.self l.self (below l.place (λ n. last_line))
