use Rattle.fr_endless.proofs.EachLemmas.{below}
use Rattle.fr_endless.specs.Taps.{AddsEach, head_at}
use Rattle.fr_endless.proofs.taps.Taps.begin_traces.Given as goal

-- the traces of the first nodes have their lines
abbrev pub invariant-loop-place : goal.invariant-loop-place
invariant-loop-place g l = AddsEach l.fn.self l.self (below l.place (head_at l.cluster l.room))
