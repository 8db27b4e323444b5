use Rattle.std.proofs.Common.{[]}
use Rattle.fr_endless.specs.Taps.{AddsEach}
use Rattle.fr_endless.proofs.taps.Taps.flush_traces.Given as goal

-- nothing was written
abbrev pub invariant-loop-place : goal.invariant-loop-place
invariant-loop-place g l = AddsEach l.fn.self l.self (λ n. [])
