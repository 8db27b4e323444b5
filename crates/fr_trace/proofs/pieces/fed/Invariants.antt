use Rattle.std.proofs.Common.{take}
use Rattle.std.specs.List.{flat_map}
use Rattle.fr_trace.specs.Feeds.{Reads}
use Rattle.fr_trace.specs.Stream.{fresh}
use Rattle.fr_trace.proofs.pieces.fed.Given as goal

abbrev pub invariant-loop-piece : goal.invariant-loop-piece
invariant-loop-piece l = Reads fresh (flat_map (λ p. p.now) (take l.piece-index l.pieces)) l.auditor
