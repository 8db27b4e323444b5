use Rattle.std.proofs.Common.{take}
use Rattle.fr_schedule.proofs.DenseLemmas.{IsSoFar}
use Rattle.fr_schedule.proofs.senders.enter_all.Given as goal

abbrev pub invariant-loop-claim : goal.invariant-loop-claim
invariant-loop-claim l = IsSoFar (take l.claim-index l.claims) l.initial.nodes l.nodes l.first
