use Rattle.std.proofs.Common.{◌≡◌, false, take}
use Rattle.fr_latency.specs.Marks.{is_admitted}
use Rattle.fr_latency.proofs.way.is_admitted.Given as goal

abbrev pub invariant-loop-plan : goal.invariant-loop-plan
invariant-loop-plan l = is_admitted (take l.plan-index l.cluster.plans) l.slot l.channel l.cycle ≡ false
