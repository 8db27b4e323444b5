use Rattle.std.proofs.Common.{◌≡◌, false, take}
use Rattle.fr_latency.specs.Openings.{is_used}
use Rattle.fr_latency.proofs.openings.is_used.Given as goal

abbrev pub invariant-loop-plan : goal.invariant-loop-plan
invariant-loop-plan l = is_used (take l.plan-index l.cluster.plans) l.slot l.channel ≡ false
