use Rattle.std.proofs.Common.{◌≡◌, drop}
use Rattle.fr_runs.specs.Faulted.{babble_in}
use Rattle.fr_runs.proofs.faulted.babble_in.Given as goal

-- the babble is among the remaining transmissions
abbrev pub invariant-loop-t : goal.invariant-loop-t
invariant-loop-t l = babble_in l.channel l.node (drop l.t-index l.sent) ≡ babble_in l.channel l.node l.sent
