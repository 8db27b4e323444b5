use Rattle.std.proofs.Common.{◌≡◌}
use Rattle.fr_picture.specs.Shares.{senders_up_to}
use Rattle.fr_picture.proofs.shares.count_senders.Given as goal

abbrev pub invariant-loop-earlier : goal.invariant-loop-earlier
invariant-loop-earlier l = l.count ≡ senders_up_to l.cluster l.cycle l.channel l.earlier
