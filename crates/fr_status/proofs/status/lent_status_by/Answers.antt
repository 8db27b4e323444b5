use Rattle.std.proofs.Common.{rules}
use Rattle.fr_status.specs.Checks.{IsCheckSeen}
use Rattle.fr_status.proofs.status.lent_status_by.Goals as goal

pub decode_lent_by-requires : goal.decode_lent_by-requires
unfolding IsCheckSeen
decode_lent_by-requires c = search rules
