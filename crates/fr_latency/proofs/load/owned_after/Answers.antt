use Rattle.std.proofs.Common.{◌+◌, sym, arith}
use Rattle.fr_latency.proofs.UsedLemmas.{no_slot_number}
use Rattle.fr_latency.proofs.load.owned_after.Goals as goal

pub returns-in-None-clause-value : goal.returns-in-None-clause-value
returns-in-None-clause-value c =
    absurd (no_slot_number (c.args.earlier + 1) (omega arith) (omega arith) (sym c.in-None.ensures))
