use Rattle.std.proofs.Common.{sym, ◌∙◌, arith}
use Rattle.fr_slots.proofs.SharingLemmas.{no_cycle, some_shared}
use Rattle.fr_slots.proofs.sharing.first_shared_by.Goals as goal

pub returns-in_err-cycle : goal.returns-in_err-cycle
returns-in_err-cycle c =
    rw c.from_residual-in_err-cycle.ensures (no_cycle c.args.one.now c.args.other.now
    (sym c.first_common.ensures ∙ c.in_err-cycle.was))

pub returns : goal.returns
returns c =
    some_shared c.args.one.now c.args.other.now c.in_ok-channel.channel c.in_ok-cycle.cycle c.number.ensures.fits
    (omega (arith, c.number.ensures.value, c.number-2.ensures.value))
    (sym c.common_channel.ensures ∙ c.in_ok-channel.was)
    (sym c.first_common.ensures ∙ c.in_ok-cycle.was)
