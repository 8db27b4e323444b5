use Rattle.fr_endless.proofs.TraceLemmas.{slot_accepted, slot_refused}
use Rattle.fr_endless.specs.Taps.{with_taps}
use Rattle.fr_endless.proofs.tracing.step_slot.Goals as goal

pub returns-in-Ok : goal.returns-in-Ok
returns-in-Ok g c =
    slot_accepted (with_taps c.args.world.now c.args.taps.now)
    (with_taps c.apply_slot.new.world c.apply_slot.new.taps) c.args.event.now c.apply_slot.result _ c.requires.adds
    c.requires.slot c.in-Ok.is c.apply_slot.ensures

pub returns-in-Err : goal.returns-in-Err
returns-in-Err g c =
    slot_refused (with_taps c.args.world.now c.args.taps.now)
    (with_taps c.apply_slot.new.world c.apply_slot.new.taps) c.args.event.now c.apply_slot.result c.in-Err.error
    c.in-Err.is c.apply_slot.ensures
