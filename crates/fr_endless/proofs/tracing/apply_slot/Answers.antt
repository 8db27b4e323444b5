use Rattle.std.proofs.Common.{Ok, refl}
use Rattle.std.specs.Prelude.{option_map}
use Rattle.fr_endless.proofs.TraceLemmas.{slot_lined}
use Rattle.fr_endless.proofs.tracing.apply_slot.Goals as goal

pub returns-in-Ok : goal.returns-in-Ok
returns-in-Ok g c =
    slot_lined c.args.world.now c.apply.new.self c.args.taps.now c.add_line.new.self c.args.event.now (Ok tt)
    c.node_of.result (option_map (λ l. l.items) c.slot_line-line.result) refl c.requires.adds c.in-Ok.ensures
    c.node_of.ensures c.slot_line-line.ensures c.add_line.ensures
