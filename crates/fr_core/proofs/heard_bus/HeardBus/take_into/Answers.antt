use Rattle.std.proofs.Common.{refl}
use Rattle.fr_bus.specs.States.{take_done}
use Rattle.fr_core.proofs.HearingLemmas.{heard_either}
use Rattle.fr_core.proofs.heard_bus.HeardBus.take_into.Goals as goal

pub invariant_of-self : goal.invariant_of-self
invariant_of-self c =
    let i = c.self.inside in
    heard_either i.bus c.take_into.new.self (take_done i.bus c.args.node) i.heard_a i.heard_b c.self.invariant
    (record { cluster = refl; cycles = refl; sealed = refl }) c.take_into.result
    c.take_into.ensures.accepted c.take_into.ensures.refused
