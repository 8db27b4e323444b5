use Rattle.std.proofs.Common.{refl}
use Rattle.fr_bus.specs.States.{take_done}
use Rattle.fr_core.proofs.HearingLemmas.{heard_either}
use Rattle.fr_core.proofs.heard_bus.HeardBus.take_lent.Goals as goal

pub invariant_of-self : goal.invariant_of-self
invariant_of-self c =
    let i = c.self.inside in
    heard_either i.bus c.take_lent.new.self (take_done i.bus c.args.node) i.heard_a i.heard_b c.self.invariant
    (record { cluster = refl; cycles = refl; sealed = refl }) c.take_lent.result
    c.take_lent.ensures.accepted c.take_lent.ensures.refused
