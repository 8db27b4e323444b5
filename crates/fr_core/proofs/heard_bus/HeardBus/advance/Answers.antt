use Rattle.std.proofs.Common.{refl}
use Rattle.fr_bus.specs.States.{advanced}
use Rattle.fr_core.proofs.HearingLemmas.{heard_either}
use Rattle.fr_core.proofs.heard_bus.HeardBus.advance.Goals as goal

pub invariant_of-self : goal.invariant_of-self
invariant_of-self c =
    let i = c.self.inside in
    heard_either i.bus c.advance.new.self (advanced i.bus) i.heard_a i.heard_b c.self.invariant
    (record { cluster = refl; cycles = refl; sealed = refl }) c.advance.result
    c.advance.ensures.accepted c.advance.ensures.refused
