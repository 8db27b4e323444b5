use Rattle.fr_bus.proofs.StandingLemmas.{inject_keeps}
use Rattle.fr_bus.specs.States.{inject_done}
use Rattle.fr_core.proofs.HearingLemmas.{heard_either}
use Rattle.fr_core.proofs.heard_bus.HeardBus.inject.Goals as goal

pub invariant_of-self : goal.invariant_of-self
invariant_of-self c =
    let i = c.self.inside in
    heard_either i.bus c.inject.new.self (inject_done i.bus c.args.fault) i.heard_a i.heard_b c.self.invariant
    (inject_keeps i.bus c.args.fault) c.inject.result c.inject.ensures.accepted c.inject.ensures.refused
