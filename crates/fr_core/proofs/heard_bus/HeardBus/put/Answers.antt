use Rattle.std.proofs.Common.{refl}
use Rattle.fr_bus.specs.States.{put_done}
use Rattle.fr_core.proofs.HearingLemmas.{heard_either}
use Rattle.fr_core.proofs.heard_bus.HeardBus.put.Goals as goal

pub invariant_of-self : goal.invariant_of-self
invariant_of-self c =
    let i = c.self.inside in
    heard_either i.bus c.put.new.self (put_done i.bus c.args.node c.args.offer.now) i.heard_a i.heard_b c.self.invariant
    (record { cluster = refl; cycles = refl; sealed = refl }) c.put.result c.put.ensures.accepted c.put.ensures.refused
