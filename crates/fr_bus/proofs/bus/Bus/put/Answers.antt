use Rattle.std.proofs.Common.{◌≡◌, refl, subst}
use Rattle.std.specs.Prelude.{OnOk}
use Rattle.fr_bus.proofs.StandingLemmas.{lawful_either, accepted_either, KeepsRecord}
use Rattle.fr_bus.specs.BusFields.{state_in}
use Rattle.fr_bus.specs.Standing.{with_record}
use Rattle.fr_bus.specs.States.{BusState, put_done}
use Rattle.fr_bus.proofs.bus.Bus.put.Goals as goal

pub invariant_of-self : goal.invariant_of-self
invariant_of-self c =
    let b = put_done (state_in c.self.inside) c.args.node c.args.offer.now in
    let keeps : KeepsRecord (state_in c.self.inside) b = record { cluster = refl; cycles = refl; sealed = refl } in
    lawful_either c.self.inside c.put.new.self b c.self.invariant keeps c.put.ensures.cluster c.put.result
    (c.put.ensures.history (state_in c.self.inside) c.self.invariant.run) c.put.ensures.refused

pub returns-clause-accepted : goal.returns-clause-accepted
returns-clause-accepted c =
    let b = put_done (state_in c.self.inside) c.args.node c.args.offer.now in
    let keeps : KeepsRecord (state_in c.self.inside) b = record { cluster = refl; cycles = refl; sealed = refl } in
    subst (λ (s : BusState). OnOk c.put.result
    (with_record c.put.new.self c.self.inside.«record».items ≡ put_done s c.args.node c.args.offer.now)) c.self.view_is
    (accepted_either c.self.inside c.put.new.self b c.self.invariant keeps c.put.ensures.cluster c.put.result
    (c.put.ensures.history (state_in c.self.inside) c.self.invariant.run))
