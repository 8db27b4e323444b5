use Rattle.std.proofs.Common.{◌≡◌, subst}
use Rattle.std.specs.Prelude.{OnOk}
use Rattle.fr_bus.proofs.StandingLemmas.{lawful_either, accepted_either, KeepsRecord, inject_keeps}
use Rattle.fr_bus.specs.BusFields.{state_in}
use Rattle.fr_bus.specs.Standing.{with_record}
use Rattle.fr_bus.specs.States.{BusState, inject_done}
use Rattle.fr_bus.proofs.bus.Bus.inject.Goals as goal

pub invariant_of-self : goal.invariant_of-self
invariant_of-self c =
    let b = inject_done (state_in c.self.inside) c.args.fault in
    let keeps : KeepsRecord (state_in c.self.inside) b = inject_keeps (state_in c.self.inside) c.args.fault in
    lawful_either c.self.inside c.inject.new.self b c.self.invariant keeps c.inject.ensures.cluster c.inject.result
    (c.inject.ensures.history (state_in c.self.inside) c.self.invariant.run) c.inject.ensures.refused

pub returns-clause-accepted : goal.returns-clause-accepted
returns-clause-accepted c =
    let b = inject_done (state_in c.self.inside) c.args.fault in
    let keeps : KeepsRecord (state_in c.self.inside) b = inject_keeps (state_in c.self.inside) c.args.fault in
    subst (λ (s : BusState). OnOk c.inject.result
    (with_record c.inject.new.self c.self.inside.«record».items ≡ inject_done s c.args.fault)) c.self.view_is
    (accepted_either c.self.inside c.inject.new.self b c.self.invariant keeps c.inject.ensures.cluster c.inject.result
    (c.inject.ensures.history (state_in c.self.inside) c.self.invariant.run))
