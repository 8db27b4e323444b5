use Rattle.std.proofs.Common.{refl, sym, subst, ◌∙◌}
use Rattle.fr_core.specs.declared.event.Event.{Event}
use Rattle.fr_core.specs.declared.event.Event.TheVariants.{Look, Fetch, Put, Take, Observe, Inject}
use Rattle.fr_live.proofs.RefusalLemmas.{look_refuses, fetch_refuses, put_refuses, take_refuses, observe_refuses}
use Rattle.fr_live.proofs.RefusalLemmas.{inject_refuses}
use Rattle.fr_live.proofs.StepLemmas.{applied_so, done_so}
use Rattle.fr_live.specs.LiveSteps.{LiveApplies}
use Rattle.fr_live.proofs.machine.LiveMachine.apply.Goals as goal

pub returns-in-Look : goal.returns-in-Look
returns-in-Look c =
    let old = c.args.self.now in
    let new = c.look.new.self in
    let event = Look c.in-Look.node in
    subst (λ (e : Event). LiveApplies old e c.without_window.result new) (sym c.in-Look.is)
    (subst (λ a. LiveApplies old event a new) (sym c.without_window.ensures)
    (applied_so old new event (λ e f h. h) c.look.result
    (λ w is. c.look.ensures.refusal ∙ look_refuses w old is c.in-Look.node) c.look.ensures.leads
    c.look.ensures.refused))

pub returns-in-Fetch : goal.returns-in-Fetch
returns-in-Fetch c =
    let old = c.args.self.now in
    let new = c.fetch.new.self in
    let event = Fetch c.in-Fetch.node in
    subst (λ (e : Event). LiveApplies old e c.fetch.result new) (sym c.in-Fetch.is)
    (done_so old new event (λ e f h. h) (λ w. refl) c.fetch.result
    (λ w is. c.fetch.ensures.refusal ∙ fetch_refuses w old is c.in-Fetch.node) c.fetch.ensures.leads
    c.fetch.ensures.refused)

pub returns-in-Put : goal.returns-in-Put
returns-in-Put c =
    let old = c.args.self.now in
    let new = c.put.new.self in
    let event = Put c.in-Put.node in
    subst (λ (e : Event). LiveApplies old e c.put.result new) (sym c.in-Put.is)
    (done_so old new event (λ e f h. h) (λ w. refl) c.put.result
    (λ w is. c.put.ensures.refusal ∙ put_refuses w old is c.in-Put.node) c.put.ensures.leads
    c.put.ensures.refused)

pub returns-in-Take : goal.returns-in-Take
returns-in-Take c =
    let old = c.args.self.now in
    let new = c.take.new.self in
    let event = Take c.in-Take.node in
    subst (λ (e : Event). LiveApplies old e c.take.result new) (sym c.in-Take.is)
    (done_so old new event (λ e f h. h) (λ w. refl) c.take.result
    (λ w is. c.take.ensures.refusal ∙ take_refuses w old is c.in-Take.node) c.take.ensures.leads
    c.take.ensures.refused)

pub returns-in-Observe : goal.returns-in-Observe
returns-in-Observe c =
    let old = c.args.self.now in
    let new = c.observe.new.self in
    let event = Observe c.in-Observe.node in
    subst (λ (e : Event). LiveApplies old e c.observe.result new) (sym c.in-Observe.is)
    (done_so old new event (λ e f h. h) (λ w. refl) c.observe.result
    (λ w is. c.observe.ensures.refusal ∙ observe_refuses w old is c.in-Observe.node) c.observe.ensures.leads
    c.observe.ensures.refused)

pub returns-in-Inject : goal.returns-in-Inject
returns-in-Inject c =
    let old = c.args.self.now in
    let new = c.inject.new.self in
    let event = Inject c.in-Inject.fault in
    subst (λ (e : Event). LiveApplies old e c.inject.result new) (sym c.in-Inject.is)
    (done_so old new event (λ e f h. h) (λ w. refl) c.inject.result
    (λ w is. c.inject.ensures.refusal ∙ inject_refuses w old is c.in-Inject.fault) c.inject.ensures.leads
    c.inject.ensures.refused)
