use Rattle.std.proofs.Common.{refl, sym, ap, subst, ◌∙◌}
use Rattle.fr_core.specs.declared.event.Event.{Event}
use Rattle.fr_core.specs.declared.event.Event.TheVariants.{Commit, Withdraw, Read, Pop, Look, Fetch, Put, Take}
use Rattle.fr_core.specs.declared.event.Event.TheVariants.{Observe, Inject}
use Rattle.fr_core.specs.declared.event.Reply.TheVariants.{Committed}
use Rattle.fr_core.specs.Steps.{window_shown}
use Rattle.fr_live.proofs.RefusalLemmas.{commit_refuses, look_refuses, fetch_refuses, put_refuses, take_refuses}
use Rattle.fr_live.proofs.RefusalLemmas.{observe_refuses, inject_refuses, collecting_same}
use Rattle.fr_interface.specs.declared.call.Call.TheVariants as host_call
use Rattle.fr_live.proofs.StepLemmas.{call_so, done_so, receipt_so, window_so, on_value}
use Rattle.fr_live.specs.LiveSteps.{LiveSteps}
use Rattle.fr_live.proofs.machine.LiveMachine.step.Goals as goal

pub returns-in-Fetch : goal.returns-in-Fetch
returns-in-Fetch c =
    let old = c.args.self.now in
    let new = c.fetch.new.self in
    let event = Fetch c.in-Fetch.node in
    subst (λ (e : Event). LiveSteps old e c.done.result new) (sym c.in-Fetch.is)
    (subst (λ a. LiveSteps old event a new) (sym c.done.ensures)
    (done_so old new event (λ e f h. h) (λ w. refl) c.fetch.result
    (λ w is. c.fetch.ensures.refusal ∙ fetch_refuses w old is c.in-Fetch.node) c.fetch.ensures.leads
    c.fetch.ensures.refused))

pub returns-in-Put : goal.returns-in-Put
returns-in-Put c =
    let old = c.args.self.now in
    let new = c.put.new.self in
    let event = Put c.in-Put.node in
    subst (λ (e : Event). LiveSteps old e c.done-in-Put.result new) (sym c.in-Put.is)
    (subst (λ a. LiveSteps old event a new) (sym c.done-in-Put.ensures)
    (done_so old new event (λ e f h. h) (λ w. refl) c.put.result
    (λ w is. c.put.ensures.refusal ∙ put_refuses w old is c.in-Put.node) c.put.ensures.leads
    c.put.ensures.refused))

pub returns-in-Take : goal.returns-in-Take
returns-in-Take c =
    let old = c.args.self.now in
    let new = c.take.new.self in
    let event = Take c.in-Take.node in
    subst (λ (e : Event). LiveSteps old e c.done-in-Take.result new) (sym c.in-Take.is)
    (subst (λ a. LiveSteps old event a new) (sym c.done-in-Take.ensures)
    (done_so old new event (λ e f h. h) (λ w. refl) c.take.result
    (λ w is. c.take.ensures.refusal ∙ take_refuses w old is c.in-Take.node) c.take.ensures.leads
    c.take.ensures.refused))

pub returns-in-Observe : goal.returns-in-Observe
returns-in-Observe c =
    let old = c.args.self.now in
    let new = c.observe.new.self in
    let event = Observe c.in-Observe.node in
    subst (λ (e : Event). LiveSteps old e c.done-in-Observe.result new) (sym c.in-Observe.is)
    (subst (λ a. LiveSteps old event a new) (sym c.done-in-Observe.ensures)
    (done_so old new event (λ e f h. h) (λ w. refl) c.observe.result
    (λ w is. c.observe.ensures.refusal ∙ observe_refuses w old is c.in-Observe.node) c.observe.ensures.leads
    c.observe.ensures.refused))

pub returns-in-Inject : goal.returns-in-Inject
returns-in-Inject c =
    let old = c.args.self.now in
    let new = c.inject.new.self in
    let event = Inject c.in-Inject.fault in
    subst (λ (e : Event). LiveSteps old e c.done-in-Inject.result new) (sym c.in-Inject.is)
    (subst (λ a. LiveSteps old event a new) (sym c.done-in-Inject.ensures)
    (done_so old new event (λ e f h. h) (λ w. refl) c.inject.result
    (λ w is. c.inject.ensures.refusal ∙ inject_refuses w old is c.in-Inject.fault) c.inject.ensures.leads
    c.inject.ensures.refused))

pub returns-in-Commit : goal.returns-in-Commit
returns-in-Commit c =
    let old = c.args.self.now in
    let new = c.commit.new.self in
    let event = Commit c.in-Commit.node c.in-Commit.task c.in-Commit.buffer c.in-Commit.payload in
    subst (λ (e : Event). LiveSteps old e c.committed.result new) (sym c.in-Commit.is)
    (subst (λ a. LiveSteps old event a new) (sym c.committed.ensures)
    (receipt_so old new event (λ e f h. h) c.commit.result
    (λ w is. c.commit.ensures.refusal ∙ commit_refuses w old is c.in-Commit.node c.in-Commit.task c.in-Commit.buffer
    c.in-Commit.payload) c.commit.ensures.leads c.commit.ensures.refused
    (λ w is. on_value c.commit.result (λ x h. ap Committed h) (c.commit.ensures.receipt w is))))

pub returns-in-Look : goal.returns-in-Look
returns-in-Look c =
    let old = c.args.self.now in
    let new = c.look.new.self in
    let event = Look c.in-Look.node in
    subst (λ (e : Event). LiveSteps old e c.looked.result new) (sym c.in-Look.is)
    (subst (λ a. LiveSteps old event a new) (sym c.looked.ensures)
    (window_so old new event (λ e f h. h) c.look.result
    (λ w is. c.look.ensures.refusal ∙ look_refuses w old is c.in-Look.node) c.look.ensures.leads c.look.ensures.refused
    (λ w is. on_value c.look.result (λ x h. sym (ap window_shown
    (sym (collecting_same old.bus.bus w.bus is.bus_is.of_bus) ∙ h)))
    c.look.ensures.window)))

pub returns-in-Withdraw : goal.returns-in-Withdraw
returns-in-Withdraw c =
    let old = c.args.self.now in
    let new = c.call.new.self in
    let event = Withdraw c.in-Withdraw.node c.in-Withdraw.task c.in-Withdraw.buffer in
    subst (λ (e : Event). LiveSteps old e c.replied.result new) (sym c.in-Withdraw.is)
    (subst (λ a. LiveSteps old event a new) (sym c.replied.ensures)
    (call_so old new c.in-Withdraw.node c.in-Withdraw.task (host_call.Withdraw c.in-Withdraw.buffer)
    c.call.result c.call.ensures.refusal
    c.call.ensures.leads c.call.ensures.refused c.call.ensures.answer))

pub returns-in-Read : goal.returns-in-Read
returns-in-Read c =
    let old = c.args.self.now in
    let new = c.call-in-Read.new.self in
    let event = Read c.in-Read.node c.in-Read.task c.in-Read.buffer in
    subst (λ (e : Event). LiveSteps old e c.replied-in-Read.result new) (sym c.in-Read.is)
    (subst (λ a. LiveSteps old event a new) (sym c.replied-in-Read.ensures)
    (call_so old new c.in-Read.node c.in-Read.task (host_call.Read c.in-Read.buffer)
    c.call-in-Read.result c.call-in-Read.ensures.refusal
    c.call-in-Read.ensures.leads c.call-in-Read.ensures.refused c.call-in-Read.ensures.answer))

pub returns-in-Pop : goal.returns-in-Pop
returns-in-Pop c =
    let old = c.args.self.now in
    let new = c.call-in-Pop.new.self in
    let event = Pop c.in-Pop.node c.in-Pop.task in
    subst (λ (e : Event). LiveSteps old e c.replied-in-Pop.result new) (sym c.in-Pop.is)
    (subst (λ a. LiveSteps old event a new) (sym c.replied-in-Pop.ensures)
    (call_so old new c.in-Pop.node c.in-Pop.task host_call.Pop c.call-in-Pop.result c.call-in-Pop.ensures.refusal
    c.call-in-Pop.ensures.leads c.call-in-Pop.ensures.refused c.call-in-Pop.ensures.answer))
