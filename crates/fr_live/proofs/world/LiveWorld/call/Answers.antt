use Rattle.std.proofs.Common.{subst, sym}
use Rattle.fr_core.specs.Steps.{event_of}
use Rattle.fr_live.proofs.StepLemmas.{alike, call_so}
use Rattle.fr_live.specs.LiveSteps.{LiveSteps, StepsAlike, with_answer}
use Rattle.fr_live.specs.LiveWorlds.{LiveState, IsWorldHistory}
use Rattle.fr_live.proofs.world.LiveWorld.call.Goals as goal

pub invariant_of-self : goal.invariant_of-self
invariant_of-self c =
    let had = c.self.invariant in
    let old = c.self.inside.machine in
    let new = c.call.new.self in
    let event = event_of c.args.node c.args.task c.args.call.now in
    let answer = with_answer c.call.result in
    let steps : LiveSteps old event answer new =
    call_so old new c.args.node c.args.task c.args.call.now c.call.result c.call.ensures.refusal c.call.ensures.leads
    c.call.ensures.refused c.call.ensures.answer in
    let stepped = alike old new event answer steps had.0 had.1 in
    (stepped.0, stepped.2)

pub returns-clause-steps : goal.returns-clause-steps
returns-clause-steps c =
    let old = c.self.inside.machine in
    let new = c.call.new.self in
    let event = event_of c.args.node c.args.task c.args.call.now in
    let answer = with_answer c.call.result in
    let steps : LiveSteps old event answer new =
    call_so old new c.args.node c.args.task c.args.call.now c.call.result c.call.ensures.refusal c.call.ensures.leads
    c.call.ensures.refused c.call.ensures.answer in
    subst (λ (l : LiveState). StepsAlike l event answer new) c.self.view_is (alike old new event answer steps)

pub returns-clause-answer : goal.returns-clause-answer
returns-clause-answer c w is =
    c.call.ensures.answer w (subst (λ (l : LiveState). IsWorldHistory l w) (sym c.self.view_is) is).leads
