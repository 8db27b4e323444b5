use Rattle.std.proofs.Common.{[], ◌∷◌, ◌∙◌, sym}
use Rattle.fr_core.specs.declared.event.Event.TheVariants.{Take, Observe}
use Rattle.fr_live.proofs.RefusalLemmas.{take_refuses, observe_refuses}
use Rattle.fr_live.proofs.StepLemmas.{accepted_one, accepted_then, refused_next, refused_none}
use Rattle.fr_live.specs.LiveSteps.{LiveAccepts}
use Rattle.fr_live.proofs.machine.LiveMachine.see_in_turn.Goals as goal

pub returns-then-is_err-clause-accepts : goal.returns-then-is_err-clause-accepts
returns-then-is_err-clause-accepts c =
    refused_none c.args.self.now c.take.new.self (Take c.args.node) c.take.result
    (sym c.is_err.ensures.value ∙ c.if-is_err.true) c.take.ensures.refused

pub returns-then-is_err-2-clause-accepts : goal.returns-then-is_err-2-clause-accepts
returns-then-is_err-2-clause-accepts c =
    let old = c.args.self.now in
    let took : LiveAccepts old (Take c.args.node ∷ []) c.take.new.self =
    accepted_one old c.take.new.self (Take c.args.node) c.take.result
    (sym c.is_err.ensures.value ∙ c.if-is_err.false)
    (λ w is. c.take.ensures.refusal ∙ take_refuses w old is c.args.node) c.take.ensures.leads in
    accepted_then old c.take.new.self c.observe.new.self (Take c.args.node ∷ []) [] took
    (refused_none c.take.new.self c.observe.new.self (Observe c.args.node) c.observe.result
    (sym c.is_err-2.ensures.value ∙ c.if-is_err-2.true) c.observe.ensures.refused)

pub returns-clause-accepts : goal.returns-clause-accepts
returns-clause-accepts c =
    let old = c.args.self.now in
    let took : LiveAccepts old (Take c.args.node ∷ []) c.take.new.self =
    accepted_one old c.take.new.self (Take c.args.node) c.take.result
    (sym c.is_err.ensures.value ∙ c.if-is_err.false)
    (λ w is. c.take.ensures.refusal ∙ take_refuses w old is c.args.node) c.take.ensures.leads in
    let observed : LiveAccepts c.take.new.self (Observe c.args.node ∷ []) c.observe.new.self =
    accepted_one c.take.new.self c.observe.new.self (Observe c.args.node) c.observe.result
    (sym c.is_err-2.ensures.value ∙ c.if-is_err-2.false)
    (λ w is. c.observe.ensures.refusal ∙ observe_refuses w c.take.new.self is c.args.node) c.observe.ensures.leads in
    accepted_then old c.take.new.self c.observe.new.self (Take c.args.node ∷ []) (Observe c.args.node ∷ []) took
    observed

pub returns-then-is_err-clause-refuses : goal.returns-then-is_err-clause-refuses
returns-then-is_err-clause-refuses c =
    refused_next c.args.self.now c.take.new.self (Take c.args.node) c.take.result
    (sym c.is_err.ensures.value ∙ c.if-is_err.true) c.take.ensures.refused
    (λ w is. c.take.ensures.refusal ∙ take_refuses w c.args.self.now is c.args.node)

pub returns-then-is_err-2-clause-refuses : goal.returns-then-is_err-2-clause-refuses
returns-then-is_err-2-clause-refuses c =
    refused_next c.take.new.self c.observe.new.self (Observe c.args.node) c.observe.result
    (sym c.is_err-2.ensures.value ∙ c.if-is_err-2.true) c.observe.ensures.refused
    (λ w is. c.observe.ensures.refusal ∙ observe_refuses w c.take.new.self is c.args.node)
