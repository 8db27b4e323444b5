use Rattle.std.proofs.Common.{[], ◌∷◌, ◌∙◌, sym}
use Rattle.fr_core.specs.declared.event.Event.TheVariants.{Look, Fetch, Put}
use Rattle.fr_live.proofs.RefusalLemmas.{look_refuses, fetch_refuses, put_refuses}
use Rattle.fr_live.proofs.StepLemmas.{accepted_one, accepted_then, refused_next, refused_none}
use Rattle.fr_live.specs.LiveSteps.{LiveAccepts}
use Rattle.fr_live.proofs.machine.LiveMachine.offer.Goals as goal

pub returns-then-is_err-clause-accepts : goal.returns-then-is_err-clause-accepts
returns-then-is_err-clause-accepts c =
    refused_none c.args.self.now c.look.new.self (Look c.args.node) c.look.result
    (sym c.is_err.ensures.value ∙ c.if-is_err.true) c.look.ensures.refused

pub returns-then-is_err-2-clause-accepts : goal.returns-then-is_err-2-clause-accepts
returns-then-is_err-2-clause-accepts c =
    let old = c.args.self.now in
    let looked : LiveAccepts old (Look c.args.node ∷ []) c.look.new.self =
    accepted_one old c.look.new.self (Look c.args.node) c.look.result
    (sym c.is_err.ensures.value ∙ c.if-is_err.false)
    (λ w is. c.look.ensures.refusal ∙ look_refuses w old is c.args.node) c.look.ensures.leads in
    accepted_then old c.look.new.self c.fetch.new.self (Look c.args.node ∷ []) [] looked
    (refused_none c.look.new.self c.fetch.new.self (Fetch c.args.node) c.fetch.result
    (sym c.is_err-2.ensures.value ∙ c.if-is_err-2.true) c.fetch.ensures.refused)

pub returns-then-is_err-3-clause-accepts : goal.returns-then-is_err-3-clause-accepts
returns-then-is_err-3-clause-accepts c =
    let old = c.args.self.now in
    let looked : LiveAccepts old (Look c.args.node ∷ []) c.look.new.self =
    accepted_one old c.look.new.self (Look c.args.node) c.look.result
    (sym c.is_err.ensures.value ∙ c.if-is_err.false)
    (λ w is. c.look.ensures.refusal ∙ look_refuses w old is c.args.node) c.look.ensures.leads in
    let fetched : LiveAccepts c.look.new.self (Fetch c.args.node ∷ []) c.fetch.new.self =
    accepted_one c.look.new.self c.fetch.new.self (Fetch c.args.node) c.fetch.result
    (sym c.is_err-2.ensures.value ∙ c.if-is_err-2.false)
    (λ w is. c.fetch.ensures.refusal ∙ fetch_refuses w c.look.new.self is c.args.node) c.fetch.ensures.leads in
    accepted_then old c.look.new.self c.put.new.self (Look c.args.node ∷ []) (Fetch c.args.node ∷ []) looked
    (accepted_then c.look.new.self c.fetch.new.self c.put.new.self (Fetch c.args.node ∷ []) [] fetched
    (refused_none c.fetch.new.self c.put.new.self (Put c.args.node) c.put.result
    (sym c.is_err-3.ensures.value ∙ c.if-is_err-3.true) c.put.ensures.refused))

pub returns-clause-accepts : goal.returns-clause-accepts
returns-clause-accepts c =
    let old = c.args.self.now in
    let looked : LiveAccepts old (Look c.args.node ∷ []) c.look.new.self =
    accepted_one old c.look.new.self (Look c.args.node) c.look.result
    (sym c.is_err.ensures.value ∙ c.if-is_err.false)
    (λ w is. c.look.ensures.refusal ∙ look_refuses w old is c.args.node) c.look.ensures.leads in
    let fetched : LiveAccepts c.look.new.self (Fetch c.args.node ∷ []) c.fetch.new.self =
    accepted_one c.look.new.self c.fetch.new.self (Fetch c.args.node) c.fetch.result
    (sym c.is_err-2.ensures.value ∙ c.if-is_err-2.false)
    (λ w is. c.fetch.ensures.refusal ∙ fetch_refuses w c.look.new.self is c.args.node) c.fetch.ensures.leads in
    let sent : LiveAccepts c.fetch.new.self (Put c.args.node ∷ []) c.put.new.self =
    accepted_one c.fetch.new.self c.put.new.self (Put c.args.node) c.put.result
    (sym c.is_err-3.ensures.value ∙ c.if-is_err-3.false)
    (λ w is. c.put.ensures.refusal ∙ put_refuses w c.fetch.new.self is c.args.node) c.put.ensures.leads in
    accepted_then old c.look.new.self c.put.new.self (Look c.args.node ∷ [])
    (Fetch c.args.node ∷ Put c.args.node ∷ []) looked
    (accepted_then c.look.new.self c.fetch.new.self c.put.new.self (Fetch c.args.node ∷ [])
    (Put c.args.node ∷ []) fetched sent)

pub returns-then-is_err-clause-refuses : goal.returns-then-is_err-clause-refuses
returns-then-is_err-clause-refuses c =
    refused_next c.args.self.now c.look.new.self (Look c.args.node) c.look.result
    (sym c.is_err.ensures.value ∙ c.if-is_err.true) c.look.ensures.refused
    (λ w is. c.look.ensures.refusal ∙ look_refuses w c.args.self.now is c.args.node)

pub returns-then-is_err-2-clause-refuses : goal.returns-then-is_err-2-clause-refuses
returns-then-is_err-2-clause-refuses c =
    refused_next c.look.new.self c.fetch.new.self (Fetch c.args.node) c.fetch.result
    (sym c.is_err-2.ensures.value ∙ c.if-is_err-2.true) c.fetch.ensures.refused
    (λ w is. c.fetch.ensures.refusal ∙ fetch_refuses w c.look.new.self is c.args.node)

pub returns-then-is_err-3-clause-refuses : goal.returns-then-is_err-3-clause-refuses
returns-then-is_err-3-clause-refuses c =
    refused_next c.fetch.new.self c.put.new.self (Put c.args.node) c.put.result
    (sym c.is_err-3.ensures.value ∙ c.if-is_err-3.true) c.put.ensures.refused
    (λ w is. c.put.ensures.refusal ∙ put_refuses w c.fetch.new.self is c.args.node)
