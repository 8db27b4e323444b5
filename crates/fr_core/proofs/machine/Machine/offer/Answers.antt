use Rattle.std.proofs.Common.{[], ◌∷◌, ◌∙◌, sym}
use Rattle.fr_core.proofs.FrontLemmas.{accepts_none, accepts_then, done_accepted, done_refused, look_accepted}
use Rattle.fr_core.proofs.FrontLemmas.{look_refused}
use Rattle.fr_core.specs.declared.event.Event.TheVariants.{Look, Fetch, Put}
use Rattle.fr_core.specs.Fronts.{Accepts}
use Rattle.fr_core.proofs.machine.Machine.offer.Goals as goal

pub returns-then-is_err-clause-accepts : goal.returns-then-is_err-clause-accepts
returns-then-is_err-clause-accepts c =
    accepts_none c.args.self.now c.look.new.self
    (look_refused c.args.self.now c.look.new.self c.args.node c.look.result
    (sym c.is_err.ensures.value ∙ c.if-is_err.true) c.look.ensures).0

pub returns-then-is_err-clause-refuses : goal.returns-then-is_err-clause-refuses
returns-then-is_err-clause-refuses c =
    (look_refused c.args.self.now c.look.new.self c.args.node c.look.result
    (sym c.is_err.ensures.value ∙ c.if-is_err.true) c.look.ensures).1

pub returns-then-is_err-2-clause-accepts : goal.returns-then-is_err-2-clause-accepts
returns-then-is_err-2-clause-accepts c =
    let looked : Accepts c.args.self.now (Look c.args.node ∷ []) c.look.new.self =
    look_accepted c.args.self.now c.look.new.self c.args.node c.look.result
    (sym c.is_err.ensures.value ∙ c.if-is_err.false) c.look.ensures in
    accepts_then c.args.self.now c.look.new.self c.fetch.new.self (Look c.args.node ∷ []) [] looked
    (accepts_none c.look.new.self c.fetch.new.self
    (done_refused c.look.new.self c.fetch.new.self (Fetch c.args.node) (λ e found is. is) c.fetch.result
    (sym c.is_err-2.ensures.value ∙ c.if-is_err-2.true) c.fetch.ensures).0)

pub returns-then-is_err-2-clause-refuses : goal.returns-then-is_err-2-clause-refuses
returns-then-is_err-2-clause-refuses c =
    (done_refused c.look.new.self c.fetch.new.self (Fetch c.args.node) (λ e found is. is) c.fetch.result
    (sym c.is_err-2.ensures.value ∙ c.if-is_err-2.true) c.fetch.ensures).1

pub returns-then-is_err-3-clause-accepts : goal.returns-then-is_err-3-clause-accepts
returns-then-is_err-3-clause-accepts c =
    let looked : Accepts c.args.self.now (Look c.args.node ∷ []) c.look.new.self =
    look_accepted c.args.self.now c.look.new.self c.args.node c.look.result
    (sym c.is_err.ensures.value ∙ c.if-is_err.false) c.look.ensures in
    let fetched : Accepts c.look.new.self (Fetch c.args.node ∷ []) c.fetch.new.self =
    done_accepted c.look.new.self c.fetch.new.self (Fetch c.args.node) c.fetch.result
    (sym c.is_err-2.ensures.value ∙ c.if-is_err-2.false) c.fetch.ensures in
    accepts_then c.args.self.now c.look.new.self c.put.new.self (Look c.args.node ∷ []) (Fetch c.args.node ∷ []) looked
    (accepts_then c.look.new.self c.fetch.new.self c.put.new.self (Fetch c.args.node ∷ []) [] fetched
    (accepts_none c.fetch.new.self c.put.new.self
    (done_refused c.fetch.new.self c.put.new.self (Put c.args.node) (λ e found is. is) c.put.result
    (sym c.is_err-3.ensures.value ∙ c.if-is_err-3.true) c.put.ensures).0))

pub returns-then-is_err-3-clause-refuses : goal.returns-then-is_err-3-clause-refuses
returns-then-is_err-3-clause-refuses c =
    (done_refused c.fetch.new.self c.put.new.self (Put c.args.node) (λ e found is. is) c.put.result
    (sym c.is_err-3.ensures.value ∙ c.if-is_err-3.true) c.put.ensures).1

pub returns-clause-accepts : goal.returns-clause-accepts
returns-clause-accepts c =
    let looked : Accepts c.args.self.now (Look c.args.node ∷ []) c.look.new.self =
    look_accepted c.args.self.now c.look.new.self c.args.node c.look.result
    (sym c.is_err.ensures.value ∙ c.if-is_err.false) c.look.ensures in
    let fetched : Accepts c.look.new.self (Fetch c.args.node ∷ []) c.fetch.new.self =
    done_accepted c.look.new.self c.fetch.new.self (Fetch c.args.node) c.fetch.result
    (sym c.is_err-2.ensures.value ∙ c.if-is_err-2.false) c.fetch.ensures in
    let sent : Accepts c.fetch.new.self (Put c.args.node ∷ []) c.put.new.self =
    done_accepted c.fetch.new.self c.put.new.self (Put c.args.node) c.put.result
    (sym c.is_err-3.ensures.value ∙ c.if-is_err-3.false) c.put.ensures in
    accepts_then c.args.self.now c.look.new.self c.put.new.self (Look c.args.node ∷ [])
    (Fetch c.args.node ∷ Put c.args.node ∷ []) looked
    (accepts_then c.look.new.self c.fetch.new.self c.put.new.self (Fetch c.args.node ∷ [])
    (Put c.args.node ∷ []) fetched sent)
