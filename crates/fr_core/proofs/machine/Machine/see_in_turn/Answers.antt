use Rattle.std.proofs.Common.{[], ◌∷◌, ◌∙◌, sym}
use Rattle.fr_core.proofs.FrontLemmas.{accepts_none, accepts_then, done_accepted, done_refused}
use Rattle.fr_core.specs.declared.event.Event.TheVariants.{Take, Observe}
use Rattle.fr_core.specs.Fronts.{Accepts}
use Rattle.fr_core.proofs.machine.Machine.see_in_turn.Goals as goal

pub returns-then-is_err-clause-accepts : goal.returns-then-is_err-clause-accepts
returns-then-is_err-clause-accepts c =
    accepts_none c.args.self.now c.take.new.self
    (done_refused c.args.self.now c.take.new.self (Take c.args.node) (λ e found is. is) c.take.result
    (sym c.is_err.ensures.value ∙ c.if-is_err.true) c.take.ensures).0

pub returns-then-is_err-clause-refuses : goal.returns-then-is_err-clause-refuses
returns-then-is_err-clause-refuses c =
    (done_refused c.args.self.now c.take.new.self (Take c.args.node) (λ e found is. is) c.take.result
    (sym c.is_err.ensures.value ∙ c.if-is_err.true) c.take.ensures).1

pub returns-then-is_err-2-clause-accepts : goal.returns-then-is_err-2-clause-accepts
returns-then-is_err-2-clause-accepts c =
    let took : Accepts c.args.self.now (Take c.args.node ∷ []) c.take.new.self =
    done_accepted c.args.self.now c.take.new.self (Take c.args.node) c.take.result
    (sym c.is_err.ensures.value ∙ c.if-is_err.false) c.take.ensures in
    accepts_then c.args.self.now c.take.new.self c.observe.new.self (Take c.args.node ∷ []) [] took
    (accepts_none c.take.new.self c.observe.new.self
    (done_refused c.take.new.self c.observe.new.self (Observe c.args.node) (λ e found is. is) c.observe.result
    (sym c.is_err-2.ensures.value ∙ c.if-is_err-2.true) c.observe.ensures).0)

pub returns-then-is_err-2-clause-refuses : goal.returns-then-is_err-2-clause-refuses
returns-then-is_err-2-clause-refuses c =
    (done_refused c.take.new.self c.observe.new.self (Observe c.args.node) (λ e found is. is) c.observe.result
    (sym c.is_err-2.ensures.value ∙ c.if-is_err-2.true) c.observe.ensures).1

pub returns-clause-accepts : goal.returns-clause-accepts
returns-clause-accepts c =
    let took : Accepts c.args.self.now (Take c.args.node ∷ []) c.take.new.self =
    done_accepted c.args.self.now c.take.new.self (Take c.args.node) c.take.result
    (sym c.is_err.ensures.value ∙ c.if-is_err.false) c.take.ensures in
    accepts_then c.args.self.now c.take.new.self c.observe.new.self (Take c.args.node ∷ []) (Observe c.args.node ∷ [])
    took
    (done_accepted c.take.new.self c.observe.new.self (Observe c.args.node) c.observe.result
    (sym c.is_err-2.ensures.value ∙ c.if-is_err-2.false) c.observe.ensures)
