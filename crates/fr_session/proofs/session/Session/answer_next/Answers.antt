use Rattle.std.proofs.Common.{subst}
use Rattle.fr_session.proofs.CutLemmas.{failed_front}
use Rattle.fr_session.proofs.SessionLemmas.{answered_front}
use Rattle.fr_session.specs.Lines.{ComesFront}
use Rattle.fr_session.specs.Sessions.{state_of}
use Rattle.fr_session.specs.TermsFields.{terms_in}
use Rattle.fr_session.proofs.session.Session.answer_next.Goals as goal

pub returns-in-Ok-clause-answers : goal.returns-in-Ok-clause-answers
returns-in-Ok-clause-answers g c =
    let comes = subst (λ b. ComesFront b (g.R.Read.remaining c.args.reader.now)
    (g.R.Read.remaining c.next_line.new.reader) c.next_line.new.line.items) c.in-Ok-true.field-0-test
    c.in-Ok-true.ensures.comes in
    answered_front (terms_in c.args.terms.now) _ _ _ _ c.args.number c.next_line.new.line.items
    (state_of c.args.world.now c.args.self.now.noted)
    (state_of c.answer.new.world c.answer.new.self.noted) comes c.in-Ok.ensures

pub returns-in-Err-answer-clause-early : goal.returns-in-Err-answer-clause-early
returns-in-Err-answer-clause-early g c =
    let comes = subst (λ b. ComesFront b (g.R.Read.remaining c.args.reader.now)
    (g.R.Read.remaining c.next_line.new.reader) c.next_line.new.line.items) c.in-Ok-true.field-0-test
    c.in-Ok-true.ensures.comes in
    failed_front (terms_in c.args.terms.now) _ _ _ _ c.args.number c.next_line.new.line.items
    (state_of c.args.world.now c.args.self.now.noted)
    (state_of c.answer.new.world c.answer.new.self.noted) comes c.in-Err-answer.ensures
