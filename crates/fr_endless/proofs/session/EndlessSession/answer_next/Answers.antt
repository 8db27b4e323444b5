use Rattle.std.proofs.Common.{subst}
use Rattle.fr_endless.proofs.SessionLemmas.{answered_front, failed_line_alike}
use Rattle.fr_endless.specs.Taps.{with_taps}
use Rattle.fr_session.specs.Lines.{ComesFront}
use Rattle.fr_session.specs.TermsFields.{terms_in}
use Rattle.fr_endless.proofs.session.EndlessSession.answer_next.Goals as goal

pub returns-in-Ok-clause-answers : goal.returns-in-Ok-clause-answers
returns-in-Ok-clause-answers g c =
    let comes = subst (λ b. ComesFront b (g.R.Read.remaining c.args.reader.now)
    (g.R.Read.remaining c.next_line.new.reader) c.next_line.new.line.items) c.in-Ok-true.field-0-test
    c.in-Ok-true.ensures.comes in
    answered_front (terms_in c.args.terms.now) _ _ _ _ c.args.number c.next_line.new.line.items
    (with_taps c.args.world.now c.args.taps.now) c.args.self.now.noted (with_taps c.answer.new.world c.answer.new.taps)
    c.answer.new.self.noted comes c.in-Ok.ensures.sends

pub returns-in-Err-answer-clause-early : goal.returns-in-Err-answer-clause-early
returns-in-Err-answer-clause-early g c =
    let comes = subst (λ b. ComesFront b (g.R.Read.remaining c.args.reader.now)
    (g.R.Read.remaining c.next_line.new.reader) c.next_line.new.line.items) c.in-Ok-true.field-0-test
    c.in-Ok-true.ensures.comes in
    failed_line_alike (terms_in c.args.terms.now) c.in-Err-answer.error _ _ _ _ c.args.number
    c.next_line.new.line.items (with_taps c.args.world.now c.args.taps.now) c.args.self.now.noted
    (with_taps c.answer.new.world c.answer.new.taps) c.answer.new.self.noted comes c.in-Err-answer.ensures.line
    c.in-Err-answer.ensures.sends c.in-Err-answer.ensures.unsent
