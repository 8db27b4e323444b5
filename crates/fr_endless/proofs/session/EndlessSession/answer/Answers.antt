use Rattle.std.proofs.Common.{Err, Ok, refl}
use Rattle.fr_endless.proofs.SessionLemmas.{sent_told, unsent_told}
use Rattle.fr_endless.specs.declared.error.EndlessError.{EndlessError}
use Rattle.fr_endless.specs.declared.error.EndlessError.TheVariants as failure
use Rattle.fr_endless.specs.Taps.{with_taps}
use Rattle.fr_session.specs.declared.error.SessionError.TheVariants.{Write}
use Rattle.fr_session.specs.TermsFields.{terms_in}
use Rattle.fr_endless.proofs.session.EndlessSession.answer.Goals as goal

pub returns-in-Some-clause-sends : goal.returns-in-Some-clause-sends
returns-in-Some-clause-sends g c =
    unsent_told {A = Unit {0}} g.W.Write.contents c.args.writer.now (Err (failure.Tap c.in-Some.tap))
    (terms_in c.args.terms.now)
    (with_taps c.args.world.now c.args.taps.now) c.answer_line-answered.new.world c.answer_line-answered.new.taps
    c.flush.new.self c.args.self.now.noted c.answer_line-answered.new.noted c.args.number c.as_slice-line.result.now
    c.args.self.now.line.items
    c.answer_line-answered.ensures.0 refl c.as_slice-line.ensures.value c.answer_line-answered.ensures.1 c.flush.ensures

pub returns-in-Err-clause-sends : goal.returns-in-Err-clause-sends
returns-in-Err-clause-sends g c =
    unsent_told {A = Unit {0}} g.W.Write.contents c.args.writer.now (Err (failure.Session Write))
    (terms_in c.args.terms.now)
    (with_taps c.args.world.now c.args.taps.now) c.answer_line-answered.new.world c.answer_line-answered.new.taps
    c.flush.new.self c.args.self.now.noted c.answer_line-answered.new.noted c.args.number c.as_slice-line.result.now
    c.args.self.now.line.items
    c.answer_line-answered.ensures.0 refl c.as_slice-line.ensures.value c.answer_line-answered.ensures.1 c.flush.ensures

pub returns-in-Ok-send-clause-sends : goal.returns-in-Ok-send-clause-sends
returns-in-Ok-send-clause-sends g c =
    sent_told {A = Unit {0}} {E = EndlessError} g.W.Write.contents c.args.writer.now c.send.new.writer (Ok tt)
    c.clear.new.self c.answer_line-answered.new.writer (terms_in c.args.terms.now)
    (with_taps c.args.world.now c.args.taps.now) c.answer_line-answered.new.world c.answer_line-answered.new.taps
    c.flush.new.self c.args.self.now.noted c.answer_line-answered.new.noted c.args.number c.as_slice-line.result.now
    c.args.self.now.line.items
    c.as_slice-line.ensures.value c.clear.ensures c.in-Ok.ensures c.flush.ensures c.in-Ok-send.ensures

pub returns-in-Err-send-clause-sends : goal.returns-in-Err-send-clause-sends
returns-in-Err-send-clause-sends g c =
    sent_told {A = Unit {0}} {E = EndlessError} g.W.Write.contents c.args.writer.now c.send.new.writer
    (Err (failure.Session Write))
    c.clear.new.self c.answer_line-answered.new.writer (terms_in c.args.terms.now)
    (with_taps c.args.world.now c.args.taps.now) c.answer_line-answered.new.world c.answer_line-answered.new.taps
    c.flush.new.self c.args.self.now.noted c.answer_line-answered.new.noted c.args.number c.as_slice-line.result.now
    c.args.self.now.line.items
    c.as_slice-line.ensures.value c.clear.ensures c.in-Ok.ensures c.flush.ensures c.in-Err-send.ensures
