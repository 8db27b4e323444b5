use Rattle.std.proofs.Common.{rules, subst}
use Rattle.std.specs.Io.KnownBytes.{Appends}
use Rattle.fr_endless.proofs.SessionLemmas.{begins, ends, ends_full_alike, ends_so_alike, goes_on}
use Rattle.fr_endless.specs.Serving.{AnswersNextAlike}
use Rattle.fr_endless.specs.Taps.{with_taps}
use Rattle.fr_session.specs.Replies.{greeting}
use Rattle.fr_session.specs.TermsFields.{terms_in}
use Rattle.fr_endless.proofs.session.EndlessSession.answer_all.Goals as goal

pub loop-number-init : goal.loop-number-init
loop-number-init g c =
    let told : Appends (g.W.Write.contents c.args.writer.now) (g.W.Write.contents c.greet.new.writer) greeting =
    search rules in (
      begins (terms_in c.args.terms.now) (g.R.Read.remaining c.args.reader.now)
          (g.W.Write.contents c.args.writer.now) (g.W.Write.contents c.greet.new.writer)
          (with_taps c.args.world.now c.args.taps.now) c.args.self.now.noted told,
      c.requires,
    )

pub loop-number-preserved : goal.loop-number-preserved
loop-number-preserved g c =
    let next = subst (λ b. AnswersNextAlike (terms_in c.args.terms.now) b (g.R.Read.remaining c.loop-number.reader)
    (g.R.Read.remaining c.answer_next-answered.new.reader)
    (g.W.Write.contents c.loop-number.writer) (g.W.Write.contents c.answer_next-answered.new.writer)
    c.loop-number.number (with_taps c.loop-number.world c.loop-number.taps) c.loop-number.self.noted
    (with_taps c.answer_next-answered.new.world c.answer_next-answered.new.taps)
    c.answer_next-answered.new.self.noted)
    c.in-Ok-true.field-0-test c.in-Ok-true.ensures.answers in (
      goes_on (terms_in c.args.terms.now) _ _ _ _ _ _ c.loop-number.number (with_taps c.args.world.now c.args.taps.now)
          (with_taps c.loop-number.world c.loop-number.taps)
          (with_taps c.answer_next-answered.new.world c.answer_next-answered.new.taps) c.args.self.now.noted
          c.loop-number.self.noted
          c.answer_next-answered.new.self.noted c.loop-number.invariant.0 next,
      c.in-Ok-true.ensures.failed,
    )

pub returns-in-Ok-false-clause-served : goal.returns-in-Ok-false-clause-served
returns-in-Ok-false-clause-served g c =
    let next = subst (λ b. AnswersNextAlike (terms_in c.args.terms.now) b (g.R.Read.remaining c.loop-number.reader)
    (g.R.Read.remaining c.answer_next-answered.new.reader)
    (g.W.Write.contents c.loop-number.writer) (g.W.Write.contents c.answer_next-answered.new.writer)
    c.loop-number.number (with_taps c.loop-number.world c.loop-number.taps) c.loop-number.self.noted
    (with_taps c.answer_next-answered.new.world c.answer_next-answered.new.taps)
    c.answer_next-answered.new.self.noted)
    c.in-Ok-false.field-0-test c.in-Ok-false.ensures.answers in
    ends (terms_in c.args.terms.now) _ _ _ _ _ _ c.loop-number.number (with_taps c.args.world.now c.args.taps.now)
    (with_taps c.loop-number.world c.loop-number.taps)
    (with_taps c.answer_next-answered.new.world c.answer_next-answered.new.taps) c.args.self.now.noted
    c.loop-number.self.noted
    c.answer_next-answered.new.self.noted c.loop-number.invariant.0 next

pub returns-in-Err-clause-early : goal.returns-in-Err-clause-early
returns-in-Err-clause-early g c =
    ends_so_alike (terms_in c.args.terms.now) c.in-Err.error (g.R.Read.remaining c.args.reader.now)
    (g.R.Read.remaining c.loop-number.reader) (g.R.Read.remaining c.answer_next-answered.new.reader)
    (g.W.Write.contents c.args.writer.now) (g.W.Write.contents c.loop-number.writer)
    (g.W.Write.contents c.answer_next-answered.new.writer) c.loop-number.number
    (with_taps c.args.world.now c.args.taps.now) (with_taps c.loop-number.world c.loop-number.taps)
    (with_taps c.answer_next-answered.new.world c.answer_next-answered.new.taps) c.args.self.now.noted
    c.loop-number.self.noted
    c.answer_next-answered.new.self.noted c.loop-number.invariant.0 c.in-Err.ensures.early

pub returns-clause-early : goal.returns-clause-early
returns-clause-early g c =
    ends_full_alike (terms_in c.args.terms.now) (g.R.Read.remaining c.args.reader.now)
    (g.R.Read.remaining c.loop-number.reader) (g.W.Write.contents c.args.writer.now)
    (g.W.Write.contents c.loop-number.writer) c.loop-number.number (with_taps c.args.world.now c.args.taps.now)
    (with_taps c.loop-number.world c.loop-number.taps)
    c.args.self.now.noted c.loop-number.self.noted c.loop-number.invariant.0
