use Rattle.std.proofs.Common.{rules, subst}
use Rattle.std.specs.Io.KnownBytes.{Appends}
use Rattle.fr_session.proofs.CutLemmas.{ends_full, ends_so}
use Rattle.fr_session.proofs.SessionLemmas.{so_far_none, so_far_more}
use Rattle.fr_session.specs.Replies.{greeting}
use Rattle.fr_session.specs.Sessions.{AnswersNext, Does, Serves, state_of}
use Rattle.fr_session.specs.TermsFields.{terms_in}
use Rattle.fr_session.proofs.session.Session.answer_all.Goals as goal

pub loop-number-init : goal.loop-number-init
loop-number-init g c =
    let told : Appends (g.W.Write.contents c.args.writer.now) (g.W.Write.contents c.greet.new.writer) greeting =
    search rules in
    so_far_none (terms_in c.args.terms.now) (g.R.Read.remaining c.args.reader.now)
    (g.W.Write.contents c.args.writer.now) (g.W.Write.contents c.greet.new.writer)
    (state_of c.args.world.now c.args.self.now.noted) told

pub loop-number-preserved : goal.loop-number-preserved
loop-number-preserved g c =
    let next = subst (λ b. AnswersNext (terms_in c.args.terms.now) b (g.R.Read.remaining c.loop-number.reader)
    (g.R.Read.remaining c.answer_next-answered.new.reader)
    (g.W.Write.contents c.loop-number.writer) (g.W.Write.contents c.answer_next-answered.new.writer)
    c.loop-number.number
    (state_of c.loop-number.world c.loop-number.self.noted)
    (state_of c.answer_next-answered.new.world c.answer_next-answered.new.self.noted))
    c.in-Ok-true.field-0-test c.in-Ok-true.ensures.answers in
    so_far_more _ _ _ _ _ _ _ _ _ _ _ c.loop-number.invariant next

pub returns-in-Err-clause-early : goal.returns-in-Err-clause-early
returns-in-Err-clause-early g c =
    let t = terms_in c.args.terms.now in
    ends_so (Does t) (Serves t) c.in-Err.error (g.R.Read.remaining c.args.reader.now)
    (g.R.Read.remaining c.loop-number.reader) (g.R.Read.remaining c.answer_next-answered.new.reader)
    (g.W.Write.contents c.args.writer.now) (g.W.Write.contents c.loop-number.writer)
    (g.W.Write.contents c.answer_next-answered.new.writer) c.loop-number.number
    (state_of c.args.world.now c.args.self.now.noted) (state_of c.loop-number.world c.loop-number.self.noted)
    (state_of c.answer_next-answered.new.world c.answer_next-answered.new.self.noted) c.loop-number.invariant
    c.in-Err.ensures.early

pub returns-clause-early : goal.returns-clause-early
returns-clause-early g c =
    let t = terms_in c.args.terms.now in
    ends_full (Does t) (Serves t) (g.R.Read.remaining c.args.reader.now) (g.R.Read.remaining c.loop-number.reader)
    (g.W.Write.contents c.args.writer.now) (g.W.Write.contents c.loop-number.writer) c.loop-number.number
    (state_of c.args.world.now c.args.self.now.noted) (state_of c.loop-number.world c.loop-number.self.noted)
    c.loop-number.invariant
