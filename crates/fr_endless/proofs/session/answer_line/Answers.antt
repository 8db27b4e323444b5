use Rattle.std.proofs.Common.{◌∙◌, sym}
use Rattle.fr_endless.proofs.ReplyLemmas.{replied, asked_if, bad_line_so}
use Rattle.fr_endless.specs.Taps.{with_taps}
use Rattle.fr_session.specs.TermsFields.{terms_in}
use Rattle.fr_endless.proofs.session.answer_line.Goals as goal

pub returns-in-Some : goal.returns-in-Some
returns-in-Some g c =
    asked_if g.W.Write.contents c.args.writer.now c.do_request.new.writer c.do_request.result
    (terms_in c.args.terms.now) (with_taps c.args.world.now c.args.taps.now)
    (with_taps c.do_request.new.world c.do_request.new.taps) c.args.noted.now c.do_request.new.noted
    c.args.number _ _ (sym c.request_of.ensures ∙ c.in-Some.is) c.do_request.ensures

pub returns-in-None : goal.returns-in-None
returns-in-None g c =
    asked_if g.W.Write.contents c.args.writer.now c.write_bad_line.new.writer c.write_bad_line.result
    (terms_in c.args.terms.now) (with_taps c.args.world.now c.args.taps.now)
    (with_taps c.args.world.now c.args.taps.now) c.args.noted.now c.args.noted.now
    c.args.number _ _ (sym c.request_of.ensures ∙ c.in-None.is)
    (replied g.W.Write.contents c.args.writer.now c.write_bad_line.new.writer c.write_bad_line.result _ _
    (bad_line_so (terms_in c.args.terms.now) (with_taps c.args.world.now c.args.taps.now) c.args.noted.now
    c.args.number)
    c.write_bad_line.ensures)
