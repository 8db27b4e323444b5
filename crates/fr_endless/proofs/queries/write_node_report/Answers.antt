use Rattle.std.proofs.Common.{rules, ◌≡◌, ◌∙◌, Some, None, ap, sym}
use Rattle.std.specs.Prelude.{slice_get}
use Rattle.fr_core.specs.declared.error.StepError.TheVariants.{UnknownNode}
use Rattle.fr_endless.proofs.ReplyLemmas.{replied, replied_so}
use Rattle.fr_endless.proofs.ReportLemmas.{block_same, unknown_same, unknown_place, unknown_count}
use Rattle.fr_auditing.specs.KeptReport.{kept_report}
use Rattle.fr_endless.specs.Answers.{IsReportOf}
use Rattle.fr_lines.specs.Spelling.{line_text}
use Rattle.fr_session.specs.Queries.{IsBlock}
use Rattle.fr_session.specs.Replies.{refusal_words}
use Rattle.fr_endless.proofs.queries.write_node_report.Goals as goal

pub returns-in-Some : goal.returns-in-Some
returns-in-Some g c =
    let l = c.args.world.now in
    let n = c.args.node in
    let place : c.from-place.result ≡ n = search rules in
    let got : slice_get c.buffers.result.now n ≡ Some c.in-Some.count =
    ap (slice_get c.buffers.result.now) (sym place) ∙ sym c.count_at.ensures ∙ c.in-Some.is in
    replied_so g.W.Write.contents c.args.writer.now c.write_report_block.new.writer c.write_report_block.result
    (IsBlock (kept_report c.index-interfaces-place.result c.in-Some.count)) (IsReportOf l n)
    (block_same l n c.index-interfaces-place.result c.in-Some.count c.buffers.result.now (search rules) (search rules)
    c.buffers.ensures got) c.write_report_block.ensures

pub returns-in-None : goal.returns-in-None
returns-in-None g c =
    let l = c.args.world.now in
    let n = c.args.node in
    let place : c.from-place.result ≡ n = search rules in
    let got : slice_get c.buffers.result.now n ≡ None =
    ap (slice_get c.buffers.result.now) (sym place) ∙ sym c.count_at.ensures ∙ c.in-None.is in
    replied g.W.Write.contents c.args.writer.now c.write_unknown.new.writer c.write_unknown.result
    (line_text (refusal_words UnknownNode)) (IsReportOf l n)
    (unknown_same l n (unknown_count l n c.buffers.result.now c.buffers.ensures got)) c.write_unknown.ensures

pub returns-else-place-interfaces : goal.returns-else-place-interfaces
returns-else-place-interfaces g c =
    let l = c.args.world.now in
    let n = c.args.node in
    replied g.W.Write.contents c.args.writer.now c.write_unknown-else-place-interfaces.new.writer
    c.write_unknown-else-place-interfaces.result
    (line_text (refusal_words UnknownNode)) (IsReportOf l n)
    (unknown_same l n (unknown_place l n (search rules))) c.write_unknown-else-place-interfaces.ensures
