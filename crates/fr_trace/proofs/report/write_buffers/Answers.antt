use Rattle.std.proofs.Common.{◌≡◌, ◌<◌, sym, subst, ap, arith, take, length, List, ℕ}
use Rattle.std.specs.Io.KnownBytes.{Appends}
use Rattle.std.proofs.KnownBytes.{Appends-nil, Appends-trans}
use Rattle.fr_interface.specs.State.{received_by, tally_by}
use Rattle.fr_trace.specs.ReportText.{answer_words, reports_from}
use Rattle.fr_lines.specs.Spelling.{line_text}
use Rattle.fr_trace.proofs.ReportLemmas.{report-more, report-none}
use Rattle.fr_trace.proofs.report.write_buffers.Goals as goal

pub loop-number-init : goal.loop-number-init
loop-number-init g c =
    let contents = g.W.Write.contents c.args.writer.now in
    subst (λ (t : List ℕ). Appends contents contents t) (sym (report-none c.args.interface.now)) (Appends-nil contents)

pub loop-number-preserved : goal.loop-number-preserved
loop-number-preserved g c =
    let s = c.args.interface.now in
    let place = c.loop-number.number in
    let old = g.W.Write.contents c.args.writer.now in
    let mid = g.W.Write.contents c.loop-number.writer in
    let new = g.W.Write.contents c.write_buffer.new.writer in
    let buffers : c.buffers.result.now ≡ s.plan.buffers = c.buffers.ensures.value in
    let lt : place < length s.plan.buffers = omega (arith, ap length buffers, c.loop-number-test.true) in
    subst (λ (t : List ℕ). Appends old new t) (sym (report-more s place lt))
    (Appends-trans old mid new (reports_from s 0 (take place s.plan.buffers))
    (line_text (answer_words place (tally_by s place) (received_by s place))) c.loop-number.invariant
    c.in_ok-write_buffer.ensures)
