use Rattle.std.proofs.Common.{List, ℕ, sym, subst}
use Rattle.std.specs.Io.KnownBytes.{Appends}
use Rattle.std.proofs.KnownBytes.{Appends-nil, Appends-trans}
use Rattle.fr_auditing.proofs.KeptLemmas.{lines_none, lines_more}
use Rattle.fr_auditing.specs.KeptReport.{buffer_line, buffer_lines}
use Rattle.fr_auditing.proofs.report.write_buffers.Goals as goal

pub loop-number-init : goal.loop-number-init
loop-number-init g c =
    let contents = g.W.Write.contents c.args.writer.now in
    subst (λ (t : List ℕ). Appends contents contents t) (sym (lines_none c.args.interface.now)) (Appends-nil contents)

pub loop-number-preserved : goal.loop-number-preserved
loop-number-preserved g c =
    let h = c.args.interface.now in
    let count = c.loop-number.number in
    let old = g.W.Write.contents c.args.writer.now in
    let mid = g.W.Write.contents c.loop-number.writer in
    let new = g.W.Write.contents c.write_buffer.new.writer in
    subst (λ (t : List ℕ). Appends old new t) (sym (lines_more h count))
    (Appends-trans old mid new (buffer_lines h count) (buffer_line h count) c.loop-number.invariant
    c.in_ok-write_buffer.ensures)
