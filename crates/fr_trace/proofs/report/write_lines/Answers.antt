use Rattle.std.proofs.Common.{◌++◌}
use Rattle.std.proofs.KnownBytes.{Appends-trans}
use Rattle.fr_trace.specs.ReportText.{reports_from, queue_report, channels_report}
use Rattle.fr_trace.proofs.WritingLemmas.{appends-last}
use Rattle.fr_trace.proofs.report.write_lines.Goals as goal

pub returns : goal.returns
returns g c =
    let s = c.args.interface.now in
    let buffers = reports_from s 0 s.plan.buffers in
    let queue = queue_report s s.plan.queue in
    let start = g.W.Write.contents c.args.writer.now in
    let first = g.W.Write.contents c.write_buffers.new.writer in
    let second = g.W.Write.contents c.write_queue.new.writer in
    let end = g.W.Write.contents c.write_channels.new.writer in
    appends-last c.write_channels.result start second end (buffers ++ queue) (channels_report s)
    (Appends-trans start first second buffers queue c.in_ok-write_buffers.ensures c.in_ok-write_queue.ensures)
    c.write_channels.ensures
