use Rattle.std.proofs.Common.{◌++◌, length}
use Rattle.std.proofs.KnownBytes.{Appends-trans}
use Rattle.std.specs.Prelude.{option_map}
use Rattle.fr_auditing.specs.KeptReport.{buffer_lines, channel_lines, queue_line}
use Rattle.fr_trace.proofs.WritingLemmas.{appends-last}
use Rattle.fr_auditing.proofs.report.write_kept_report.Goals as goal

pub returns : goal.returns
returns g c =
    let h = c.args.interface.now in
    let buffers = buffer_lines h c.args.count in
    let queue = queue_line (option_map (λ q. length q.frames) h.queue) (option_map (λ q. q.lost) h.queue) in
    let start = g.W.Write.contents c.args.writer.now in
    let first = g.W.Write.contents c.write_buffers.new.writer in
    let second = g.W.Write.contents c.write_queue.new.writer in
    let end = g.W.Write.contents c.write_channels.new.writer in
    appends-last c.write_channels.result start second end (buffers ++ queue) (channel_lines h.counters)
    (Appends-trans start first second buffers queue c.in_ok-write_buffers.ensures c.in_ok-write_queue.ensures)
    c.write_channels.ensures
