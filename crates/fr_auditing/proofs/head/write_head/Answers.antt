use Rattle.std.proofs.Common.{◌++◌}
use Rattle.fr_lines.specs.Spelling.{line_feed, begin_line}
use Rattle.fr_slots.specs.Plans.{with_limits}
use Rattle.fr_trace.proofs.WritingLemmas.{appends-last}
use Rattle.fr_auditing.specs.LongText.{long_plan_text}
use Rattle.fr_auditing.proofs.head.write_head.Goals as goal

pub returns : goal.returns
returns g c =
    let plan = with_limits c.args.plan.now c.args.host_entries c.args.slot_entries in
    appends-last c.writeln.result (g.W.Write.contents c.args.writer.now) (g.W.Write.contents c.write_plan.new.writer)
    (g.W.Write.contents c.writeln.new.self) (long_plan_text c.args.params.now plan) (begin_line ++ line_feed)
    c.in_ok-write_plan.ensures c.writeln.ensures.bytes
