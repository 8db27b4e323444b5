use Rattle.std.proofs.KnownBytes.{Appends-trans}
use Rattle.fr_lines.specs.Spelling.{line_text, node_words, params_words}
use Rattle.fr_slots.specs.Plans.{with_limits}
use Rattle.fr_trace.proofs.WritingLemmas.{appends-last}
use Rattle.fr_auditing.specs.LongText.{long_head_text, long_params_text}
use Rattle.fr_auditing.proofs.head.write_numbers.Goals as goal

pub returns : goal.returns
returns g c =
    let params = c.args.params.now in
    let plan = with_limits c.args.plan.now c.args.host_entries c.args.slot_entries in
    let start = g.W.Write.contents c.args.writer.now in
    let first = g.W.Write.contents c.writeln.new.self in
    let second = g.W.Write.contents c.write_params.new.writer in
    appends-last c.write_long_node.result start second (g.W.Write.contents c.write_long_node.new.writer)
    (long_params_text params) (line_text (node_words plan))
    (Appends-trans start first second long_head_text (line_text (params_words params)) c.in_ok-writeln.ensures.bytes
    c.in_ok-write_params.ensures) c.write_long_node.ensures
