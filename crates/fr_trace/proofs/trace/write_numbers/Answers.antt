use Rattle.fr_lines.specs.declared.versions.Version.TheVariants.{Three}
use Rattle.fr_lines.specs.Spelling.{line_text, node_words, params_words}
use Rattle.std.proofs.KnownBytes.{Appends-trans}
use Rattle.fr_trace.specs.TraceText.{head_text, params_text}
use Rattle.fr_trace.proofs.WritingLemmas.{appends-last}
use Rattle.fr_trace.proofs.trace.write_numbers.Goals as goal

pub returns : goal.returns
returns g c =
    let params = c.args.params.now in
    let start = g.W.Write.contents c.args.writer.now in
    let first = g.W.Write.contents c.writeln.new.self in
    let second = g.W.Write.contents c.write_params.new.writer in
    appends-last c.write_node.result start second (g.W.Write.contents c.write_node.new.writer)
    (params_text Three params) (line_text (node_words c.args.plan.now))
    (Appends-trans start first second (head_text Three) (line_text (params_words params)) c.in_ok-writeln.ensures.bytes
    c.in_ok-write_params.ensures) c.write_node.ensures
