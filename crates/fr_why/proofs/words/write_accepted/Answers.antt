use Rattle.std.proofs.Common.{codes, [], ◌∷◌}
use Rattle.fr_lines.specs.Spelling.{line_text}
use Rattle.fr_trace.proofs.WritingLemmas.{appends-last}
use Rattle.fr_why.specs.WhyText.{count_text}
use Rattle.fr_why.proofs.words.write_accepted.Goals as goal

pub returns : goal.returns
returns g c =
    appends-last c.write_count.result (g.W.Write.contents c.args.writer.now) (g.W.Write.contents c.writeln.new.self)
    (g.W.Write.contents c.write_count.new.writer) (line_text (codes "accepted" ∷ []))
    (count_text c.args.lines c.args.windows)
    c.in_ok-writeln.ensures.bytes c.write_count.ensures
