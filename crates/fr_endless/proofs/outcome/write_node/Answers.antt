use Rattle.std.proofs.Common.{[], ◌∷◌}
use Rattle.std.proofs.KnownBytes.{Appends-trans}
use Rattle.std.specs.Fmt.{decimal}
use Rattle.std.specs.Prelude.{codes}
use Rattle.fr_auditing.specs.KeptReport.{kept_report}
use Rattle.fr_lines.specs.Spelling.{line_text}
use Rattle.fr_endless.proofs.outcome.write_node.Goals as goal

pub returns : goal.returns
returns g c =
    Appends-trans (g.W.Write.contents c.args.writer.now) (g.W.Write.contents c.writeln.new.self)
    (g.W.Write.contents c.write_kept_report.new.writer) (line_text (codes "node" ∷ decimal c.args.node ∷ []))
    (kept_report c.args.interface.now c.args.count) c.in_ok-writeln.ensures.bytes c.in_ok-write_kept_report.ensures
