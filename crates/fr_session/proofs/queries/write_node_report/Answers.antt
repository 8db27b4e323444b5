use Rattle.std.proofs.Common.{rules}
use Rattle.fr_session.proofs.QueryLemmas.{node_told}
use Rattle.fr_trace.specs.ReportText.{report_text}
use Rattle.fr_session.proofs.queries.write_node_report.Goals as goal

pub returns-then-place-interfaces : goal.returns-then-place-interfaces
returns-then-place-interfaces g c =
    node_told g.W.Write.contents _ _ c.write_report_block.result report_text c.args.world.now c.args.node
    c.index-interfaces-place.result (search rules) (search rules) c.write_report_block.ensures
