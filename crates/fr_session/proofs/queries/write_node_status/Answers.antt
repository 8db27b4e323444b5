use Rattle.std.proofs.Common.{rules}
use Rattle.fr_session.proofs.QueryLemmas.{line_told}
use Rattle.fr_session.specs.Queries.{status_text}
use Rattle.fr_session.proofs.queries.write_node_status.Goals as goal

pub returns-then-place-interfaces : goal.returns-then-place-interfaces
returns-then-place-interfaces g c =
    line_told g.W.Write.contents _ _ c.write_interface_status.result (status_text c.args.channel) c.args.world.now
    c.args.node c.index-interfaces-place.result (search rules) (search rules) c.write_interface_status.ensures
