use Rattle.std.proofs.Common.{rules}
use Rattle.fr_session.proofs.QueryLemmas.{line_told}
use Rattle.fr_session.specs.Queries.{origin_text}
use Rattle.fr_session.proofs.queries.write_node_origin.Goals as goal

pub returns-then-place-interfaces : goal.returns-then-place-interfaces
returns-then-place-interfaces g c =
    line_told g.W.Write.contents _ _ c.write_origin.result origin_text c.args.world.now c.args.node
    c.index-interfaces-place.result (search rules) (search rules) c.write_origin.ensures
