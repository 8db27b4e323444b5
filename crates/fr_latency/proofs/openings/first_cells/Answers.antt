use Rattle.std.proofs.Common.{◌≡◌, replicate, rules}
use Rattle.fr_latency.proofs.CellLemmas.{first_set}
use Rattle.fr_latency.proofs.openings.first_cells.Goals as goal

pub returns-clause-bits : goal.returns-clause-bits
returns-clause-bits c =
    let zeros : c.in_ok-cells.cells.items ≡ replicate c.args.width 0 = search rules in
    first_set c.in_ok-cells.cells.items c.args.width zeros c.requires
