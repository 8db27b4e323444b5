use Rattle.std.proofs.Common.{rules}
use Rattle.fr_matrix.specs.Places.{grid_of, most_drawn}
use Rattle.fr_matrix.proofs.GridLemmas.{width_is_small}
use Rattle.fr_matrix.proofs.matrix.matrix_of.Goals as goal

pub returns-in-Ok : goal.returns-in-Ok
returns-in-Ok c =
    let p = c.args.params.now in
    let v = c.args.view.now in
    let all = c.args.recorded.now in
    record { text_is = search rules; is_small = width_is_small (grid_of p v all) (most_drawn v all) }
