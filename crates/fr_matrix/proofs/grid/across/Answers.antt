use Rattle.std.proofs.Common.{arith}
use Rattle.fr_matrix.specs.Places.{step}
use Rattle.fr_matrix.proofs.GridLemmas.{sum-more}
use Rattle.fr_matrix.proofs.grid.across.Goals as goal

pub loop-place-preserved : goal.loop-place-preserved
loop-place-preserved c = (
  omega (arith, c.loop-place.invariant.0, c.step-left.ensures.step, sum-more (step c.args.grid.now) c.loop-place.place),
  omega (arith, c.loop-place.invariant.1, c.step-left.ensures.small),
)
