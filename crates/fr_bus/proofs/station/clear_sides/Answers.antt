use Rattle.std.proofs.Common.{◌<◌, List, length, ap, ◌∙◌, arith}
use Rattle.std.specs.Prelude.{slice_set}
use Rattle.fr_bus.proofs.SeenLemmas.{ready_more}
use Rattle.fr_bus.specs.declared.station.Sides.{Sides}
use Rattle.fr_bus.specs.Stations.{silent_sides}
use Rattle.fr_bus.proofs.station.clear_sides.Goals as goal

pub loop-place-preserved : goal.loop-place-preserved
loop-place-preserved c =
    let n = c.loop-place.place in
    let within : n < length c.args.sides.now.items = omega (arith, c.loop-place-test.true, c.len-place-end.ensures) in
    ap (λ (s : Sides). slice_set c.loop-place.sides.items n s) c.clear.ensures
    ∙ ap (λ (xs : List Sides). slice_set xs n silent_sides) c.loop-place.invariant
    ∙ ready_more silent_sides n c.args.sides.now.items within
