use Rattle.std.proofs.Common.{◌≡◌, refl, rules, IsTrue, Some}
use Rattle.std.specs.Prelude.{slice_get}
use Rattle.std.proofs.lemmas.Option.{slice_get_read}
use Rattle.fr_runs.proofs.EachLemmas.{each_next, each_all}
use Rattle.fr_runs.specs.Suiting.{IsFaultAfter}
use Rattle.fr_runs.proofs.faults.other_fault.Goals as goal

pub loop-place-preserved : goal.loop-place-preserved
loop-place-preserved c =
    let faults = c.args.faults.now in
    let line = c.index-faults-place.result in
    let at : slice_get faults c.loop-place.place ≡ Some line =
    slice_get_read faults _ c.loop-place.place line refl c.loop-place-test.true c.index-faults-place.is in
    let suits : IsTrue c.suits_after.result = search rules in
    each_next (IsFaultAfter c.args.cluster.now c.args.cycles) faults c.loop-place.place line at c.loop-place.invariant
    (c.suits_after.ensures.0 suits)

pub returns : goal.returns
returns c =
    each_all (IsFaultAfter c.args.cluster.now c.args.cycles) c.args.faults.now c.loop-place.place
    c.loop-place-test.false c.loop-place.invariant
