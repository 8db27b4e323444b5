use Rattle.std.proofs.Common.{rules, ◌≡◌, ◌+◌, leb, true, false, arith}
use Rattle.fr_matrix.specs.Places.{across, step}
use Rattle.fr_matrix.proofs.GridLemmas.{count-more, sum-more}
use Rattle.fr_matrix.proofs.grid.columns_of.Goals.{then-left-le-LAST_END, else-left-le-LAST_END}
use Rattle.fr_matrix.proofs.grid.columns_of.Goals as goal

pub loop-place-preserved : goal.loop-place-preserved
loop-place-preserved c =
    let g = c.args.grid.now in
    let place = c.loop-place.place in
    let h = c.loop-place.invariant in
    let left = c.loop-place.left + c.step-left.result in
    let more = c.if-left-le-LAST_END.columns in
    let left_is : left ≡ across g (place + 1) =
    omega (arith, h.left_is, c.step-left.ensures.step, sum-more (step g) place) in
    record {
      left_is = left_is;
      left_fits = omega (arith, h.left_fits, c.step-left.ensures.small);
      columns_are = elim c.if-left-le-LAST_END.branch [
        | then-left-le-LAST_END w ↦
            let fit : leb left 1580 ≡ true = search rules in
            count-more g place left c.loop-place.columns more true left_is fit h.columns_are w.columns-is
        | else-left-le-LAST_END w ↦
            let fit : leb left 1580 ≡ false = search rules in
            count-more g place left c.loop-place.columns more false left_is fit h.columns_are
            (omega (arith, w.columns-is))
      ];
      few = elim c.if-left-le-LAST_END.branch [
        | then-left-le-LAST_END w ↦ omega (arith, w.columns-is, h.few)
        | else-left-le-LAST_END w ↦ omega (arith, w.columns-is, h.few)
      ];
    }
