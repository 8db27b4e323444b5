use Rattle.std.proofs.Common.{◌+◌, ◌*◌, ap, arith, ◌∙◌}
use Rattle.fr_text.proofs.NumberLemmas.{digits-value_more, digits-all_more, digits-few}
use Rattle.fr_lines.proofs.fronts.digits_at_front.Goals as goal

pub overflow_mul-number : goal.overflow_mul-number
overflow_mul-number c =
    let small = digits-few c.args.bytes.now c.loop-at.at c.loop-at.number (omega arith) c.loop-at.invariant.value
    c.loop-at.invariant.digits in
    omega (arith, small)

pub overflow_add-number : goal.overflow_add-number
overflow_add-number c =
    let small = digits-few c.args.bytes.now c.loop-at.at c.loop-at.number (omega arith) c.loop-at.invariant.value
    c.loop-at.invariant.digits in
    omega (arith, small, c.from.ensures, c.if-value-gt9.false)

pub loop-at-preserved : goal.loop-at-preserved
loop-at-preserved c =
    let i = c.loop-at.at in
    record {
      value =
          ap (λ (v : _). c.loop-at.number * 10 + v) c.from.ensures
          ∙ digits-value_more c.args.bytes.now i c.loop-at.number (omega arith) c.loop-at.invariant.value
          (omega (arith, c.type_inv.bytes i)) c.if-value-gt9.false;
      digits =
          digits-all_more c.args.bytes.now i (omega arith) c.loop-at.invariant.digits
          (omega (arith, c.type_inv.bytes i))
          c.if-value-gt9.false;
    }
