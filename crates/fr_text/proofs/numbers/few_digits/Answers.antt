use Rattle.std.proofs.Common.{◌+◌, ◌*◌, ap, arith, ◌∙◌}
use Rattle.fr_text.proofs.NumberLemmas.{digits-value_more, digits-all_more, digits-small, digits-other}
use Rattle.fr_text.proofs.numbers.few_digits.Goals as goal

pub returns-then-value-gt9-clause-none : goal.returns-then-value-gt9-clause-none
returns-then-value-gt9-clause-none c =
    digits-other c.args.word.now c.loop-digit.digit-index c.loop-digit-test.true c.if-value-gt9.true

pub overflow_mul-number : goal.overflow_mul-number
overflow_mul-number c =
    let small =
    digits-small c.args.word.now c.loop-digit.digit-index c.loop-digit.number c.requires c.loop-digit.invariant.value
    c.loop-digit.invariant.digits in
    omega (arith, small)

pub overflow_add-number : goal.overflow_add-number
overflow_add-number c =
    let small =
    digits-small c.args.word.now c.loop-digit.digit-index c.loop-digit.number c.requires c.loop-digit.invariant.value
    c.loop-digit.invariant.digits in
    omega (arith, small, c.from.ensures, c.if-value-gt9.false)

pub loop-digit-preserved : goal.loop-digit-preserved
loop-digit-preserved c =
    let i = c.loop-digit.digit-index in
    record {
      value =
          ap (λ (v : _). c.loop-digit.number * 10 + v) c.from.ensures
          ∙ digits-value_more c.args.word.now i c.loop-digit.number c.loop-digit-test.true c.loop-digit.invariant.value
          (omega (arith, c.type_inv.word i)) c.if-value-gt9.false;
      digits =
          digits-all_more c.args.word.now i c.loop-digit-test.true c.loop-digit.invariant.digits
          (omega (arith, c.type_inv.word i)) c.if-value-gt9.false;
    }
