use Rattle.std.proofs.Common.{◌≡◌, ◌<◌, length, sym, ◌∙◌, arith, rules}
use Rattle.fr_text.proofs.NumberLemmas.{number-no_digits, number-empty, not_padded, number-high, number-digits}
use Rattle.fr_text.proofs.numbers.short_number_of.Goals as goal

pub returns-in_err-number-clause-number : goal.returns-in_err-number-clause-number
returns-in_err-number-clause-number c =
    c.from_residual.ensures
    ∙ sym (number-no_digits c.args.bound c.args.word.now (omega arith) c.in_err-number.ensures.none)

pub returns-then-is_empty-clause-number : goal.returns-then-is_empty-clause-number
returns-then-is_empty-clause-number c =
    let empty : length c.args.word.now ≡ 0 = search rules in
    sym (number-empty c.args.bound c.args.word.now (omega arith) empty)

pub returns-then-word-gt1-clause-number : goal.returns-then-word-gt1-clause-number
returns-then-word-gt1-clause-number c =
    sym (not_padded c.args.bound c.args.word.now (omega arith) c.if-word-eq48.true c.if-word-gt1.true)

pub returns-then-number-bound-clause-number : goal.returns-then-number-bound-clause-number
returns-then-number-bound-clause-number c =
    let value = c.in_ok-number.ensures.value in
    sym (number-high c.args.bound c.args.word.now c.in_ok-number.number (omega arith) value c.if-number-bound.true)

pub returns-clause-number : goal.returns-clause-number
returns-clause-number c =
    let some : 0 < length c.args.word.now = search rules in
    sym (number-digits c.args.bound c.args.word.now c.in_ok-number.number (omega arith) c.in_ok-number.ensures.value
    c.in_ok-number.ensures.digits some (λ z. omega arith) c.if-number-bound.false)
