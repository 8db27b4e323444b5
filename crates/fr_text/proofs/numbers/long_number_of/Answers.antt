use Rattle.std.proofs.Common.{sym, arith}
use Rattle.fr_text.proofs.NumberLemmas.{not_text, not_parsed, not_sign, not_padded, not_below, parsed}
use Rattle.fr_text.proofs.numbers.long_number_of.Goals as goal

pub returns-in_default-clause-number : goal.returns-in_default-clause-number
returns-in_default-clause-number c =
    sym (not_text c.args.bound c.args.word.now (omega arith) c.in_default.ensures.cases.0)

pub returns-in_default-parse-clause-number : goal.returns-in_default-parse-clause-number
returns-in_default-parse-clause-number c =
    let parses = rw c.in-Ok.ensures.cases.0 at c.parse.ensures.value.0 in
    sym (not_parsed c.args.bound c.args.word.now c.parse.result _ (omega arith) parses c.in_default-parse.is)

pub returns-then-word-eq43-clause-number : goal.returns-then-word-eq43-clause-number
returns-then-word-eq43-clause-number c = sym (not_sign c.args.bound c.args.word.now (omega arith) c.if-word-eq43.true)

pub returns-then-word-gt1-clause-number : goal.returns-then-word-gt1-clause-number
returns-then-word-gt1-clause-number c =
    sym (not_padded c.args.bound c.args.word.now (omega arith) c.if-word-eq48.true c.if-word-gt1.true)

pub returns-then-number-bound-clause-number : goal.returns-then-number-bound-clause-number
returns-then-number-bound-clause-number c =
    let parses = rw c.in-Ok.ensures.cases.0 at c.parse.ensures.value.0 in
    sym (not_below c.args.bound c.args.word.now c.parse.result _ (omega arith) parses c.in-Ok-parse.is
    c.if-number-bound.true)

pub returns-clause-number : goal.returns-clause-number
returns-clause-number c =
    let parses = rw c.in-Ok.ensures.cases.0 at c.parse.ensures.value.0 in
    sym (parsed c.args.bound c.args.word.now c.parse.result _ parses c.in-Ok-parse.is c.if-word-eq43.false
    (λ z. omega arith) c.if-number-bound.false)
