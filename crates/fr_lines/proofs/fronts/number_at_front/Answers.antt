use Rattle.std.proofs.Common.{◌≡◌, Some, length, take, arith, length-take, refl}
use Rattle.std.proofs.lemmas.List.{get_or-take, take_rest}
use Rattle.fr_text.specs.Reading.{number_in}
use Rattle.fr_text.proofs.NumberLemmas.{number-digits}
use Rattle.fr_text.proofs.WordLemmas.{first_before, no_space-digits}
use Rattle.fr_lines.proofs.fronts.number_at_front.Goals as goal
use Rattle.fr_lines.proofs.fronts.number_at_front.Goals.{else-bytes-eq48-via-then-bytes-eq48+else-len-gt1}
use Rattle.fr_lines.proofs.fronts.number_at_front.Goals.{else-bytes-eq48-via-else-bytes-eq48}

-- the word in front spells the number
spelled : (c : goal.After-result-1)
    → number_in c.args.bound (take c.digits_at_front-len.result.0 c.args.bytes.now)
    ≡ Some c.digits_at_front-len.result.1
spelled c =
    let len = c.digits_at_front-len.result.0 in
    let word = take len c.args.bytes.now in
    let long : length word ≡ len = omega (arith, length-take len c.args.bytes.now, c.if-len-bytes.false) in
    let first = get_or-take len c.args.bytes.now 0 0 (omega arith) in
    number-digits c.args.bound word c.digits_at_front-len.result.1 (omega arith) c.digits_at_front-len.ensures.value
    c.digits_at_front-len.ensures.digits (omega (arith, long))
    (λ z. elim c.else-bytes-eq48.branch [
      | else-bytes-eq48-via-then-bytes-eq48+else-len-gt1 w ↦ omega (arith, long, w.if-len-gt1)
      | else-bytes-eq48-via-else-bytes-eq48 w ↦ absurd (omega (arith, first, z, w.if-bytes-eq48))
    ])
    (omega arith)

pub returns-clause-number : goal.returns-clause-number
returns-clause-number c =
    (first_before (number_in c.args.bound) _ c.args.bytes.now c.digits_at_front-len.result.0
    c.digits_at_front-len.result.1 refl c.if-len-bytes.false c.if-bytes-len-ne32.false
    (no_space-digits c.args.bytes.now c.digits_at_front-len.result.0 c.digits_at_front-len.ensures.digits
    c.digits_at_front-len.ensures.within)
    (spelled c)).0

pub returns-clause-left : goal.returns-clause-left
returns-clause-left c =
    rw (take_rest)
    (first_before (number_in c.args.bound) _ c.args.bytes.now c.digits_at_front-len.result.0
    c.digits_at_front-len.result.1 refl c.if-len-bytes.false c.if-bytes-len-ne32.false
    (no_space-digits c.args.bytes.now c.digits_at_front-len.result.0 c.digits_at_front-len.ensures.digits
    c.digits_at_front-len.ensures.within)
    (spelled c)).1
