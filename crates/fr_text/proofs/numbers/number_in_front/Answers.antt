use Rattle.std.proofs.Common.{◌≡◌, length, take, arith, length-take}
use Rattle.std.proofs.lemmas.List.{get_or-take}
use Rattle.fr_text.proofs.NumberLemmas.{number-digits}
use Rattle.fr_text.proofs.numbers.number_in_front.Goals as goal
use Rattle.fr_text.proofs.numbers.number_in_front.Goals.{else-bytes-eq48-via-then-bytes-eq48+else-len-gt1}
use Rattle.fr_text.proofs.numbers.number_in_front.Goals.{else-bytes-eq48-via-else-bytes-eq48}

pub returns-clause-number : goal.returns-clause-number
returns-clause-number c =
    let len = c.digits_in_front-len.result.0 in
    let word = take len c.args.bytes.now in
    let long : length word ≡ len = omega (arith, length-take len c.args.bytes.now) in
    let first = get_or-take len c.args.bytes.now 0 0 (omega arith) in
    number-digits c.args.bound word c.digits_in_front-len.result.1 (omega arith) c.digits_in_front-len.ensures.value
    c.digits_in_front-len.ensures.digits (omega (arith, long))
    (λ z. elim c.else-bytes-eq48.branch [
      | else-bytes-eq48-via-then-bytes-eq48+else-len-gt1 w ↦ omega (arith, long, w.if-len-gt1)
      | else-bytes-eq48-via-else-bytes-eq48 w ↦ absurd (omega (arith, first, z, w.if-bytes-eq48))
    ])
    (omega arith)
