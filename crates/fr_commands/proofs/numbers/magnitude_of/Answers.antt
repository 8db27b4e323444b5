use Rattle.std.proofs.Common.{◌<◌, length, rules, arith, sym, ◌∙◌}
use Rattle.fr_commands.proofs.NumberLemmas.{digits_are_text, parsed, is_magnitude}
use Rattle.fr_commands.proofs.numbers.magnitude_of.Goals as goal

pub returns-in_default : goal.returns-in_default
returns-in_default c =
    let are = sym c.are_digits.ensures ∙ c.if-not-are_digits.false in
    absurd (c.in_default.ensures.cases.0 (digits_are_text c.args.digits.now are))

pub returns : goal.returns
returns c =
    let are = sym c.are_digits.ensures ∙ c.if-not-are_digits.false in
    let is = rw c.in-Ok.ensures.cases.0 at c.parse.ensures.value.0 in
    let some : 0 < length c.args.digits.now = search (rules, c.is_empty.ensures, c.if-is_empty.false) in
    c.ok.ensures.value ∙ rw (parsed c.args.digits.now c.parse.result is are some (omega arith))
    (sym (is_magnitude c.args.digits.now are some (omega arith)))
