use Rattle.std.proofs.Common.{sym, ◌≤◌, ◌∙◌, arith}
use Rattle.fr_links.proofs.CycleLemmas.{first_shared, none_common, second_shared}
use Rattle.fr_links.proofs.cycles.shared.Goals as goal

pub returns-in_default-clause-none : goal.returns-in_default-clause-none
returns-in_default-clause-none c =
    none_common c.args.one.now c.args.other.now (sym c.first_common.ensures ∙ c.in_default.is)

pub returns-then-repetition-clause-both : goal.returns-then-repetition-clause-both
returns-then-repetition-clause-both c =
    let le : c.args.one.now.repetition ≤ c.args.other.now.repetition = omega (
      arith,
      c.if-repetition.true,
      c.repetition.ensures.value,
      c.repetition-2.ensures.value,
    ) in
    second_shared c.args.one.now c.args.other.now c.repetition.ensures.lawful c.repetition-2.ensures.lawful _
    (sym c.first_common.ensures ∙ c.in-Some.is) le

pub returns-else-repetition-clause-both : goal.returns-else-repetition-clause-both
returns-else-repetition-clause-both c =
    let le : c.args.other.now.repetition ≤ c.args.one.now.repetition = omega (
      arith,
      c.if-repetition.false,
      c.repetition.ensures.value,
      c.repetition-2.ensures.value,
    ) in
    first_shared c.args.one.now c.args.other.now c.repetition.ensures.lawful c.repetition-2.ensures.lawful _
    (sym c.first_common.ensures ∙ c.in-Some.is) le
