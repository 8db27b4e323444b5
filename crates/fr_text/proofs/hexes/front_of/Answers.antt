use Rattle.std.proofs.Common.{rules, arith}
use Rattle.fr_text.proofs.DigitLemmas.{front_spelled}
use Rattle.fr_text.proofs.hexes.front_of.Goals as goal

pub returns-clause-spelled : goal.returns-clause-spelled
returns-clause-spelled c =
    let front = c.values_in_front-front.ensures in
    front_spelled _ _ _ _ (omega (arith, front.few, c.min.ensures)) (search rules) (search rules)
    (λ k lt. front.are k (omega (arith, c.min.ensures))) c.packed_bytes.ensures
