use Rattle.std.proofs.Common.{◌≡◌, length, rules, arith, sym, ◌∙◌}
use Rattle.std.proofs.lemmas.Bool.{cond-true, cond-false, eq-eqb, ne_eqb}
use Rattle.fr_text.proofs.LaneLemmas.{first_is, below_few, below_16, below_all}
use Rattle.fr_text.proofs.hexes.front_below.Goals as goal

pub returns-then-others-eq0-clause-below : goal.returns-then-others-eq0-clause-below
returns-then-others-eq0-clause-below c =
    let long : length c.args.values ≡ 32 = search rules in
    let whole = sym (first_is c.args.values long) ∙ cond-true _ _ _ (eq-eqb _ _ c.if-others-eq0.true) in
    λ k lt. below_16 c.args.values k (omega (arith, whole, lt))

pub returns-else-others-eq0-clause-few : goal.returns-else-others-eq0-clause-few
returns-else-others-eq0-clause-few c =
    let long : length c.args.values ≡ 32 = search rules in
    let first = sym (first_is c.args.values long) ∙ cond-false _ _ _ (ne_eqb _ _ c.if-others-eq0.false) in
    omega (arith, first, below_few c.args.values long)

pub returns-else-others-eq0-clause-below : goal.returns-else-others-eq0-clause-below
returns-else-others-eq0-clause-below c =
    let long : length c.args.values ≡ 32 = search rules in
    let first = sym (first_is c.args.values long) ∙ cond-false _ _ _ (ne_eqb _ _ c.if-others-eq0.false) in
    λ k lt. below_16 c.args.values k (omega (arith, first, lt))

pub returns-else-others-eq0-clause-only : goal.returns-else-others-eq0-clause-only
returns-else-others-eq0-clause-only c =
    let long : length c.args.values ≡ 32 = search rules in
    let first = sym (first_is c.args.values long) ∙ cond-false _ _ _ (ne_eqb _ _ c.if-others-eq0.false) in
    λ each. sym first ∙ below_all c.args.values long each
