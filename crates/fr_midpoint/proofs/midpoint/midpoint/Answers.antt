use Rattle.std.proofs.Common.{◌≡◌, ℤ, List, false, sym, ap, subst, ◌∙◌}
use Rattle.std.specs.Prelude.{All}
use Rattle.fr_midpoint.specs.Refusals.{is_large}
use Rattle.fr_midpoint.specs.Selection.{middle_of}
use Rattle.fr_midpoint.proofs.RankLemmas.{middle_found, middle_only, middle_none_of, none_large_moved}
use Rattle.fr_midpoint.proofs.midpoint.midpoint.Goals as goal

pub middle_of-requires-clause-near : goal.middle_of-requires-clause-near
middle_of-requires-clause-near c =
    subst (λ (xs : List ℤ). All (λ v. is_large v ≡ false) xs) (sym c.as_slice.ensures.value)
    (none_large_moved is_large c.args.values.now c.in-Some.ascending.items c.in-Some.ensures.moved
    (sym c.any_large.ensures ∙ c.if-any_large.false))

pub returns-clause-none : goal.returns-clause-none
returns-clause-none c =
    middle_none_of c.args.values.now c.in-Some.ascending.items c.in-Some.ensures.moved c.middle_of.result
    (c.middle_of.ensures ∙ ap middle_of c.as_slice.ensures.value)

pub returns-clause-found : goal.returns-clause-found
returns-clause-found c =
    middle_found c.args.values.now c.in-Some.ascending.items c.in-Some.ensures.moved c.in-Some.ensures.sorted
    c.middle_of.result (c.middle_of.ensures ∙ ap middle_of c.as_slice.ensures.value)

pub returns-clause-only : goal.returns-clause-only
returns-clause-only c =
    middle_only c.args.values.now c.in-Some.ascending.items c.in-Some.ensures.moved c.in-Some.ensures.sorted
    c.middle_of.result (c.middle_of.ensures ∙ ap middle_of c.as_slice.ensures.value)
