use Rattle.fr_judging.proofs.FreshLemmas.{found_from}
use Rattle.fr_judging.proofs.ends.none_found.Goals as goal

pub returns-clause-value : goal.returns-clause-value
returns-clause-value c =
    found_from c.in_ok-vec.field-0.items (c.in_ok-vec.ensures.items_if_clones_equal (λ y is. is))
