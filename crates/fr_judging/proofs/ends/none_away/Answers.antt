use Rattle.fr_judging.proofs.FreshLemmas.{away_from}
use Rattle.fr_judging.proofs.ends.none_away.Goals as goal

pub returns-clause-value : goal.returns-clause-value
returns-clause-value c =
    away_from c.in_ok-vec.field-0.items (c.in_ok-vec.ensures.items_if_clones_equal (λ y is. is))
