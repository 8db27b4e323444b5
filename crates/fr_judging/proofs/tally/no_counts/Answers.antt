use Rattle.fr_judging.proofs.FreshLemmas.{counts_from}
use Rattle.fr_judging.proofs.tally.no_counts.Goals as goal

pub returns-clause-value : goal.returns-clause-value
returns-clause-value c =
    counts_from c.in_ok-vec.field-0.items c.new-tally.result
    (c.in_ok-vec.ensures.items_if_clones_equal (λ y is. is)) c.new-tally.ensures
