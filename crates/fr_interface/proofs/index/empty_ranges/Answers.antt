use Rattle.fr_interface.proofs.RangeLemmas.{ranges-none}
use Rattle.fr_interface.proofs.index.empty_ranges.Goals as goal

pub returns : goal.returns
returns c = ranges-none c.in_ok-vec.field-0.items (c.in_ok-vec.ensures.items_if_clones_equal (λ y is. is))
