use Rattle.fr_schedule.proofs.DenseSenderLemmas.{free_from}
use Rattle.fr_schedule.proofs.senders.free_table.Goals as goal

pub returns : goal.returns
returns c = free_from c.in_ok-vec.field-0.items (c.in_ok-vec.ensures.items_if_clones_equal (λ y is. is))
