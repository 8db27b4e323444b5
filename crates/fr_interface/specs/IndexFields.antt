-- The properties of a plan's index.
use Rattle.fr_interface.specs.declared.index.IndexedPlan.TheInside.{Inside}
use Rattle.fr_interface.specs.Ranges.{AreRanges, buffer_slots, own_slots, sending_slots}

pub record IsIndexed (i : Inside) : Type 0 where
  pub buffers : AreRanges (buffer_slots i.plan.buffers) i.buffer_ranges.items
  pub sending : AreRanges (sending_slots i.plan.buffers) i.sending_ranges.items
  pub owned : AreRanges (own_slots i.plan.owned) i.own_ranges.items
