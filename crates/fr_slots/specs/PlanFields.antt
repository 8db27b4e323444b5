-- The fields of `NodePlan` as a plan.
use Rattle.std.specs.Prelude.{slice_index}
use Rattle.fr_slots.specs.declared.plan.NodePlan.TheInside.{Inside}
use Rattle.fr_slots.specs.Plans.{Plan, IsNodePlan}

abbrev pub plan_in : Inside → Plan
plan_in p = record {
  tasks = p.tasks;
  latest_a = slice_index p.latest 0;
  latest_b = slice_index p.latest 1;
  host_entries = p.host_entries;
  slot_entries = p.slot_entries;
  owned = p.owned.items;
  buffers = p.buffers.items;
  queue = p.queue;
}

abbrev pub IsLawful : Inside → Type 0
IsLawful p = IsNodePlan (plan_in p)
