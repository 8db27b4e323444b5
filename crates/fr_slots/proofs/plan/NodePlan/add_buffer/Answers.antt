use Rattle.std.proofs.Common.{rules}
use Rattle.fr_slots.specs.Plans.{buffer_fits, IsBuffer}
use Rattle.fr_slots.proofs.PlanLemmas.{AllFit-snoc, Each-snoc}
use Rattle.fr_slots.proofs.plan.NodePlan.add_buffer.Goals as goal

pub invariant_of-self : goal.invariant_of-self
invariant_of-self c =
    record {
      plan_is =
          record {
            few_tasks = c.self.invariant.plan_is.few_tasks;
            latest_a_fits = c.self.invariant.plan_is.latest_a_fits;
            latest_b_fits = c.self.invariant.plan_is.latest_b_fits;
            some_host_entries = c.self.invariant.plan_is.some_host_entries;
            host_entries_fit = c.self.invariant.plan_is.host_entries_fit;
            some_slot_entries = c.self.invariant.plan_is.some_slot_entries;
            slot_entries_fit = c.self.invariant.plan_is.slot_entries_fit;
            few_owned = c.self.invariant.plan_is.few_owned;
            owned_fit = c.self.invariant.plan_is.owned_fit;
            owned_are = c.self.invariant.plan_is.owned_are;
            few_buffers = search rules;
            buffers_fit = rw c.push.ensures.items
                (AllFit-snoc buffer_fits _ _ c.self.invariant.plan_is.buffers_fit (search rules));
            buffers_are = rw c.push.ensures.items (Each-snoc IsBuffer _ _ c.self.invariant.plan_is.buffers_are
                c.buffer_fits.ensures.ranges);
            queue_fits = c.self.invariant.plan_is.queue_fits;
            queue_is = c.self.invariant.plan_is.queue_is;
          };
      few_host_entries = c.self.invariant.few_host_entries;
      few_slot_entries = c.self.invariant.few_slot_entries;
    }
