use Rattle.std.proofs.Common.{rules}
use Rattle.fr_slots.specs.Plans.{own_fits, IsOwn}
use Rattle.fr_slots.proofs.PlanLemmas.{AllFit-snoc, Each-snoc}
use Rattle.fr_slots.proofs.plan.NodePlan.add_own.Goals as goal

pub invariant_of-self : goal.invariant_of-self
invariant_of-self c =
    record {
      plan_is =
          record {
            few_tasks = c.self.invariant.plan_is.few_tasks;
            latest_a_fits = c.self.invariant.plan_is.latest_a_fits;
            latest_b_fits = c.self.invariant.plan_is.latest_b_fits;
            some_host_entries = c.self.invariant.plan_is.some_host_entries;
            host_entries_fit = c.self.invariant.plan_is.host_entries_fit;
            some_slot_entries = c.self.invariant.plan_is.some_slot_entries;
            slot_entries_fit = c.self.invariant.plan_is.slot_entries_fit;
            few_owned = search rules;
            owned_fit = rw c.push.ensures.items
                (AllFit-snoc own_fits _ _ c.self.invariant.plan_is.owned_fit (search rules));
            owned_are = rw c.push.ensures.items
                (Each-snoc IsOwn _ _ c.self.invariant.plan_is.owned_are c.own_fits.ensures.ranges);
            few_buffers = c.self.invariant.plan_is.few_buffers;
            buffers_fit = c.self.invariant.plan_is.buffers_fit;
            buffers_are = c.self.invariant.plan_is.buffers_are;
            queue_fits = c.self.invariant.plan_is.queue_fits;
            queue_is = c.self.invariant.plan_is.queue_is;
          };
      few_host_entries = c.self.invariant.few_host_entries;
      few_slot_entries = c.self.invariant.few_slot_entries;
    }
