-- The room that a history has for an entry that isn't refused, and the room of a plan.
use Rattle.std.proofs.Common.{◌≡◌, ℕ, List, Option, Some, None, refl, arith, ◌∙◌}
use Rattle.fr_interface.specs.InterfaceFields.{state_in, HasLimits, IsRoom, IsLawful}
use Rattle.fr_interface.specs.Standing.{Standing, observe_refused}
use Rattle.fr_interface.specs.State.{IsLegalInterface}
use Rattle.fr_interface.proofs.StandingLemmas.{observe-room}
use Rattle.fr_journal.specs.Forms.{Entry}
use Rattle.fr_journal.specs.Histories.{Limits, HasSlotRoom}
use Rattle.fr_slots.specs.Faults.{plan_fault, ownership_fault, buffer_fault}
use Rattle.fr_slots.specs.Parameters.{Parameters}
use Rattle.fr_slots.specs.Plans.{Plan, IsPlan, with_limits}

observe-within : (h : Standing) (es : List Entry) (of : Option Limits) (number : ℕ) → IsLawful h es of
    → HasLimits h.plan h.host_limit h.slot_limit of → observe_refused h number ≡ None → HasSlotRoom of es
observe-within h es None number lawful are taken = tt
observe-within h es (Some limits) number lawful are taken =
    omega (arith, are.slot_is, observe-room h (state_in h es) number lawful.history taken)

-- there is always room for an observe
pub observe-fits : (h : Standing) (es : List Entry) (of : Option Limits) (number : ℕ) → IsLawful h es of
    → observe_refused h number ≡ None → HasSlotRoom of es
observe-fits h es of number lawful taken = observe-within h es of number lawful lawful.limits_are taken

-- ---- the room that a plan gives has no effect on its faults and its lines

pub fault-limits : (p : Parameters) (plan : Plan) (host slot : ℕ)
    → plan_fault p (with_limits plan host slot) ≡ plan_fault p plan
unfolding plan_fault ownership_fault buffer_fault
fault-limits p plan host slot = refl

-- a plan with another room within the limits
pub plan-limits : (plan : Plan) (host slot : ℕ) → IsPlan plan → IsRoom host slot → IsPlan (with_limits plan host slot)
plan-limits plan host slot is room = record {
  few_tasks = is.few_tasks;
  latest_a_fits = is.latest_a_fits;
  latest_b_fits = is.latest_b_fits;
  some_host_entries = room.some_host;
  host_entries_fit = room.host_fits;
  some_slot_entries = room.some_slot;
  slot_entries_fit = room.slot_fits;
  few_owned = is.few_owned;
  owned_fit = is.owned_fit;
  owned_are = is.owned_are;
  few_buffers = is.few_buffers;
  buffers_fit = is.buffers_fit;
  buffers_are = is.buffers_are;
  queue_fits = is.queue_fits;
  queue_is = is.queue_is;
}

-- every interface is legal
pub lawful-legal : (h : Standing) (es : List Entry) (of : Option Limits) → IsLawful h es of
    → IsLegalInterface (state_in h es)
lawful-legal h es of lawful = record {
  params_are = lawful.history.legal.params_are;
  plan_is = plan-limits h.plan h.host_limit h.slot_limit lawful.plan_is.plan_is lawful.room_is;
  faultless = fault-limits h.params h.plan h.host_limit h.slot_limit ∙ lawful.faultless;
  entries_are = lawful.history.legal.entries_are;
  legal = lawful.history.legal.legal;
}
