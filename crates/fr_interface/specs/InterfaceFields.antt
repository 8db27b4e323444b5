-- The kept data and the history of an interface as its state.
use Rattle.std.specs.Prelude.{◌≡◌, ℕ, ◌≤◌, List, Option, Some, None}
use Rattle.fr_interface.specs.Standing.{Standing, IsHistory}
use Rattle.fr_interface.specs.State.{State}
use Rattle.fr_journal.specs.Forms.{Entry}
use Rattle.fr_journal.specs.Histories.{Limits}
use Rattle.fr_slots.specs.Faults.{plan_fault}
use Rattle.fr_slots.specs.Numbers.{last_host_limit, last_slot_limit}
use Rattle.fr_slots.specs.Plans.{Plan, IsNodePlan, with_limits}

-- the state after these entries, with a plan that has the room of the kept data
abbrev pub state_in : Standing → List Entry → State
state_in h entries = record {
  params = h.params;
  plan = with_limits h.plan h.host_limit h.slot_limit;
  entries = entries;
}

-- The history has the room of the kept data, which is the plan's.
pub record IsPlanned (plan : Plan) (host slot : ℕ) (limits : Limits) : Type 0 where
  pub host_is : limits.host ≡ host
  pub slot_is : limits.slot ≡ slot
  pub host_planned : host ≡ plan.host_entries
  pub slot_planned : slot ≡ plan.slot_entries

-- A history without limits has the room of the kept data, whatever the plan's is.
abbrev pub HasLimits : Plan → ℕ → ℕ → Option Limits → Type 0
HasLimits plan host slot None = Unit {0}
HasLimits plan host slot (Some limits) = IsPlanned plan host slot limits

-- room for a call and a window, and no more than the numbers of entries allow
pub record IsRoom (host slot : ℕ) : Type 0 where
  pub some_host : 1 ≤ host
  pub host_fits : host ≤ last_host_limit
  pub some_slot : 2 ≤ slot
  pub slot_fits : slot ≤ last_slot_limit

-- The entries are a legal history with the kept data as its result. The plan is a node's.
pub record IsLawful (h : Standing) (entries : List Entry) (limits : Option Limits) : Type 0 where
  pub limits_are : HasLimits h.plan h.host_limit h.slot_limit limits
  pub room_is : IsRoom h.host_limit h.slot_limit
  pub plan_is : IsNodePlan h.plan
  pub faultless : plan_fault h.params h.plan ≡ None
  pub history : IsHistory h (state_in h entries)
