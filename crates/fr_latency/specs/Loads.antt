-- The load of a channel (project-defined).
use Rattle.std.specs.Prelude.{ℕ, ◌+◌, ◌-◌, min, Bool, ◌&&◌, List, if◌then◌else◌}
use Rattle.std.specs.List.{fold, list_any, sum_by}
use Rattle.fr_slots.specs.declared.channel.Channel.{Channel}
use Rattle.fr_slots.specs.declared.plan.Buffer.{Buffer}
use Rattle.fr_slots.specs.Admission.{cycle_admitted, includes}
use Rattle.fr_slots.specs.Faults.{is_owned, transmits_dynamic}
use Rattle.fr_slots.specs.Numbers.{cycle_count}
use Rattle.fr_slots.specs.Parameters.{Parameters}
use Rattle.fr_slots.specs.Plans.{Plan}
use Rattle.fr_schedule.specs.Descriptions.{Description}
use Rattle.fr_latency.specs.declared.load.Load.{Load}
use Rattle.fr_latency.specs.Below.{count_below, least_below, most_below, sum_below}
use Rattle.fr_latency.specs.Latencies.{has_tasks, last_begin_of, latest_for}
use Rattle.fr_latency.specs.Openings.{frame_length}

-- ---- static slots

-- a node owns the slot on the channel in the cycle
abbrev pub has_owner : List Plan → ℕ → Channel → ℕ → Bool
has_owner plans slot channel cycle = list_any (λ plan. is_owned plan.owned slot channel cycle) plans

-- the cycles in which it has an owner
abbrev pub owned_cycles : Description → Channel → ℕ → ℕ
owned_cycles d channel slot = count_below (has_owner d.plans slot channel) cycle_count

-- the same for all static slots
abbrev pub owned_slots : Description → Channel → ℕ
owned_slots d channel = sum_below (λ earlier. owned_cycles d channel (earlier + 1)) d.params.static_slots

-- ---- dynamic frames

-- the buffer is a dynamic transmit buffer on the channel that admits the cycle
abbrev pub is_dynamic_in : Parameters → Channel → ℕ → Buffer → Bool
is_dynamic_in p channel cycle b =
    transmits_dynamic p b && (includes b.filter.channels channel && cycle_admitted b.filter.cycles cycle)

-- the minislots of all frames that the node can send in the cycle, and of those of all nodes
abbrev pub length_in : Parameters → Channel → ℕ → Buffer → ℕ
length_in p channel cycle b = if is_dynamic_in p channel cycle b then frame_length p b else 0

abbrev pub demand_of : Parameters → Channel → ℕ → Plan → ℕ
demand_of p channel cycle plan = if has_tasks plan then sum_by (length_in p channel cycle) plan.buffers else 0

abbrev pub demand : Description → Channel → ℕ → ℕ
demand d channel cycle = sum_by (demand_of d.params channel cycle) d.plans

-- ---- slack

-- the number of minislots by which the latest start of the buffer's slot in the cycle comes before the latest minislot
-- of its node
abbrev pub spare_in : Description → Channel → Plan → Buffer → ℕ → ℕ
spare_in d channel plan b cycle =
    if is_dynamic_in d.params channel cycle b then latest_for plan b - last_begin_of d b cycle else d.params.minislots

-- the least of them, which is at most the number of minislots
abbrev pub spare : Description → Channel → Plan → Buffer → ℕ
spare d channel plan b = least_below d.params.minislots (spare_in d channel plan b) cycle_count

abbrev pub least_of : {X : Type 0} → (X → ℕ) → ℕ → List X → ℕ
least_of value most xs = fold (λ least x. min least (value x)) most xs

abbrev pub spare_of : Description → Channel → Plan → ℕ
spare_of d channel plan =
    if has_tasks plan then least_of (spare d channel plan) d.params.minislots plan.buffers else d.params.minislots

abbrev pub slack : Description → Channel → ℕ
slack d channel = least_of (spare_of d channel) d.params.minislots d.plans

-- ---- a line

abbrev pub load_of : Description → Channel → Load
load_of d channel = record {
  owned = owned_slots d channel;
  least = least_below (demand d channel 0) (demand d channel) cycle_count;
  most = most_below (demand d channel) cycle_count;
  slack = slack d channel;
}
