-- Runs in which a commit waits as long as the table of latencies says.
use Rattle.std.specs.Prelude.{◌≡◌, ℕ, ◌+◌, ◌-◌, ◌*◌, ◌%◌, ◌≤◌, ◌<◌, true, not, ◌&&◌, List, [], ◌∷◌, ◌++◌, length, Some}
use Rattle.std.specs.Prelude.{None, slice_get, if◌then◌else◌}
use Rattle.fr_bus.specs.States.{collecting_of}
use Rattle.fr_bus.specs.Windows.{cycles_begun}
use Rattle.fr_core.specs.Carried.{Waits}
use Rattle.fr_core.specs.declared.event.Event.TheVariants.{Commit}
use Rattle.fr_core.specs.Steps.{step_refusal, step_done}
use Rattle.fr_core.specs.Worlds.{WorldState, interface_at, carried_at, opening_world}
use Rattle.fr_guarantees.specs.Exactness.{HasRoom}
use Rattle.fr_guarantees.specs.Leading.{Leads}
use Rattle.fr_journal.specs.declared.entry.Entry.TheVariants as entries
use Rattle.fr_journal.specs.declared.entry.Offered.{Offered}
use Rattle.fr_journal.specs.declared.entry.Offered.TheVariants.{Data}
use Rattle.fr_journal.specs.Fate.{pending_commit}
use Rattle.fr_journal.specs.Forms.{Entry}
use Rattle.fr_journal.specs.Offers.{offered}
use Rattle.fr_latency.specs.Below.{sum_below}
use Rattle.fr_latency.specs.declared.latency.State.TheVariants.{Guaranteed}
use Rattle.fr_latency.specs.Latencies.{before_slot, channel_of, distance, is_guaranteed, wait_from, earliest_start}
use Rattle.fr_latency.specs.Latencies.{latest_end, state_of, worst_latency}
use Rattle.fr_schedule.specs.Descriptions.{Description}
use Rattle.fr_slots.specs.Admission.{cycle_admitted}
use Rattle.fr_slots.specs.declared.channel.Channel.{Channel}
use Rattle.fr_slots.specs.declared.plan.Buffer.{Buffer}
use Rattle.fr_slots.specs.Faults.{minislots_filled, transmits, words_of}
use Rattle.fr_slots.specs.Numbers.{cycle_count}
use Rattle.fr_slots.specs.Plans.{Plan, buffer_at}
use Rattle.fr_slots.specs.Windows.{Opportunity, slot_of, is_static, run_cycle as cycle_in_run}
use Rattle.fr_timing.specs.Segments.{dynamic_start}

-- the cycle of the run that has the window, if the window comes next
abbrev pub run_cycle : WorldState → Opportunity → ℕ
run_cycle w window = cycle_in_run (cycles_begun w.bus.sealed) window

-- macroticks from the start of the run to the start of the window, in which the channel has this slot
abbrev pub start_of : WorldState → Opportunity → ℕ → ℕ
start_of w window slot =
    run_cycle w window * w.bus.cluster.params.cycle_mt
    + (if is_static window then (slot - 1) * w.bus.cluster.params.static_mt
    else dynamic_start w.bus.cluster.params + (window.minislot - 1) * w.bus.cluster.params.minislot_mt)

-- to the end of the buffer's frame that begins there: of its static slot, or of the last minislot that it fills
abbrev pub end_of : WorldState → Opportunity → Buffer → ℕ
end_of w window b =
    run_cycle w window * w.bus.cluster.params.cycle_mt
    + (if is_static window then b.filter.slot * w.bus.cluster.params.static_mt
    else dynamic_start w.bus.cluster.params
    + (window.minislot - 1 + minislots_filled w.bus.cluster.params (words_of w.bus.cluster.params b))
    * w.bus.cluster.params.minislot_mt)

-- A node fetches a window of the buffer's slot, and right after that a host commits on the buffer. The commit is
-- pending until the node fetches a later window of the slot, where it is offered. From the start of the first window to
-- the end of the frame there are so many macroticks.
pub record IsDelayed (d : Description) (n number : ℕ) (b : Buffer) (channel : Channel) (cycles delay : ℕ) : Type 0 where
  pub first_world : WorldState
  pub leads_first : Leads (opening_world d cycles) first_world
  pub first : Opportunity
  pub first_slot : slot_of first channel ≡ Some b.filter.slot
  pub waits : carried_at first_world n ≡ Waits first
  pub before : List Entry
  pub on_a : Offered
  pub on_b : Offered
  pub fetched : (interface_at first_world n).entries ≡ before ++ entries.Fetch first on_a on_b ∷ []
  pub payload : List ℕ
  pub accepted : step_refusal first_world (Commit n 0 number payload) ≡ None
  pub last_world : WorldState
  pub leads_last : Leads (step_done first_world (Commit n 0 number payload)) last_world
  pub last : Opportunity
  pub is_open : collecting_of last_world.bus ≡ Some last
  pub last_slot : slot_of last channel ≡ Some b.filter.slot
  pub pending : pending_commit number (interface_at last_world n).entries
      ≡ Some (length (interface_at first_world n).entries)
  pub offers : offered (interface_at last_world n).plan (interface_at last_world n).entries last channel
      ≡ Data (length (interface_at first_world n).entries)
  pub delay_is : start_of first_world first b.filter.slot + delay ≡ end_of last_world last b

-- the cycles until the next one in which the buffer is guaranteed
abbrev pub cycles_after : Description → Plan → Buffer → ℕ → ℕ
cycles_after d plan b cycle = distance (is_guaranteed d plan b) cycle

-- From each cycle of a transmit buffer that is guaranteed in all its cycles some run has the worst wait, if the
-- journals have room for it.
abbrev pub AreReached : Description → Type 0
AreReached d = (n number : ℕ) (plan : Plan) (b : Buffer) → slice_get d.plans n ≡ Some plan → 1 ≤ plan.tasks
    → buffer_at plan number ≡ Some b → transmits b ≡ true
    → ((cycle : ℕ) → cycle < 64 → cycle_admitted b.filter.cycles cycle ≡ true → is_guaranteed d plan b cycle ≡ true)
    → (cycle : ℕ) → cycle < 64 → cycle_admitted b.filter.cycles cycle ≡ true
    → HasRoom d (cycle + cycles_after d plan b cycle + 1) (6 * before_slot d b + 1)
    → IsDelayed d n number b (channel_of b.filter.channels) (cycle + cycles_after d plan b cycle + 1)
    (wait_from d.params.cycle_mt (is_guaranteed d plan b) (earliest_start d b) (latest_end d b) cycle)

-- In a cycle of the buffer that isn't guaranteed, hosts fill slots before that of the buffer, so that it comes too
-- late. They call three times at most for each of these slots.
abbrev pub calls_to_delay : Description → Plan → Buffer → ℕ → ℕ
calls_to_delay d plan b cycle =
    if cycle_admitted b.filter.cycles cycle && not (is_guaranteed d plan b cycle) then 3 * before_slot d b else 0

-- the calls in all cycles between a guaranteed one and the next
abbrev pub calls_between : Description → Plan → Buffer → ℕ → ℕ
calls_between d plan b cycle =
    sum_below (λ k. calls_to_delay d plan b ((cycle + 1 + k) % cycle_count)) (cycles_after d plan b cycle - 1)

-- From each guaranteed cycle of a transmit buffer some run has the worst wait, if the journals have room for it. In no
-- cycle between this one and the next guaranteed one is the commit offered.
abbrev pub AreAllReached : Description → Type 0
AreAllReached d = (n number : ℕ) (plan : Plan) (b : Buffer) → slice_get d.plans n ≡ Some plan → 1 ≤ plan.tasks
    → buffer_at plan number ≡ Some b → transmits b ≡ true
    → (cycle : ℕ) → cycle < 64 → is_guaranteed d plan b cycle ≡ true
    → HasRoom d (cycle + cycles_after d plan b cycle + 1) (6 * before_slot d b + calls_between d plan b cycle + 1)
    → IsDelayed d n number b (channel_of b.filter.channels) (cycle + cycles_after d plan b cycle + 1)
    (wait_from d.params.cycle_mt (is_guaranteed d plan b) (earliest_start d b) (latest_end d b) cycle)

-- ---- the table

-- some run has this delay
pub record HasDelay (d : Description) (n number : ℕ) (b : Buffer) (delay : ℕ) : Type 0 where
  pub cycles : ℕ
  pub few : cycles ≤ 128
  pub delayed : IsDelayed d n number b (channel_of b.filter.channels) cycles delay

-- A buffer that the table calls guaranteed has its worst latency in some run of at most 128 cycles, if the journals
-- have room for it.
abbrev pub IsWorstReached : Description → Type 0
IsWorstReached d = (n number : ℕ) (plan : Plan) (b : Buffer) → slice_get d.plans n ≡ Some plan
    → buffer_at plan number ≡ Some b → transmits b ≡ true → state_of d plan b ≡ Guaranteed → (worst : ℕ)
    → worst_latency d plan b ≡ Some worst → HasRoom d 128 (6 * before_slot d b + 1) → HasDelay d n number b worst

-- Each transmit buffer with a worst latency has it in some run of at most 128 cycles, if the journals have room for it.
-- At most 65 of these cycles are led along a way, with three calls for each dynamic slot before that of the buffer.
abbrev pub IsEachWorstReached : Description → Type 0
IsEachWorstReached d = (n number : ℕ) (plan : Plan) (b : Buffer) → slice_get d.plans n ≡ Some plan
    → buffer_at plan number ≡ Some b → transmits b ≡ true → (worst : ℕ) → worst_latency d plan b ≡ Some worst
    → HasRoom d 128 (65 * (3 * before_slot d b) + 1) → HasDelay d n number b worst
