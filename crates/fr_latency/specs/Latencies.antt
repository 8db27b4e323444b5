-- The transmit buffers whose frames always get through, and the greatest time from a commit to the end of its frame, in
-- runs without faults (project-defined).
use Rattle.std.specs.Prelude.{ℕ, suc, zero, ◌+◌, ◌-◌, ◌*◌, ◌%◌, ◌==◌, nat_le, not, Bool, ◌&&◌, ◌||◌, Option, Some, None}
use Rattle.std.specs.Prelude.{if◌then◌else◌}
use Rattle.fr_slots.specs.declared.channel.Channel.{Channel}
use Rattle.fr_slots.specs.declared.channel.Channel.TheVariants as channel
use Rattle.fr_slots.specs.declared.channel.Channels.{Channels}
use Rattle.fr_slots.specs.declared.channel.Channels.TheVariants as channels
use Rattle.fr_slots.specs.declared.plan.Buffer.{Buffer}
use Rattle.fr_slots.specs.Admission.{cycle_admitted}
use Rattle.fr_slots.specs.Faults.{latest_on, minislots_filled, words_of}
use Rattle.fr_slots.specs.Numbers.{cycle_count, last_cycle}
use Rattle.fr_slots.specs.Parameters.{is_static_slot}
use Rattle.fr_slots.specs.Plans.{Plan}
use Rattle.fr_schedule.specs.Descriptions.{Description}
use Rattle.fr_timing.specs.Segments.{dynamic_start}
use Rattle.fr_latency.specs.declared.latency.State.{State}
use Rattle.fr_latency.specs.declared.latency.State.TheVariants.{Guaranteed, Possible, Blocked, Idle}
use Rattle.fr_latency.specs.declared.latency.Latency.{Latency}
use Rattle.fr_latency.specs.Below.{all_below, any_below, count_below, most_below}
use Rattle.fr_latency.specs.Openings.{can_begin, greatest, last_begin, last_opening, slots_before}

-- ---- a transmit buffer in a cycle

-- A node without tasks commits nothing.
abbrev pub has_tasks : Plan → Bool
has_tasks plan = nat_le 1 plan.tasks

-- the channel of a dynamic transmit buffer, which is never for both
abbrev pub channel_of : Channels → Channel
channel_of channels.A = channel.A
channel_of channels.B = channel.B
channel_of channels.Both = channel.A

-- the latest minislot of the node for the dynamic buffer, and the number of dynamic slots before that of the buffer
abbrev pub latest_for : Plan → Buffer → ℕ
latest_for plan b = latest_on plan (channel_of b.filter.channels)

abbrev pub before_slot : Description → Buffer → ℕ
before_slot d b = slots_before d.params b.filter.slot

-- the last minislot at which the slot of the dynamic buffer can begin in the cycle, also after the segment
abbrev pub last_begin_of : Description → Buffer → ℕ → ℕ
last_begin_of d b cycle = last_begin d (channel_of b.filter.channels) cycle (before_slot d b)

-- the last minislot at which it can open, or 0
abbrev pub last_opening_of : Description → Buffer → ℕ → ℕ
last_opening_of d b cycle = last_opening d (channel_of b.filter.channels) cycle (before_slot d b)

-- In the cycle the frame of the dynamic buffer is sent whatever the others send: its slot begins in time on every way.
abbrev pub is_always_in_time : Description → Plan → Buffer → ℕ → Bool
is_always_in_time d plan b cycle = nat_le (last_begin_of d b cycle) (latest_for plan b)

-- in the cycle it is sent on some way
abbrev pub is_ever_in_time : Description → Plan → Buffer → ℕ → Bool
is_ever_in_time d plan b cycle =
    nat_le 1 (greatest (can_begin d (channel_of b.filter.channels) cycle (before_slot d b)) (latest_for plan b))

-- the cycle is one of the buffer's, and its frame is always sent then
abbrev pub is_guaranteed : Description → Plan → Buffer → ℕ → Bool
is_guaranteed d plan b cycle =
    cycle_admitted b.filter.cycles cycle
    && (is_static_slot d.params b.filter.slot || is_always_in_time d plan b cycle)

-- the cycle is one of the buffer's, and its frame can be sent then
abbrev pub is_possible : Description → Plan → Buffer → ℕ → Bool
is_possible d plan b cycle =
    cycle_admitted b.filter.cycles cycle
    && (is_static_slot d.params b.filter.slot || is_ever_in_time d plan b cycle)

-- ---- all cycles

-- by three answers: the node has tasks, the buffer is guaranteed in all its cycles, it is possible in one of them
abbrev pub state_by : Bool → Bool → Bool → State
state_by tasks all ever = if not tasks then Idle else if all then Guaranteed else if ever then Possible else Blocked

abbrev pub state_of : Description → Plan → Buffer → State
state_of d plan b =
    state_by (has_tasks plan)
    (all_below (λ cycle. not (cycle_admitted b.filter.cycles cycle) || is_guaranteed d plan b cycle) cycle_count)
    (any_below (is_possible d plan b) cycle_count)

-- the cycles of the 64 in which its frame is always sent
abbrev pub guaranteed_cycles : Description → Plan → Buffer → ℕ
guaranteed_cycles d plan b = if has_tasks plan then count_below (is_guaranteed d plan b) cycle_count else 0

-- ---- minislots

-- the number, unless it is 0
abbrev pub unless_zero : ℕ → Option ℕ
unless_zero n = if n == 0 then None else Some n

-- The first minislot at which the slot of a dynamic buffer opens. Before it comes one minislot for each dynamic slot,
-- if nothing is sent.
abbrev pub first_opening_of : Description → Buffer → ℕ
first_opening_of d b =
    if nat_le (before_slot d b + 1) d.params.minislots then before_slot d b + 1 else 0

-- the last one, in the cycles of the buffer
abbrev pub last_in_cycles : Description → Buffer → ℕ
last_in_cycles d b =
    most_below (λ cycle. if cycle_admitted b.filter.cycles cycle then last_opening_of d b cycle else 0) cycle_count

-- the number for a dynamic buffer
abbrev pub if_dynamic : Description → Buffer → Option ℕ → Option ℕ
if_dynamic d b n = if is_static_slot d.params b.filter.slot then None else n

-- ---- macroticks, counted from the start of the cycle

-- the earliest start of the buffer's slot
abbrev pub earliest_start : Description → Buffer → ℕ
earliest_start d b =
    if is_static_slot d.params b.filter.slot then (b.filter.slot - 1) * d.params.static_mt
    else dynamic_start d.params + before_slot d b * d.params.minislot_mt

-- The latest end of its frame in a guaranteed cycle. Minislots that stay idle after a dynamic frame don't count.
abbrev pub latest_end : Description → Buffer → ℕ → ℕ
latest_end d b cycle =
    if is_static_slot d.params b.filter.slot then b.filter.slot * d.params.static_mt
    else
    dynamic_start d.params
    + (last_begin_of d b cycle - 1 + minislots_filled d.params (words_of d.params b)) * d.params.minislot_mt

-- ---- the worst case

-- the number of cycles from one to the next that passes, at most 64
abbrev pub is_after : (ℕ → Bool) → ℕ → ℕ → Bool
is_after test cycle later = test ((cycle + later) % cycle_count)

-- the least number from this one on, of so many, that passes the test, or the one after them
unfoldable pub first_from : (ℕ → Bool) → ℕ → ℕ → ℕ
first_from test least zero = least
first_from test least (suc more) = if test least then least else first_from test (least + 1) more

abbrev pub distance : (ℕ → Bool) → ℕ → ℕ
distance test cycle = first_from (is_after test cycle) 1 last_cycle

-- A commit comes just after the fetch in a cycle that passes, as early as that can be. It is sent in the next cycle
-- that passes, as late as that can be.
abbrev pub wait_from : ℕ → (ℕ → Bool) → ℕ → (ℕ → ℕ) → ℕ → ℕ
wait_from cycle_mt test start end cycle =
    distance test cycle * cycle_mt + end ((cycle + distance test cycle) % cycle_count) - start

abbrev pub wait_if : ℕ → (ℕ → Bool) → ℕ → (ℕ → ℕ) → ℕ → ℕ
wait_if cycle_mt test start end cycle = if test cycle then wait_from cycle_mt test start end cycle else 0

abbrev pub worst_of : Description → Plan → Buffer → ℕ
worst_of d plan b =
    most_below (wait_if d.params.cycle_mt (is_guaranteed d plan b) (earliest_start d b) (latest_end d b)) cycle_count

-- the worst latency in macroticks, if some cycle is guaranteed
abbrev pub worst_latency : Description → Plan → Buffer → Option ℕ
worst_latency d plan b = if has_tasks plan then unless_zero (worst_of d plan b) else None

-- ---- a line

abbrev pub latency_of : Description → Plan → Buffer → Latency
latency_of d plan b = record {
  first = if_dynamic d b (unless_zero (first_opening_of d b));
  last = if_dynamic d b (unless_zero (last_in_cycles d b));
  latest = if_dynamic d b (Some (latest_for plan b));
  state = state_of d plan b;
  cycles = guaranteed_cycles d plan b;
  worst = worst_latency d plan b;
}
