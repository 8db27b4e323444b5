-- The rules by which a recording is judged.
use Rattle.std.specs.Prelude.{ℕ, zero, suc, ◌+◌, ◌*◌, ◌&&◌, ◌||◌, not, Bool, true, false, Option, Some, None}
use Rattle.std.specs.Prelude.{if◌then◌else◌}
use Rattle.std.specs.List.{list_any}
use Rattle.fr_schedule.specs.Descriptions.{Description}
use Rattle.fr_schedule.specs.SenderTable.{may_send}
use Rattle.fr_slots.specs.declared.channel.Channel.{Channel}
use Rattle.fr_slots.specs.declared.channel.Channel.TheVariants.{A, B}
use Rattle.fr_slots.specs.Admission.{is_channel, includes, cycle_admitted}
use Rattle.fr_slots.specs.Faults.{transmits}
use Rattle.fr_slots.specs.Parameters.{Parameters, is_static_slot}
use Rattle.fr_slots.specs.Plans.{Plan}
use Rattle.fr_slots.specs.declared.plan.Buffer.{Buffer}
use Rattle.fr_slots.specs.declared.plan.Own.{Own}
use Rattle.fr_slots.specs.Numbers.{number_within, last_slot}
use Rattle.fr_logged.specs.Dues.{due_of}
use Rattle.fr_logged.specs.declared.due.Due.{Due}
use Rattle.fr_judging.specs.declared.rules.Rules.{Rules}

abbrev pub other_channel : Channel → Channel
other_channel A = B
other_channel B = A

abbrev pub judged_by : Option Channel → Channel → Bool
judged_by None channel = true
judged_by (Some only) channel = is_channel only channel

-- the channel is judged
abbrev pub judges : Rules → Channel → Bool
judges r channel = judged_by r.only channel

-- a node sends on the channel
abbrev pub has_sender_in : Rules → Channel → Bool
has_sender_in r A = r.sends_a
has_sender_in r B = r.sends_b

-- both channels have a sender and are judged
abbrev pub are_both : Rules → Bool
are_both r = (judges r A && r.sends_a) && (judges r B && r.sends_b)

abbrev pub due_or : Description → Channel → ℕ → Option ℕ → Option Due
due_or d channel cycle None = None
due_or d channel cycle (Some slot) = due_of d slot channel cycle

-- what may be sent in the slot of this number, if anything
abbrev pub due_at : Description → ℕ → Channel → ℕ → Option Due
due_at d slot channel cycle = due_or d channel cycle (number_within 1 last_slot slot)

-- the slot has a sender on the channel in the cycle
abbrev pub sent_in : Description → ℕ → Channel → ℕ → Bool
sent_in d slot channel cycle = list_any (may_send d.params cycle slot channel) d.plans

abbrev pub sent_or : Description → Channel → ℕ → Option ℕ → Bool
sent_or d channel cycle None = false
sent_or d channel cycle (Some slot) = sent_in d slot channel cycle

abbrev pub is_sent : Rules → ℕ → Channel → ℕ → Bool
is_sent r slot channel cycle = sent_or r.cluster channel cycle (number_within 1 last_slot slot)

-- the lengths of a static slot and of a cycle in nanoseconds
abbrev pub slot_time : Rules → ℕ
slot_time r = r.cluster.params.static_mt * r.macrotick

abbrev pub cycle_time : Rules → ℕ
cycle_time r = r.cluster.params.cycle_mt * r.macrotick

-- ---- the senders of a channel

abbrev pub transmits_on : Parameters → Channel → Buffer → Bool
transmits_on p channel b = transmits b && not (is_static_slot p b.filter.slot) && includes b.filter.channels channel

abbrev pub own_includes : Channel → Own → Bool
own_includes channel own = includes own.channels channel

-- the node has an ownership line or a dynamic transmit buffer for the channel
abbrev pub sends_on : Parameters → Channel → Plan → Bool
sends_on p channel plan = list_any (own_includes channel) plan.owned || list_any (transmits_on p channel) plan.buffers

abbrev pub has_sender : Description → Channel → Bool
has_sender d channel = list_any (sends_on d.params channel) d.plans

-- ---- the clock of a channel

abbrev pub owns_in : Channel → ℕ → Own → Bool
owns_in channel cycle own = includes own.channels channel && cycle_admitted own.cycles cycle

abbrev pub owns_some : Channel → ℕ → Plan → Bool
owns_some channel cycle plan = list_any (owns_in channel cycle) plan.owned

-- a static slot has an owner on the channel in the cycle
abbrev pub is_clocked : Description → Channel → ℕ → Bool
is_clocked d channel cycle = list_any (owns_some channel cycle) d.plans

-- the first of so many cycles, from this one on, in which none has
unfoldable pub unclocked : Description → Channel → ℕ → ℕ → Option ℕ
unclocked d channel cycle zero = None
unclocked d channel cycle (suc more) =
    if is_clocked d channel cycle then unclocked d channel (cycle + 1) more else Some cycle

-- ---- the rules of a command

unfoldable pub rules_of : Description → ℕ → Bool → Option Channel → ℕ → Rules
rules_of d most whole only macrotick = record {
  cluster = d;
  most = most;
  whole = whole;
  only = only;
  macrotick = macrotick;
  sends_a = has_sender d A;
  sends_b = has_sender d B;
}

-- a channel that is judged and has a sender must have a static slot with an owner in each cycle
abbrev pub no_clock_on : Rules → Channel → Option ℕ
no_clock_on r channel =
    if judges r channel && has_sender_in r channel then unclocked r.cluster channel 0 64 else None
