-- Worked journals: offers, fates of commits, and received frames.
use Rattle.std.proofs.Common.{◌≡◌, ℕ, true, false, List, [], ◌∷◌, ◌++◌, Option, Some, None, refl}
use Rattle.std.specs.Prelude.{option_map}
use Rattle.fr_frame.specs.Bits.{bits_of, number_of}
use Rattle.fr_frame.specs.Crc.{xor_front, divide_once, divide}
use Rattle.fr_frame.specs.Decoding.{decoded}
use Rattle.fr_frame.specs.Encoding.{encoded}
use Rattle.fr_frame.specs.Spelling.{covered, header}
use Rattle.fr_journal.specs.Forms.{Entry}
use Rattle.fr_journal.specs.declared.entry.Entry.TheVariants.{Commit, Withdraw, Pop, Fetch, Observe}
use Rattle.fr_journal.specs.declared.entry.Offered.{Offered}
use Rattle.fr_journal.specs.declared.entry.Offered.TheVariants.{Nothing, Null, Data}
use Rattle.fr_journal.specs.declared.entry.Origin.{Origin}
use Rattle.fr_journal.specs.declared.fate.Tally.{Tally}
use Rattle.fr_journal.specs.Arrivals.{moves, oldest, queue_length, queue_lost}
use Rattle.fr_journal.specs.Fate.{fates_from, tally_of, held_commit, pending_commit}
use Rattle.fr_journal.specs.Held.{held, origin_of}
use Rattle.fr_journal.specs.Offers.{offered, frame_offered}
use Rattle.fr_slots.specs.Admission.{CycleClass}
use Rattle.fr_slots.specs.declared.channel.Channel.{Channel}
use Rattle.fr_slots.specs.declared.channel.Channel.TheVariants as channel
use Rattle.fr_slots.specs.declared.channel.Channels.{Channels}
use Rattle.fr_slots.specs.declared.channel.Channels.TheVariants as channels
use Rattle.fr_slots.specs.declared.filter.Filter.{Filter}
use Rattle.fr_slots.specs.declared.plan.Buffer.{Buffer}
use Rattle.fr_slots.specs.declared.plan.Mode.{Mode}
use Rattle.fr_slots.specs.declared.plan.Mode.TheVariants.{Event, State, Receive}
use Rattle.fr_slots.specs.declared.plan.Own.{Own}
use Rattle.fr_slots.specs.declared.plan.Queue.{Queue}
use Rattle.fr_slots.specs.History.{last_after, each_after}
use Rattle.fr_slots.specs.Parameters.{Parameters}
use Rattle.fr_slots.specs.Plans.{Plan}
use Rattle.fr_slots.specs.Windows.{Opportunity, static_window}
use Rattle.fr_status.specs.Forms.{Seen}
use Rattle.fr_status.specs.declared.seen.Seen.TheVariants.{Silence, Bytes}
use Rattle.fr_status.specs.Status.{frame_in}

-- ---- plans and windows

abbrev every_cycle : CycleClass
every_cycle = record { base = 0; repetition = 1 }

abbrev slot_on : ℕ → Channels → Filter
slot_on slot among = record { slot = slot; channels = among; cycles = every_cycle }

abbrev plan_for : ℕ → ℕ → List Own → List Buffer → Option Queue → Plan
plan_for latest_a latest_b owned buffers queue =
    record {
      tasks = 1;
      latest_a = latest_a;
      latest_b = latest_b;
      host_entries = 8;
      slot_entries = 8;
      owned = owned;
      buffers = buffers;
      queue = queue;
    }

abbrev plan_with : ℕ → List Own → List Buffer → Option Queue → Plan
plan_with latest owned buffers queue = plan_for latest 0 owned buffers queue

-- static slot 1 on both channels, and a transmit buffer for it
abbrev sender : Mode → Plan
sender mode =
    plan_with 0 (record { slot = 1; channels = channels.Both; cycles = every_cycle; sync = false; startup = false } ∷
    [])
    (record { mode = mode; filter = slot_on 1 channels.Both; words = None; preamble = false } ∷ []) None

-- the offers in slot 1 of a cycle, on both channels
abbrev offers_in : Mode → List Entry → ℕ → Offered × Offered
offers_in mode entries cycle = (
  offered (sender mode) entries (static_window cycle cycle 1) channel.A,
  offered (sender mode) entries (static_window cycle cycle 1) channel.B,
)

-- ---- commits

abbrev two_commits : List Entry
two_commits = Commit 0 0 (0 ∷ 1 ∷ []) ∷ Commit 0 0 (0 ∷ 2 ∷ []) ∷ []

-- the second is fetched, and then a third is made
abbrev three_commits : List Entry
three_commits = two_commits ++ Fetch (static_window 0 0 1) (Data 1) (Data 1) ∷ Commit 0 0 (0 ∷ 3 ∷ []) ∷ []

-- the third is fetched in the next cycle
abbrev all_fetched : List Entry
all_fetched = three_commits ++ Observe 0 Silence Silence ∷ Fetch (static_window 1 1 1) (Data 3)
    (Data 3) ∷ Observe 1 Silence Silence ∷ []

abbrev tally : ℕ → ℕ → ℕ → ℕ → Tally
tally committed sent overwritten pending = record {
  committed = committed;
  sent = sent;
  overwritten = overwritten;
  pending = pending;
  withdrawn = 0;
}

-- one commit, fetched at once
abbrev one_fetched : List Entry
one_fetched = Commit 0 0 (0 ∷ 1 ∷ []) ∷ Fetch (static_window 0 0 1) (Data 0) (Data 0) ∷ Observe 0 Silence Silence ∷ []

-- an event buffer offers its last commit until it is sent; after that a static slot has a null frame
pub an_event_commit_is_offered_once : (offers_in Event two_commits 0 ≡ (Data 1, Data 1)) ×
    (offers_in Event three_commits 1 ≡ (Data 3, Data 3)) × (offers_in Event all_fetched 2 ≡ (Null, Null)) ×
    (offers_in Event one_fetched 1 ≡ (Null, Null))
unfolding last_after
an_event_commit_is_offered_once = (refl, refl, refl, refl)

-- a state buffer offers its last commit, sent or not
pub a_state_commit_is_offered_again : (offers_in State two_commits 0 ≡ (Data 1, Data 1)) ×
    (offers_in State three_commits 1 ≡ (Data 3, Data 3)) × (offers_in State all_fetched 2 ≡ (Data 3, Data 3))
unfolding last_after
a_state_commit_is_offered_again = (refl, refl, refl)

-- a commit that is sent on both channels, and again in a later cycle, counts as sent once
pub both_channels_send_one_commit : (tally_of 0 two_commits ≡ tally 2 0 1 1) ×
    (tally_of 0 three_commits ≡ tally 3 1 1 1) × (tally_of 0 all_fetched ≡ tally 3 2 1 0) ×
    (tally_of 0 (all_fetched ++ Fetch (static_window 2 2 1) (Data 3) (Data 3) ∷ []) ≡ tally 3 2 1 0)
unfolding fates_from
both_channels_send_one_commit = (refl, refl, refl, refl)

-- ---- withdraws

-- a commit that is withdrawn before its slot
abbrev taken_back : List Entry
taken_back = Commit 0 0 (0 ∷ 1 ∷ []) ∷ Withdraw 0 0 (Some 0) ∷ Fetch
    (static_window 0 0 1) Null Nothing ∷ Observe 0 Silence Silence ∷ []

abbrev replaced_then_sent : List Entry
replaced_then_sent = taken_back ++ Withdraw 0 0 None ∷ Commit 0 0 (0 ∷ 2 ∷ []) ∷ Commit 0 0 (0 ∷ 3 ∷ []) ∷ []

abbrev sent_then_nothing : List Entry
sent_then_nothing = replaced_then_sent ++ Fetch (static_window 1 1 1)
    (Data 6) Nothing ∷ Withdraw 0 0 None ∷ Observe 1 Silence Silence ∷ []

-- a withdraw removes a pending commit, and finds none in a buffer that is empty or has sent its commit
pub a_withdraw_takes_back_what_is_pending : (pending_commit 0 (Commit 0 0 (0 ∷ 1 ∷ []) ∷ []) ≡ Some 0) ×
    (pending_commit 0 taken_back ≡ None) × (pending_commit 0 replaced_then_sent ≡ Some 6) ×
    (pending_commit 0 sent_then_nothing ≡ None)
    × (tally_of 0 sent_then_nothing ≡ record { committed = 3; sent = 1; overwritten = 1; pending = 0; withdrawn = 1 })
unfolding last_after fates_from
a_withdraw_takes_back_what_is_pending = (refl, refl, refl, refl, refl)

-- in state mode: one commit is sent, the next one is withdrawn, and the first doesn't come back
abbrev sent_once : List Entry
sent_once = Commit 0 0 (0 ∷ 1 ∷ []) ∷ Fetch (static_window 0 0 1) (Data 0)
    (Data 0) ∷ Observe 0 Silence Silence ∷ Withdraw 0 0 None ∷ []

abbrev emptied : List Entry
emptied = sent_once ++ Commit 0 0 (0 ∷ 2 ∷ []) ∷ Withdraw 0 0 (Some 4) ∷ []

pub a_state_buffer_is_empty_after_a_withdraw : (offers_in State sent_once 1 ≡ (Data 0, Data 0)) ×
    (offers_in State emptied 1 ≡ (Null, Null)) × (held_commit 0 sent_once ≡ Some 0) × (held_commit 0 emptied ≡ None)
    × (tally_of 0 (emptied ++ Fetch (static_window 1 1 1) Null Null ∷ [])
    ≡ record { committed = 2; sent = 1; overwritten = 0; pending = 0; withdrawn = 1 })
unfolding last_after fates_from
a_state_buffer_is_empty_after_a_withdraw = (refl, refl, refl, refl, refl)

-- ---- the latest minislot

-- an event buffer for dynamic slot 8 on channel A
abbrev dynamic_sender : ℕ → Plan
dynamic_sender latest = plan_with latest []
    (record { mode = Event; filter = slot_on 8 channels.A; words = Some 4; preamble = false } ∷ []) None

-- minislot 5, at which A opens slot 8
abbrev at_five : Opportunity
at_five = record { number = 0; cycle = 0; minislot = 5; a = Some 8; b = None }

abbrev one_commit : List Entry
one_commit = Commit 0 0 (1 ∷ 2 ∷ 3 ∷ 4 ∷ 5 ∷ 6 ∷ 7 ∷ 8 ∷ []) ∷ []

abbrev offered_at_five : ℕ → Offered
offered_at_five latest = offered (dynamic_sender latest) one_commit at_five channel.A

-- a dynamic transmission may begin at the latest minislot and not after it; then the commit stays pending
pub a_transmission_begins_at_the_latest_minislot : (offered_at_five 5 ≡ Data 0) × (offered_at_five 4 ≡ Nothing) ×
    (offered_at_five 0 ≡ Nothing) × (tally_of 0 (one_commit ++ Fetch at_five Nothing Nothing ∷ []) ≡ tally 1 0 0 1)
unfolding last_after fates_from
a_transmission_begins_at_the_latest_minislot = (refl, refl, refl, refl)

-- the same buffer on channel B, and minislot 5, at which B opens slot 8
abbrev sender_on_b : ℕ → ℕ → Plan
sender_on_b latest_a latest_b =
    plan_for latest_a latest_b [] (record {
      mode = Event;
      filter = slot_on 8 channels.B;
      words = Some 4;
      preamble =
          false;
    } ∷ []) None

abbrev b_at_five : Opportunity
b_at_five = record { number = 0; cycle = 0; minislot = 5; a = Some 9; b = Some 8 }

-- a channel depends on its own latest minislot only
pub each_channel_has_its_latest_minislot : (offered (sender_on_b 0 5) one_commit b_at_five channel.B ≡ Data 0)
    × (offered (sender_on_b 9 4) one_commit b_at_five channel.B ≡ Nothing)
    × (offered (sender_on_b 9 9) one_commit b_at_five channel.A ≡ Nothing)
unfolding last_after
each_channel_has_its_latest_minislot = (refl, refl, refl)

-- ---- frames received in static slot 2, which has one word

abbrev one_word : Parameters
one_word = record {
  static_slots = 3;
  minislots = 4;
  static_words = 1;
  static_mt = 20;
  minislot_mt = 5;
  symbol_mt = 0;
  nit_mt = 10;
  cycle_mt = 90;
  idle = 0;
  words_per_minislot = 5;
}

abbrev seen_bytes : List ℕ → Seen
seen_bytes bytes = Bytes (record { items = bytes })

abbrev data_on_a : Seen
data_on_a = seen_bytes (0x20 ∷ 0x02 ∷ 0x03 ∷ 0xc1 ∷ 0x40 ∷ 0x0a ∷ 0x0b ∷ 0xa3 ∷ 0x22 ∷ 0x17 ∷ [])

abbrev data_on_b : Seen
data_on_b = seen_bytes (0x20 ∷ 0x02 ∷ 0x03 ∷ 0xc1 ∷ 0x40 ∷ 0x0a ∷ 0x0b ∷ 0x85 ∷ 0xa2 ∷ 0xc6 ∷ [])

abbrev null_on_a : Seen
null_on_a = seen_bytes (0x00 ∷ 0x02 ∷ 0x03 ∷ 0xc1 ∷ 0x40 ∷ 0x00 ∷ 0x00 ∷ 0xd8 ∷ 0x20 ∷ 0x38 ∷ [])

-- the origin of the content of a receive buffer for slot 2 on both channels, after these observations
abbrev held_from : Seen → Seen → Option Origin
held_from a b = option_map origin_of (held one_word (slot_on 2 channels.Both)
    (Fetch (static_window 0 0 2) Nothing Nothing ∷ Observe 0 a b ∷ []))

abbrev from_entry : ℕ → Channel → Option Origin
from_entry entry channel = Some (record { entry = entry; channel = channel })

-- A's data frame if A has one, and otherwise B's; a null frame is no data frame
pub channel_a_comes_first : (held_from data_on_a data_on_b ≡ from_entry 1 channel.A) ×
    (held_from Silence data_on_b ≡ from_entry 1 channel.B) × (held_from null_on_a data_on_b ≡ from_entry 1 channel.B) ×
    (held_from null_on_a Silence ≡ None)
unfolding last_after frame_in decoded bits_of number_of xor_front divide_once divide
channel_a_comes_first = (refl, refl, refl, refl)

-- ---- frames that are sent

-- Static slot 3 on both channels, with sync and startup frames. Both transmit buffers set the payload preamble
-- indicator: one for slot 3 on both channels, and one for dynamic slot 6 on channel B.
abbrev sync_sender : Plan
sync_sender =
    plan_for 4 4 (record { slot = 3; channels = channels.Both; cycles = every_cycle; sync = true; startup = true } ∷ [])
    (record { mode = State; filter = slot_on 3 channels.Both; words = None; preamble = true }
    ∷ record { mode = State; filter = slot_on 6 channels.B; words = Some 2; preamble = true }
    ∷ [])
    None

abbrev two_buffers : List Entry
two_buffers = Commit 0 0 (0x0a ∷ 0x0b ∷ []) ∷ Commit 0 1 (0x70 ∷ 0x01 ∷ 0x70 ∷ 0x02 ∷ []) ∷ []

-- minislot 3 of cycle 7, at which both channels open slot 6
abbrev in_slot_six : Opportunity
in_slot_six = record { number = 0; cycle = 7; minislot = 3; a = Some 6; b = Some 6 }

-- the bytes that are sent in a window after these entries
abbrev sent_in : List Entry → Opportunity → Channel → Option (List ℕ)
sent_in entries window channel = option_map (λ frame. encoded frame channel)
    (frame_offered one_word sync_sender entries window channel)

-- a data frame with all its indicators, on either channel
pub a_static_frame_is_sent : (sent_in two_buffers (static_window 0 9 3) channel.A ≡ Some
    (0x78 ∷ 0x03 ∷ 0x02 ∷ 0x74 ∷ 0xc9 ∷ 0x0a ∷ 0x0b ∷ 0xb2 ∷ 0x00 ∷ 0x89 ∷ []))
    × (sent_in two_buffers (static_window 0 9 3) channel.B ≡ Some
    (0x78 ∷ 0x03 ∷ 0x02 ∷ 0x74 ∷ 0xc9 ∷ 0x0a ∷ 0x0b ∷ 0x94 ∷ 0x80 ∷ 0x58 ∷ []))
unfolding last_after encoded header covered bits_of number_of xor_front divide_once divide
a_static_frame_is_sent = (refl, refl)

-- a null frame without a commit: sync and startup are those of the line, and the payload preamble indicator is 0
pub a_null_frame_is_sent : sent_in [] (static_window 0 9 3) channel.A ≡ Some
    (0x18 ∷ 0x03 ∷ 0x02 ∷ 0x74 ∷ 0xc9 ∷ 0x00 ∷ 0x00 ∷ 0x67 ∷ 0xff ∷ 0x4a ∷ [])
unfolding last_after encoded header covered bits_of number_of xor_front divide_once divide
a_null_frame_is_sent = refl

-- A dynamic frame has neither sync nor startup, and the payload preamble indicator of its buffer. Channel A has no
-- frame.
pub a_dynamic_frame_is_sent : (sent_in two_buffers in_slot_six channel.B ≡ Some
    (0x60 ∷ 0x06 ∷ 0x05 ∷ 0x17 ∷ 0x87 ∷ 0x70 ∷ 0x01 ∷ 0x70 ∷ 0x02 ∷ 0x70 ∷ 0x84 ∷ 0x4b ∷ []))
    × (sent_in two_buffers in_slot_six channel.A ≡ None)
unfolding last_after encoded header covered bits_of number_of xor_front divide_once divide
a_dynamic_frame_is_sent = (refl, refl)

-- ---- the receive FIFO

-- room for two frames of slot 2 on channel A
abbrev short_queue : Queue
short_queue = record { capacity = 2; first = 2; last = 2; channels = channels.A; cycles = every_cycle }

abbrev receiver : Plan
receiver = plan_with 0 [] [] (Some short_queue)

abbrev round : ℕ → List ℕ → List Entry
round cycle bytes = Fetch (static_window cycle cycle 2) Nothing Nothing ∷ Observe cycle (seen_bytes bytes) Silence ∷ []

abbrev three_arrived : List Entry
three_arrived =
    round 0 (0x20 ∷ 0x02 ∷ 0x03 ∷ 0xc1 ∷ 0x40 ∷ 0x00 ∷ 0x01 ∷ 0xd2 ∷ 0x33 ∷ 0x05 ∷ [])
    ++ round 1 (0x20 ∷ 0x02 ∷ 0x03 ∷ 0xc1 ∷ 0x41 ∷ 0x00 ∷ 0x02 ∷ 0x3c ∷ 0xea ∷ 0x0c ∷ [])
    ++ round 2 (0x20 ∷ 0x02 ∷ 0x03 ∷ 0xc1 ∷ 0x42 ∷ 0x00 ∷ 0x03 ∷ 0x7a ∷ 0x36 ∷ 0x3b ∷ [])

abbrev popped_from : List Entry → Option Origin
popped_from entries = option_map origin_of (oldest 2 (moves one_word receiver short_queue entries))

abbrev one_popped : List Entry
one_popped = three_arrived ++ Pop 0 (from_entry 3 channel.A) ∷ []

abbrev two_popped : List Entry
two_popped = one_popped ++ Pop 0 (from_entry 5 channel.A) ∷ []

abbrev three_popped : List Entry
three_popped = two_popped ++ Pop 0 None ∷ []

-- The third of three frames overwrites the first. Pops return the second, the third, and none. Then the receive FIFO is
-- empty, and has lost one frame.
pub queue_overwrites_the_oldest : (popped_from three_arrived ≡ from_entry 3 channel.A) ×
    (popped_from one_popped ≡ from_entry 5 channel.A) × (popped_from two_popped ≡ None) ×
    (queue_length 2 (moves one_word receiver short_queue three_popped) ≡ 0) ×
    (queue_lost one_word receiver short_queue three_popped ≡ 1)
unfolding last_after each_after frame_in decoded bits_of number_of xor_front divide_once divide
queue_overwrites_the_oldest = (refl, refl, refl, refl, refl)

-- A receive FIFO for dynamic slot 4 on both channels, and a buffer for that slot on channel A. The receive FIFO stores
-- a frame from channel A unless the buffer is a receive buffer.
abbrev queue_of_slot_four : Queue
queue_of_slot_four = record { capacity = 2; first = 4; last = 4; channels = channels.Both; cycles = every_cycle }

abbrev beside : Mode → Plan
beside mode = plan_for 4 0 [] (record { mode = mode; filter = slot_on 4 channels.A; words = None; preamble = false } ∷
    []) (Some queue_of_slot_four)

abbrev arrived_in_slot_four : List Entry
arrived_in_slot_four =
    Fetch (record { number = 0; cycle = 0; minislot = 1; a = Some 4; b = Some 4 }) Nothing Nothing
    ∷ Observe 0 (seen_bytes (0x20 ∷ 0x04 ∷ 0x02 ∷ 0xce ∷ 0xc0 ∷ 0x70 ∷ 0x01 ∷ 0x2c ∷ 0xca ∷ 0x22 ∷ [])) Silence
    ∷ []

abbrev queued_beside : Mode → Option Origin
queued_beside mode = option_map origin_of (oldest 2
    (moves one_word (beside mode) queue_of_slot_four arrived_in_slot_four))

pub a_transmit_buffer_takes_nothing_from_the_queue : (queued_beside Event ≡ from_entry 1 channel.A) ×
    (queued_beside State ≡ from_entry 1 channel.A) × (queued_beside Receive ≡ None)
unfolding last_after each_after frame_in decoded bits_of number_of xor_front divide_once divide
a_transmit_buffer_takes_nothing_from_the_queue = (refl, refl, refl)
