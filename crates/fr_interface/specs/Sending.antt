-- The offers of given transmit buffers in a window, and their frames (chapter 5; the modes are project-defined).
use Rattle.std.specs.Prelude.{◌≡◌, ℕ, ◌*◌, List, [], replicate, slice_get, Option, Some, None, is_some, true, false}
use Rattle.std.specs.Prelude.{if◌then◌else◌, option_map, unwrap_or}
use Rattle.std.specs.Option.{option_and_then}
use Rattle.fr_buffers.specs.Transmitting.{Transmitter, offer_of, payload_of, pending_of, after_send}
use Rattle.fr_frame.specs.Fields.{Fields}
use Rattle.fr_interface.specs.declared.offers.Outgoing.{Outgoing}
use Rattle.fr_interface.specs.declared.sending.Sender.{Sender}
use Rattle.fr_interface.specs.Known.{change_at, transmitters}
use Rattle.fr_interface.specs.State.{State}
use Rattle.fr_journal.specs.declared.entry.Offered.{Offered}
use Rattle.fr_journal.specs.declared.entry.Offered.TheVariants.{Nothing, Null}
use Rattle.fr_journal.specs.Offers.{may_begin, transmitter, data_or, sync_of, startup_of, line_of, preamble_in}
use Rattle.fr_slots.specs.declared.channel.Channel.{Channel}
use Rattle.fr_slots.specs.declared.plan.Own.{Own}
use Rattle.fr_slots.specs.Parameters.{Parameters}
use Rattle.fr_slots.specs.Plans.{Plan}
use Rattle.fr_slots.specs.Windows.{Opportunity, slot_of}

-- the commit that the buffer of this number offers
abbrev pub ready_at : List Transmitter → ℕ → Option ℕ
ready_at buffers number = option_and_then offer_of (slice_get buffers number)

abbrev pub sender_of : ℕ → ℕ → Sender
sender_of buffer commit = record { buffer = buffer; commit = commit }

abbrev pub sender_at : List Transmitter → ℕ → Option Sender
sender_at buffers number = option_map (sender_of number) (ready_at buffers number)

abbrev pub sender_in : Plan → List Transmitter → Opportunity → Channel → Option ℕ → Option Sender
sender_in plan buffers window channel None = None
sender_in plan buffers window channel (Some slot) =
    if may_begin plan window channel then option_and_then (sender_at buffers) (transmitter plan window channel)
    else None

-- the buffer and its commit that are offered in the window on the channel
abbrev pub sender_on : Plan → List Transmitter → Opportunity → Channel → Option Sender
sender_on plan buffers window channel = sender_in plan buffers window channel (slot_of window channel)

-- ---- the offer and its frame

abbrev pub commit_in : Option Sender → Option ℕ
commit_in sender = option_map (λ s. s.commit) sender

-- the ownership line for the slot that the window has on the channel
abbrev pub owner_on : Plan → Opportunity → Channel → Option Own
owner_on plan window channel = option_and_then (line_of plan window channel) (slot_of window channel)

abbrev pub offered_in : Option Own → Option Sender → Option ℕ → Offered
offered_in own sender None = Nothing
offered_in own sender (Some slot) = data_or (if is_some own then Null else Nothing) (commit_in sender)

-- the node's offer on the channel, by this ownership line and this sender
abbrev pub offered_by : Opportunity → Channel → Option Own → Option Sender → Offered
offered_by window channel own sender = offered_in own sender (slot_of window channel)

-- the offer in the window on the channel, with its sender and its ownership line
abbrev pub outgoing_on : Plan → List Transmitter → Opportunity → Channel → Outgoing
outgoing_on plan buffers window channel = record {
  sender = sender_on plan buffers window channel;
  own = owner_on plan window channel;
  offered = offered_by window channel (owner_on plan window channel) (sender_on plan buffers window channel);
}

-- whatever the transmit buffers hold, the node offers nothing
abbrev pub OffersNothing : Plan → Opportunity → Channel → Type 0
OffersNothing plan window channel =
    (buffers : List Transmitter)
    → outgoing_on plan buffers window channel ≡ record { sender = None; own = None; offered = Nothing }

-- the same for an interface of this state
abbrev pub outgoing_in : State → Opportunity → Channel → Outgoing
outgoing_in s window channel = outgoing_on s.plan (transmitters s.plan s.entries) window channel

abbrev pub held_payload : Transmitter → List ℕ
held_payload b = unwrap_or (payload_of b) []

-- the payload that the buffer of this number holds
abbrev pub payload_at : List Transmitter → ℕ → List ℕ
payload_at buffers number = unwrap_or (option_map held_payload (slice_get buffers number)) []

-- the null frame of a slot that has this line
abbrev pub null_frame_with : Parameters → Opportunity → ℕ → Option Own → Fields
null_frame_with params window slot own = record {
  preamble = false;
  has_data = false;
  sync = sync_of own;
  startup = startup_of own;
  id = slot;
  payload = replicate (2 * params.static_words) 0;
  cycle = window.cycle;
}

-- the data frame with this payload, in a slot that has this line
abbrev pub data_frame_with : Plan → Opportunity → Channel → ℕ → Option Own → List ℕ → Fields
data_frame_with plan window channel slot own payload = record {
  preamble = preamble_in plan window channel;
  has_data = true;
  sync = sync_of own;
  startup = startup_of own;
  id = slot;
  payload = payload;
  cycle = window.cycle;
}

abbrev pub data_frame_by : Plan → List Transmitter → Opportunity → Channel → ℕ → Option Own → Sender → Fields
data_frame_by plan buffers window channel slot own sender =
    data_frame_with plan window channel slot own (payload_at buffers sender.buffer)

abbrev pub frame_at : Parameters → Plan → List Transmitter → Opportunity → Channel → ℕ → Option Own → Option Sender
    → Option Fields
frame_at params plan buffers window channel slot own None =
    if is_some own then Some (null_frame_with params window slot own) else None
frame_at params plan buffers window channel slot own (Some sender) =
    Some (data_frame_by plan buffers window channel slot own sender)

-- the frame of this offer
abbrev pub frame_by : Parameters → Plan → List Transmitter → Opportunity → Channel → Outgoing → Option Fields
frame_by params plan buffers window channel outgoing =
    option_and_then (λ slot. frame_at params plan buffers window channel slot outgoing.own outgoing.sender)
    (slot_of window channel)

-- ---- sending

abbrev pub send_offered : Transmitter → Transmitter
send_offered b = if is_some (offer_of b) then after_send b else b

-- the pending commit of the buffer of this number
abbrev pub pending_at : List Transmitter → ℕ → Option ℕ
pending_at buffers number = option_and_then pending_of (slice_get buffers number)

-- the transmit buffers after the sender's commit was sent
abbrev pub after_sender : List Transmitter → Option Sender → List Transmitter
after_sender buffers None = buffers
after_sender buffers (Some sender) = change_at send_offered buffers sender.buffer
