-- The offers of a node in a window, by the entries before the fetch (chapter 5; the modes, and the division of a static
-- slot among nodes by cycles, are project-defined).
use Rattle.std.specs.Prelude.{ℕ, ◌*◌, nat_le, Bool, true, false, ◌&&◌, ◌||◌, List, [], replicate, slice_get, Option}
use Rattle.std.specs.Prelude.{Some, None, is_some, option_map, if◌then◌else◌}
use Rattle.std.specs.List.{position}
use Rattle.std.specs.Option.{option_and_then}
use Rattle.arrayvec.specs.ArrayVec.{ArrayVec}
use Rattle.fr_frame.specs.Encoding.{encoded}
use Rattle.fr_frame.specs.Fields.{Fields}
use Rattle.fr_frame.specs.Spelling.{SpellsCanonically}
use Rattle.fr_journal.specs.Forms.{Entry}
use Rattle.fr_journal.specs.declared.entry.Entry.TheVariants.{Commit}
use Rattle.fr_journal.specs.declared.entry.Offered.{Offered}
use Rattle.fr_journal.specs.declared.entry.Offered.TheVariants.{Nothing, Null, Data}
use Rattle.fr_journal.specs.Fate.{held_commit, pending_commit}
use Rattle.fr_slots.specs.declared.channel.Channel.{Channel}
use Rattle.fr_slots.specs.declared.plan.Buffer.{Buffer}
use Rattle.fr_slots.specs.declared.plan.Mode.{Mode}
use Rattle.fr_slots.specs.declared.plan.Mode.TheVariants as mode
use Rattle.fr_slots.specs.declared.plan.Own.{Own}
use Rattle.fr_slots.specs.Parameters.{Parameters}
use Rattle.fr_slots.specs.Faults.{claims, latest_on, transmits}
use Rattle.fr_slots.specs.Plans.{Plan, admits_window, buffer_at}
use Rattle.fr_slots.specs.Windows.{Opportunity, slot_of, is_static}

-- ---- the buffer that transmits, and the latest minislot

abbrev pub is_admitting : Opportunity → Channel → Buffer → Bool
is_admitting window channel b = transmits b && admits_window b.filter window channel

-- The number of the first transmit buffer that admits the window on the channel. A plan without fault has at most one.
abbrev pub transmitter : Plan → Opportunity → Channel → Option ℕ
transmitter plan window channel = position (is_admitting window channel) plan.buffers

-- a dynamic transmission begins at the channel's pLatestTx at the latest
abbrev pub may_begin : Plan → Opportunity → Channel → Bool
may_begin plan window channel = is_static window || nat_le window.minislot (latest_on plan channel)

-- ---- the commit

-- in event mode the last commit if it is pending, in state mode the last commit unless it is withdrawn
abbrev pub ready : Mode → ℕ → List Entry → Option ℕ
ready mode.Event buffer entries = pending_commit buffer entries
ready mode.State buffer entries = held_commit buffer entries
ready mode.Receive buffer entries = None

-- the commit that the buffer of this number offers, if it admits the window
abbrev pub ready_in : Plan → List Entry → ℕ → Option ℕ
ready_in plan entries buffer = option_and_then (λ b. ready b.mode buffer entries) (buffer_at plan buffer)

abbrev pub commit_offered : Plan → List Entry → Opportunity → Channel → Option ℕ
commit_offered plan entries window channel =
    if may_begin plan window channel then option_and_then (ready_in plan entries) (transmitter plan window channel)
    else None

-- ---- the offer

-- the first ownership line for the slot on the channel in the cycle
abbrev pub ownership : List Own → ℕ → Channel → ℕ → Option Own
ownership owned slot channel cycle = option_and_then (slice_get owned) (position (claims slot channel cycle) owned)

-- the ownership line for the slot of a static window in its cycle; a dynamic slot has none
abbrev pub line_of : Plan → Opportunity → Channel → ℕ → Option Own
line_of plan window channel slot = if is_static window then ownership plan.owned slot channel window.cycle else None

abbrev pub owns : Plan → Opportunity → Channel → ℕ → Bool
owns plan window channel slot = is_some (line_of plan window channel slot)

abbrev pub data_or : Offered → Option ℕ → Offered
data_or otherwise None = otherwise
data_or otherwise (Some commit) = Data commit

abbrev pub offered_at : Plan → List Entry → Opportunity → Channel → Option ℕ → Offered
offered_at plan entries window channel None = Nothing
offered_at plan entries window channel (Some slot) =
    data_or (if owns plan window channel slot then Null else Nothing) (commit_offered plan entries window channel)

-- The node's offer on a channel. On a channel without a slot it is nothing. If an admitting buffer offers a commit, it
-- is that commit's data. Otherwise it is a null frame in a static slot that the node owns in the cycle, and nothing in
-- any other slot.
abbrev pub offered : Plan → List Entry → Opportunity → Channel → Offered
offered plan entries window channel = offered_at plan entries window channel (slot_of window channel)

-- ---- the frame of an offer

abbrev pub payload_in : Option Entry → List ℕ
payload_in (Some (Commit task buffer payload)) = payload
payload_in e = []

-- the payload of the commit of this number
abbrev pub payload_of : List Entry → ℕ → List ℕ
payload_of entries commit = payload_in (slice_get entries commit)

abbrev pub sync_of : Option Own → Bool
sync_of None = false
sync_of (Some own) = own.sync

abbrev pub startup_of : Option Own → Bool
startup_of None = false
startup_of (Some own) = own.startup

abbrev pub preamble_of : Option Buffer → Bool
preamble_of None = false
preamble_of (Some b) = b.preamble

abbrev pub preamble_in : Plan → Opportunity → Channel → Bool
preamble_in plan window channel = preamble_of (option_and_then (buffer_at plan) (transmitter plan window channel))

-- Sync and startup frame indicators come from the ownership line. A null frame has a payload of zeros, as long as in
-- every static frame.
abbrev pub null_frame : Parameters → Plan → Opportunity → Channel → ℕ → Fields
null_frame params plan window channel slot = record {
  preamble = false;
  has_data = false;
  sync = sync_of (line_of plan window channel slot);
  startup = startup_of (line_of plan window channel slot);
  id = slot;
  payload = replicate (2 * params.static_words) 0;
  cycle = window.cycle;
}

abbrev pub data_frame_of : Plan → List Entry → Opportunity → Channel → ℕ → ℕ → Fields
data_frame_of plan entries window channel slot commit = record {
  preamble = preamble_in plan window channel;
  has_data = true;
  sync = sync_of (line_of plan window channel slot);
  startup = startup_of (line_of plan window channel slot);
  id = slot;
  payload = payload_of entries commit;
  cycle = window.cycle;
}

abbrev pub frame_of_offer : Parameters → Plan → List Entry → Opportunity → Channel → ℕ → Offered → Option Fields
frame_of_offer params plan entries window channel slot Nothing = None
frame_of_offer params plan entries window channel slot Null = Some (null_frame params plan window channel slot)
frame_of_offer params plan entries window channel slot (Data commit) =
    Some (data_frame_of plan entries window channel slot commit)

abbrev pub frame_with : Parameters → Plan → List Entry → Opportunity → Channel → Offered → Option Fields
frame_with params plan entries window channel o =
    option_and_then (λ slot. frame_of_offer params plan entries window channel slot o) (slot_of window channel)

-- the frame that the node offers in the window on the channel
abbrev pub frame_offered : Parameters → Plan → List Entry → Opportunity → Channel → Option Fields
frame_offered params plan entries window channel =
    frame_with params plan entries window channel (offered plan entries window channel)

-- these bytes are the canonical spelling of this frame, or there is neither
abbrev pub IsHandedOut : Channel → Option Fields → Option (ArrayVec ℕ) → Type 0
IsHandedOut channel None None = Unit {0}
IsHandedOut channel (Some frame) (Some bytes) = SpellsCanonically frame channel bytes.items
IsHandedOut channel None (Some bytes) = ⊥
IsHandedOut channel (Some frame) None = ⊥

-- the bytes of a frame on the bus, if there is a frame
abbrev pub bytes_of : Channel → Option Fields → Option (ArrayVec ℕ)
bytes_of channel frame = option_map (λ f. record { items = encoded f channel }) frame
