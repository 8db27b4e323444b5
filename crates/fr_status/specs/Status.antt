-- The status of a slot on a channel (chapter 6). The bit of each observation is project-defined.
use Rattle.std.specs.Prelude.{ℕ, ◌+◌, ◌*◌, ◌==◌, Bool, true, false, not, ◌&&◌, ◌||◌, length, Option, Some, None}
use Rattle.std.specs.Prelude.{if◌then◌else◌}
use Rattle.fr_slots.specs.declared.channel.Channel.{Channel}
use Rattle.fr_slots.specs.Parameters.{Parameters, is_static_slot}
use Rattle.fr_frame.specs.Decoding.{decoded}
use Rattle.fr_frame.specs.Fields.{Fields}
use Rattle.fr_status.specs.Forms.{Seen}
use Rattle.fr_status.specs.declared.seen.Seen.TheVariants.{Silence, Own, Conflict, Noise, Overrun, Bytes}
use Rattle.fr_status.specs.declared.status.SlotStatus.{SlotStatus}

-- ---- the five bits, each alone

abbrev pub no_bit : SlotStatus
no_bit = record { valid = false; syntax = false; content = false; boundary = false; conflict = false }

abbrev pub valid_frame : SlotStatus
valid_frame = record no_bit { valid = true }

abbrev pub syntax_error : SlotStatus
syntax_error = record no_bit { syntax = true }

abbrev pub content_error : SlotStatus
content_error = record no_bit { content = true }

abbrev pub boundary_violation : SlotStatus
boundary_violation = record no_bit { boundary = true }

abbrev pub transmission_conflict : SlotStatus
transmission_conflict = record no_bit { conflict = true }

-- the number of set bits
abbrev pub bits_set : SlotStatus → ℕ
bits_set s = count s.valid + count s.syntax + count s.content + count s.boundary + count s.conflict
  where
    count : Bool → ℕ
    count bit = if bit then 1 else 0

-- ---- the content checks

-- The frame passes the checks of a static slot. It has the payload length of all static frames, in two-byte words, the
-- slot's frame ID and the cycle's count. A startup frame is a sync frame.
abbrev pub fits_static_slot : Parameters → ℕ → ℕ → Fields → Bool
fits_static_slot params cycle slot f =
    length f.payload == 2 * params.static_words && f.id == slot && f.cycle == cycle && (f.sync || not f.startup)

-- The frame passes the checks of a dynamic slot. It has the slot's frame ID and the cycle's count, and is no sync
-- frame, startup frame or null frame.
abbrev pub fits_dynamic_slot : ℕ → ℕ → Fields → Bool
fits_dynamic_slot cycle slot f = f.id == slot && f.cycle == cycle && not f.sync && not f.startup && f.has_data

abbrev pub passes : Parameters → ℕ → ℕ → Fields → Bool
passes params cycle slot f =
    if is_static_slot params slot then fits_static_slot params cycle slot f else fits_dynamic_slot cycle slot f

-- ---- the table

-- the status for the frame that the bytes spell, if any
abbrev pub judged : Parameters → ℕ → ℕ → Option Fields → SlotStatus
judged params cycle slot None = syntax_error
judged params cycle slot (Some f) = if passes params cycle slot f then valid_frame else content_error

abbrev pub passed : Parameters → ℕ → ℕ → Option Fields → Option Fields
passed params cycle slot None = None
passed params cycle slot (Some f) = if passes params cycle slot f then Some f else None

-- The status of a slot on a channel in a cycle, by the observation.
unfoldable pub status_in : Parameters → ℕ → ℕ → Channel → Seen → SlotStatus
status_in params cycle slot channel Silence = no_bit
status_in params cycle slot channel Own = no_bit
status_in params cycle slot channel Conflict = transmission_conflict
status_in params cycle slot channel Noise = syntax_error
status_in params cycle slot channel Overrun = boundary_violation
status_in params cycle slot channel (Bytes bytes) = judged params cycle slot (decoded channel bytes.items)

-- The valid frame that was received there, if any.
unfoldable pub frame_in : Parameters → ℕ → ℕ → Channel → Seen → Option Fields
frame_in params cycle slot channel Silence = None
frame_in params cycle slot channel Own = None
frame_in params cycle slot channel Conflict = None
frame_in params cycle slot channel Noise = None
frame_in params cycle slot channel Overrun = None
frame_in params cycle slot channel (Bytes bytes) = passed params cycle slot (decoded channel bytes.items)
