-- The status of the slot on a channel of a window, by the observation (chapter 6).
use Rattle.std.specs.Prelude.{◌≡◌, ℕ, Option, None, option_map}
use Rattle.fr_slots.specs.declared.channel.Channel.{Channel}
use Rattle.fr_slots.specs.Parameters.{Parameters}
use Rattle.fr_slots.specs.Windows.{Opportunity, slot_of}
use Rattle.fr_status.specs.Forms.{Seen}
use Rattle.fr_status.specs.declared.status.SlotStatus.{SlotStatus}
use Rattle.fr_status.specs.Status.{frame_in, no_bit, status_in}

-- a channel without a slot has none
abbrev pub status_seen : Parameters → Opportunity → Channel → Seen → Option SlotStatus
status_seen params window channel seen =
    option_map (λ slot. status_in params window.cycle slot channel seen) (slot_of window channel)

-- in whatever slot, no bit is set and there is no frame
abbrev pub IsQuiet : Seen → Type 0
IsQuiet seen = (params : Parameters) (cycle slot : ℕ) (channel : Channel)
    → (status_in params cycle slot channel seen ≡ no_bit) × (frame_in params cycle slot channel seen ≡ None)
