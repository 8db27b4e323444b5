-- The frames that a listener receives in the windows of a run without faults of senders (project-defined).
use Rattle.std.specs.Prelude.{◌≡◌, ℕ, not, Bool, true, false, ◌||◌, List, slice_get, Some, None, if◌then◌else◌}
use Rattle.std.specs.List.{list_all}
use Rattle.arrayvec.specs.ArrayVec.{ArrayVec}
use Rattle.fr_bus.specs.declared.outcome.Sent.{Sent}
use Rattle.fr_bus.specs.Record.{Recorded, corrupt_on, heard}
use Rattle.fr_core.specs.Receivers.{is_muted, IsOwner}
use Rattle.fr_core.specs.Worlds.{WorldState}
use Rattle.fr_frame.specs.Encoding.{encoded}
use Rattle.fr_frame.specs.Fields.{Fields}
use Rattle.fr_hearing.specs.Heard.{IsOwners}
use Rattle.fr_hearing.specs.Offering.{IsDueThere}
use Rattle.fr_logged.specs.declared.due.Due.{Due}
use Rattle.fr_logged.specs.Dues.{due_of}
use Rattle.fr_schedule.specs.Descriptions.{Description}
use Rattle.fr_slots.specs.Admission.{is_channel}
use Rattle.fr_slots.specs.declared.channel.Channel.{Channel}
use Rattle.fr_slots.specs.Windows.{Opportunity, slot_of, is_static}
use Rattle.fr_status.specs.declared.seen.Seen.TheVariants.{Bytes}

-- neither a babble nor a muted offer
abbrev pub is_sound : Sent → Bool
is_sound t = not (t.babble || is_muted t.fate)

abbrev pub is_sound_on : Channel → Sent → Bool
is_sound_on channel t = if is_channel t.channel channel then is_sound t else true

-- no recorded transmission on the channel is a babble or a muted offer
abbrev pub AreSound : Channel → List Recorded → Type 0
AreSound channel rs = (k : ℕ) (r : Recorded) → slice_get rs k ≡ Some r
    → list_all (is_sound_on channel) r.sent ≡ true

-- the frame of the slot's owner in a static window
pub record IsOwnersThere (d : Description) (w : Opportunity) (channel : Channel) (slot : ℕ) (f : Fields) : Type 0 where
  pub id_is : f.id ≡ slot
  pub cycle_is : f.cycle ≡ w.cycle
  pub due : Due
  pub due_is : due_of d slot channel w.cycle ≡ Some due
  pub owners : IsOwners due f

abbrev pub IsThere : Description → Opportunity → Channel → ℕ → Fields → Bool → Type 0
IsThere d w channel slot f true = IsOwnersThere d w channel slot f
IsThere d w channel slot f false = IsDueThere d w channel slot f

-- the bytes are the spelling of a frame that is due in the window
pub record SpellsDue (d : Description) (w : Opportunity) (channel : Channel) (slot : ℕ) (bytes : ArrayVec ℕ)
    : Type 0 where
  pub frame : Fields
  pub spelled : bytes.items ≡ encoded frame channel
  pub is_there : IsThere d w channel slot frame (is_static w)

-- Without faults of senders and flipped bits on the channel, each frame that a listener receives there is one that is
-- due in its window. There may be faults on the other channel.
abbrev pub HeardIsDue : WorldState → Type 0
HeardIsDue w = (channel : Channel) → AreSound channel w.bus.sealed
    → (k slot : ℕ) (r : Recorded) (bytes : ArrayVec ℕ)
    → slice_get w.bus.sealed k ≡ Some r → corrupt_on r channel ≡ None → slot_of r.window channel ≡ Some slot
    → heard w.bus.cluster.params r channel ≡ Bytes bytes → SpellsDue w.bus.cluster r.window channel slot bytes

-- a listener receives some bytes on the channel
pub record Receives (d : Description) (r : Recorded) (channel : Channel) : Type 0 where
  pub bytes : ArrayVec ℕ
  pub hears : heard d.params r channel ≡ Bytes bytes

-- In each static window that has an owner on the channel, a listener receives a frame.
abbrev pub OwnersAreHeard : WorldState → Type 0
OwnersAreHeard w = (channel : Channel) → AreSound channel w.bus.sealed → (k slot owner : ℕ) (r : Recorded)
    → slice_get w.bus.sealed k ≡ Some r → corrupt_on r channel ≡ None → is_static r.window ≡ true
    → slot_of r.window channel ≡ Some slot → IsOwner w.bus.cluster r.window.cycle slot channel owner
    → Receives w.bus.cluster r channel
