-- The frames that nodes hand to the bus (chapter 5; the division of a static slot by cycles is project-defined).
use Rattle.std.specs.Prelude.{◌≡◌, ℕ, ◌*◌, ◌<◌, ◌≤◌, true, false, List, ◌∷◌, ◌++◌, length, slice_get, Some}
use Rattle.fr_core.specs.Receivers.{offered_on}
use Rattle.fr_frame.specs.Fields.{Fields}
use Rattle.fr_hearing.specs.Heard.{IsOwners}
use Rattle.fr_interface.specs.State.{State, IsLegalInterface}
use Rattle.fr_journal.specs.declared.entry.Entry.TheVariants.{Fetch}
use Rattle.fr_journal.specs.declared.entry.Offered.{Offered}
use Rattle.fr_journal.specs.Forms.{Entry}
use Rattle.fr_journal.specs.Offers.{frame_with, owns}
use Rattle.fr_logged.specs.declared.due.Due.{Due}
use Rattle.fr_logged.specs.Dues.{due_of}
use Rattle.fr_schedule.specs.Clusters.{IsCluster}
use Rattle.fr_schedule.specs.Descriptions.{Description}
use Rattle.fr_slots.specs.declared.channel.Channel.{Channel}
use Rattle.fr_slots.specs.Parameters.{is_static_slot}
use Rattle.fr_slots.specs.Windows.{Opportunity, slot_of, is_static}

-- the interface of a node of the cluster fetched the window after these entries
pub record IsFetched (d : Description) (node : ℕ) (s : State) (before : List Entry) (w : Opportunity) (a b : Offered)
    : Type 0 where
  pub lawful : IsLegalInterface s
  pub params_are : s.params ≡ d.params
  pub plan_at : slice_get d.plans node ≡ Some s.plan
  pub after : List Entry
  pub cut : s.entries ≡ before ++ Fetch w a b ∷ after

-- a static window, whose slot the node owns on the channel in the cycle
pub record IsOwnWindow (d : Description) (s : State) (w : Opportunity) (channel : Channel) (slot : ℕ) : Type 0 where
  pub static : is_static w ≡ true
  pub static_slot : is_static_slot d.params slot ≡ true
  pub slot_is : slot_of w channel ≡ Some slot
  pub cycle_fits : w.cycle < 64
  pub owned : owns s.plan w channel slot ≡ true

-- a frame is handed over, with the slot and the cycle of the window, and it is the one that is due there
pub record HandsDue (d : Description) (s : State) (before : List Entry) (w : Opportunity) (channel : Channel)
    (slot : ℕ) (o : Offered) : Type 0 where
  pub frame : Fields
  pub handed : frame_with s.params s.plan before w channel o ≡ Some frame
  pub id_is : frame.id ≡ slot
  pub cycle_is : frame.cycle ≡ w.cycle
  pub due : Due
  pub due_is : due_of d slot channel w.cycle ≡ Some due
  pub owners : IsOwners due frame
  pub full : length frame.payload ≡ 2 * d.params.static_words

-- In each static window that a node owns, it hands over the frame that is due.
abbrev pub OwnersSend : Type 0
OwnersSend = (d : Description) (node : ℕ) (s : State) (before : List Entry) (w : Opportunity) (a b : Offered)
    (channel : Channel) (slot : ℕ) → IsCluster d → IsFetched d node s before w a b → IsOwnWindow d s w channel slot
    → HandsDue d s before w channel slot (offered_on channel a b)

-- ---- dynamic slots

-- a dynamic window, in which the slot is open on the channel
pub record IsOpenWindow (d : Description) (w : Opportunity) (channel : Channel) (slot : ℕ) : Type 0 where
  pub dynamic : is_static w ≡ false
  pub dynamic_slot : is_static_slot d.params slot ≡ false
  pub slot_is : slot_of w channel ≡ Some slot
  pub cycle_fits : w.cycle < 64

-- The frame has the slot and the cycle of the window. It is a data frame of the transmit buffer that is due there, and
-- begins by its node's latest minislot.
pub record IsDueThere (d : Description) (w : Opportunity) (channel : Channel) (slot : ℕ) (f : Fields) : Type 0 where
  pub id_is : f.id ≡ slot
  pub cycle_is : f.cycle ≡ w.cycle
  pub due : Due
  pub due_is : due_of d slot channel w.cycle ≡ Some due
  pub has_data : f.has_data ≡ true
  pub no_sync : f.sync ≡ false
  pub no_startup : f.startup ≡ false
  pub words : length f.payload ≡ 2 * due.words
  pub preamble : due.preamble ≡ Some f.preamble
  pub in_time : w.minislot ≤ due.latest

-- Each frame that a node hands over in a dynamic window is one that is due there.
abbrev pub SendersSend : Type 0
SendersSend = (d : Description) (node : ℕ) (s : State) (before : List Entry) (w : Opportunity) (a b : Offered)
    (channel : Channel) (slot : ℕ) (f : Fields) → IsCluster d → IsFetched d node s before w a b
    → IsOpenWindow d w channel slot → frame_with s.params s.plan before w channel (offered_on channel a b) ≡ Some f
    → IsDueThere d w channel slot f
