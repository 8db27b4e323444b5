-- Frames that receivers hold from a fault-free slot are commits of its owner (project-defined).
use Rattle.std.specs.Prelude.{◌≡◌, ◌<◌, ℕ, not, Bool, true, false, ◌&&◌, ◌||◌, ◌⊎◌, List, take, slice_get, Some, None}
use Rattle.std.specs.List.{list_all}
use Rattle.fr_bus.specs.declared.outcome.SentFate.{SentFate}
use Rattle.fr_bus.specs.declared.outcome.SentFate.TheVariants.{Passed, Blocked, Muted}
use Rattle.fr_bus.specs.declared.outcome.Sent.{Sent}
use Rattle.fr_bus.specs.Outcome.{is_of}
use Rattle.fr_bus.specs.Record.{Recorded, corrupt_on}
use Rattle.fr_frame.specs.Fields.{Fields}
use Rattle.fr_interface.specs.State.{State, received_by}
use Rattle.fr_journal.specs.Arrivals.{moves, queue_content}
use Rattle.fr_journal.specs.declared.entry.Arrival.{Arrival}
use Rattle.fr_journal.specs.declared.entry.Entry.TheVariants.{Commit, Fetch}
use Rattle.fr_journal.specs.declared.entry.Offered.{Offered}
use Rattle.fr_journal.specs.declared.entry.Offered.TheVariants.{Data}
use Rattle.fr_journal.specs.OpenWindow.{open_window}
use Rattle.fr_schedule.specs.Descriptions.{Description, is_guarded}
use Rattle.fr_slots.specs.Admission.{is_channel}
use Rattle.fr_slots.specs.declared.channel.Channel.{Channel}
use Rattle.fr_slots.specs.declared.channel.Channel.TheVariants.{A, B}
use Rattle.fr_slots.specs.declared.plan.Queue.{Queue}
use Rattle.fr_slots.specs.Faults.{is_owned}
use Rattle.fr_slots.specs.Plans.{Plan}
use Rattle.fr_slots.specs.Windows.{Opportunity, slot_of, is_static}

-- ---- owners

-- the node owns the static slot on the channel in the cycle (chapter 5)
pub record IsOwner (d : Description) (cycle slot : ℕ) (channel : Channel) (node : ℕ) : Type 0 where
  pub plan : Plan
  pub at : slice_get d.plans node ≡ Some plan
  pub owns : is_owned plan.owned slot channel cycle ≡ true

-- ---- fault-free slots

abbrev pub is_muted : SentFate → Bool
is_muted Passed = false
is_muted Blocked = false
is_muted Muted = true

-- the transmission isn't a babble or a muted offer of the node on the channel
abbrev pub is_clean : Channel → ℕ → Sent → Bool
is_clean channel node t = not ((is_of node t && is_channel t.channel channel) && (t.babble || is_muted t.fate))

-- The recorded window has a static slot, guarded on the channel, that this node owns in its cycle. There is no fault of
-- the owner in it, and no corrupt bit. Other nodes may have faults there.
pub record IsFaultlessAt (d : Description) (r : Recorded) (channel : Channel) (owner : ℕ) : Type 0 where
  pub static : is_static r.window ≡ true
  pub guarded : is_guarded d.guard channel ≡ true
  pub slot : ℕ
  pub slot_is : slot_of r.window channel ≡ Some slot
  pub owned : IsOwner d r.window.cycle slot channel owner
  pub clean : list_all (is_clean channel owner) r.sent ≡ true
  pub whole : corrupt_on r channel ≡ None

-- ---- held frames

-- the receive buffer of this number, or a place of the node's receive FIFO, holds the frame
abbrev pub Holds : State → Arrival → Type 0
Holds s a =
    ((buffer : ℕ) × (received_by s buffer ≡ Some a))
    ⊎ ((q : Queue) × (k : ℕ) × (s.plan.queue ≡ Some q)
    × (slice_get (queue_content q.capacity (moves s.params s.plan q s.entries)) k ≡ Some a))

-- ---- frames handed to the bus

abbrev pub offered_on : Channel → Offered → Offered → Offered
offered_on A a b = a
offered_on B a b = b

-- The journal has a fetch of the window with the data of a commit on the channel. The frame has the payload of that
-- commit, which comes before the fetch.
pub record HandsOver (s : State) (window : Opportunity) (channel : Channel) (frame : Fields) : Type 0 where
  pub fetch : ℕ
  pub a : Offered
  pub b : Offered
  pub fetched_at : slice_get s.entries fetch ≡ Some (Fetch window a b)
  pub commit : ℕ
  pub offers : offered_on channel a b ≡ Data commit
  pub task : ℕ
  pub buffer : ℕ
  pub committed_at : slice_get s.entries commit ≡ Some (Commit task buffer frame.payload)
  pub earlier : commit < fetch

-- ---- the receivers' clause

-- The window in which the journal observed the frame is recorded. If its slot was fault-free there, the frame is the
-- one that its owner handed to the bus.
pub record IsReceived (d : Description) (interfaces : List State) (rs : List Recorded) (mine : State)
    (a : Arrival) : Type 0 where
  pub place : ℕ
  pub recorded : Recorded
  pub recorded_at : slice_get rs place ≡ Some recorded
  pub seen_in : open_window (take a.origin.entry mine.entries) ≡ Some recorded.window
  pub of_owner : (owner : ℕ) (theirs : State) → slice_get interfaces owner ≡ Some theirs
      → IsFaultlessAt d recorded a.origin.channel owner → HandsOver theirs recorded.window a.origin.channel a.frame

-- each frame in a receive buffer or the receive FIFO of a node is received in this way
abbrev pub Receivers : Description → List State → List Recorded → Type 0
Receivers d interfaces rs = (n : ℕ) (mine : State) (a : Arrival) → slice_get interfaces n ≡ Some mine → Holds mine a
    → IsReceived d interfaces rs mine a
