-- The ways of a channel through the dynamic slots of a cycle, in runs without faults: which frames are sent.
use Rattle.std.specs.Prelude.{◌≡◌, ◌⊎◌, ℕ, suc, zero, ◌+◌, ◌≤◌, true, List, [], ◌∷◌, ◌++◌, Some, slice_get}
use Rattle.fr_slots.specs.declared.channel.Channel.{Channel}
use Rattle.fr_slots.specs.declared.plan.Buffer.{Buffer}
use Rattle.fr_slots.specs.Faults.{latest_on, sends_at}
use Rattle.fr_slots.specs.Plans.{Plan}
use Rattle.fr_schedule.specs.Descriptions.{Description}
use Rattle.fr_latency.specs.declared.way.Frame.{Frame}
use Rattle.fr_latency.specs.Openings.{frame_length, slot_after}

-- A buffer of a node with tasks can send this frame in the cycle: it admits the slot, and the frame begins up to the
-- latest minislot of the node. So many minislots later the next slot begins.
pub record IsFrame (d : Description) (channel : Channel) (cycle : ℕ) (size : ℕ) (frame : Frame) : Type 0 where
  pub plan : Plan
  pub of_node : slice_get d.plans frame.node ≡ Some plan
  pub has_tasks : 1 ≤ plan.tasks
  pub buffer : Buffer
  pub of_plan : slice_get plan.buffers frame.buffer ≡ Some buffer
  pub sends : sends_at frame.slot channel cycle buffer ≡ true
  pub in_time : frame.minislot ≤ latest_on plan channel
  pub size_is : size ≡ frame_length d.params buffer

-- the last slot of a way carries nothing, or a frame
pub record IsSilent (IsBefore : ℕ → List Frame → Type 0) (minislot : ℕ) (frames : List Frame) : Type 0 where
  pub begin : ℕ
  pub next : minislot ≡ begin + 1
  pub before : IsBefore begin frames

pub record IsSent (d : Description) (channel : Channel) (cycle slot : ℕ) (IsBefore : ℕ → List Frame → Type 0)
    (minislot : ℕ) (frames : List Frame) : Type 0 where
  pub frame : Frame
  pub size : ℕ
  pub is_frame : IsFrame d channel cycle size frame
  pub in_slot : frame.slot ≡ slot
  pub next : minislot ≡ frame.minislot + size
  pub others : List Frame
  pub frames_are : frames ≡ others ++ frame ∷ []
  pub before : IsBefore frame.minislot others

-- If these frames are sent, in order of their slots, the slot after so many dynamic slots begins at this minislot, if
-- the segment has it.
unfoldable pub IsWay : Description → Channel → ℕ → ℕ → ℕ → List Frame → Type 0
IsWay d channel cycle zero minislot frames = (minislot ≡ 1) × (frames ≡ [])
IsWay d channel cycle (suc earlier) minislot frames =
    IsSilent (IsWay d channel cycle earlier) minislot frames
    ⊎ IsSent d channel cycle (slot_after d.params earlier) (IsWay d channel cycle earlier) minislot frames
