-- The lanes of a channel that a run of the cluster without faults can have: their rows by the byte counts of the frames
-- that are sent (`fr_minislot`).
use Rattle.std.specs.Prelude.{◌≡◌, ◌⊎◌, ◌↔◌, ℕ, ◌+◌, ◌*◌, ◌≤◌, ◌<◌, true, List, [], length, Some, slice_get}
use Rattle.fr_minislot.specs.DynamicRows.{AreRows, first_minislot, opened_after, slot_after}
use Rattle.fr_slots.specs.declared.channel.Channel.{Channel}
use Rattle.fr_slots.specs.declared.plan.Buffer.{Buffer}
use Rattle.fr_slots.specs.Faults.{latest_on, sends_at, words_of}
use Rattle.fr_slots.specs.History.{AllAfter}
use Rattle.fr_slots.specs.Parameters.{Parameters}
use Rattle.fr_slots.specs.Plans.{Plan}
use Rattle.fr_schedule.specs.Descriptions.{Description}
use Rattle.fr_latency.specs.Openings.{can_begin, opens}

-- the bytes of a frame of the buffer: its payload, and eight bytes of header and trailer (chapter 4)
abbrev pub frame_bytes : Parameters → Buffer → ℕ
frame_bytes p b = 2 * (words_of p b + 4)

-- A node with tasks has a transmit buffer that admits the slot, and its frame has so many bytes. The slot begins up to
-- the latest minislot of the node.
pub record CanSend (d : Description) (channel : Channel) (cycle slot minislot bytes : ℕ) : Type 0 where
  pub node : ℕ
  pub plan : Plan
  pub of_node : slice_get d.plans node ≡ Some plan
  pub has_tasks : 1 ≤ plan.tasks
  pub number : ℕ
  pub buffer : Buffer
  pub of_plan : slice_get plan.buffers number ≡ Some buffer
  pub sends : sends_at slot channel cycle buffer ≡ true
  pub in_time : minislot ≤ latest_on plan channel
  pub bytes_are : bytes ≡ frame_bytes d.params buffer

-- in each slot nothing is sent, or a frame of the slot's buffer
abbrev pub IsLane : Description → Channel → ℕ → List ℕ → Type 0
IsLane d channel cycle counts =
    AllAfter
    (λ before bytes.
    (bytes ≡ 0)
    ⊎ CanSend d channel cycle (slot_after d.params before) (first_minislot d.params before) bytes)
    [] counts

-- a lane that comes to the slot after so many dynamic slots
abbrev pub IsLaneTo : Description → Channel → ℕ → ℕ → List ℕ → Type 0
IsLaneTo d channel cycle earlier counts = IsLane d channel cycle counts × (length counts ≡ earlier)

-- a lane comes to the slot at this minislot
pub record Reaches (d : Description) (channel : Channel) (cycle earlier minislot : ℕ) : Type 0 where
  pub counts : List ℕ
  pub is_lane : IsLaneTo d channel cycle earlier counts
  pub at : first_minislot d.params counts ≡ minislot

-- a lane whose rows all exist opens the slot at this minislot
pub record Opens (d : Description) (channel : Channel) (cycle slot minislot : ℕ) : Type 0 where
  pub counts : List ℕ
  pub is_lane : IsLane d channel cycle counts
  pub are_rows : AreRows d.params counts
  pub opened : opened_after d.params counts minislot ≡ Some slot

-- A slot can begin exactly where a lane comes to it, and opens exactly where a lane opens it.
pub record AreLanes (d : Description) : Type 0 where
  pub begins : (channel : Channel) (cycle earlier minislot : ℕ)
      → (can_begin d channel cycle earlier minislot ≡ true) ↔ Reaches d channel cycle earlier minislot
  pub opens : (channel : Channel) (cycle slot minislot : ℕ) → d.params.static_slots < slot
      → (opens d channel cycle slot minislot ≡ true) ↔ Opens d channel cycle slot minislot

-- some lane comes to the slot at this minislot, and none later
pub record IsLatest (d : Description) (channel : Channel) (cycle earlier minislot : ℕ) : Type 0 where
  pub counts : List ℕ
  pub is_lane : IsLaneTo d channel cycle earlier counts
  pub at : first_minislot d.params counts ≡ minislot
  pub none_later : (others : List ℕ) → IsLaneTo d channel cycle earlier others
      → first_minislot d.params others ≤ minislot
