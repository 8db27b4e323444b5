-- The ways in which the dynamic segment of a channel can go in a cycle, if no node babbles and no offer is muted
-- (chapter 5; the length of each frame is project-defined).
use Rattle.std.specs.Prelude.{◌≡◌, ℕ, ◌+◌, ◌*◌, ◌≤◌, true, ◌⊎◌, List, [], slice_get, Some}
use Rattle.fr_minislot.specs.DynamicRows.{first_minislot, slot_after, has_row_after}
use Rattle.fr_schedule.specs.Descriptions.{Description}
use Rattle.fr_slots.specs.declared.channel.Channel.{Channel}
use Rattle.fr_slots.specs.declared.plan.Buffer.{Buffer}
use Rattle.fr_slots.specs.Faults.{sends_at, latest_on, words_of}
use Rattle.fr_slots.specs.History.{AllAfter}
use Rattle.fr_slots.specs.Plans.{Plan, buffer_at}

-- A node with a task has a transmit buffer for the slot on the channel in the cycle. The buffer's frames have so many
-- bytes, and the node may begin one at this minislot.
pub record CanSend (d : Description) (cycle slot : ℕ) (channel : Channel) (minislot bytes : ℕ) : Type 0 where
  pub node : ℕ
  pub plan : Plan
  pub plan_at : slice_get d.plans node ≡ Some plan
  pub some_task : 1 ≤ plan.tasks
  pub number : ℕ
  pub buffer : Buffer
  pub at : buffer_at plan number ≡ Some buffer
  pub sends : sends_at slot channel cycle buffer ≡ true
  pub in_time : minislot ≤ latest_on plan channel
  pub bytes_are : bytes ≡ 8 + 2 * words_of d.params buffer

-- the row after these exists, and in it nothing is sent, or a frame that can be sent there
abbrev pub IsRow : Description → ℕ → Channel → List ℕ → ℕ → Type 0
IsRow d cycle channel before bytes =
    (has_row_after d.params before ≡ true)
    × ((bytes ≡ 0) ⊎ CanSend d cycle (slot_after d.params before) channel (first_minislot d.params before) bytes)

-- each of the rows of these byte counts is one that can be
abbrev pub IsWay : Description → ℕ → Channel → List ℕ → Type 0
IsWay d cycle channel counts = AllAfter (IsRow d cycle channel) [] counts
