-- The minislots at which slots can begin in one cycle, as the code keeps them: a mark for each minislot.
use Rattle.std.specs.Prelude.{◌≡◌, ◌≤◌, ℕ, suc, zero, ◌+◌, ◌<◌, nat_lt, Bool, true, false, List, length, slice_get}
use Rattle.std.specs.Prelude.{slice_index, slice_index_or, Some, Vec, if◌then◌else◌}
use Rattle.std.specs.List.{list_any}
use Rattle.std.specs.declared.alloc.Global.{Global}
use Rattle.fr_slots.specs.declared.channel.Channel.{Channel}
use Rattle.fr_slots.specs.declared.plan.Buffer.{Buffer}
use Rattle.fr_slots.specs.Faults.{latest_on, sends_at}
use Rattle.fr_slots.specs.Parameters.{Parameters}
use Rattle.fr_slots.specs.Numbers.{cycle_count}
use Rattle.fr_slots.specs.Plans.{Plan}
use Rattle.fr_schedule.specs.Descriptions.{Description}
use Rattle.fr_latency.specs.declared.way.Frame.{Frame}
use Rattle.fr_latency.specs.declared.way.Place.{Place}
use Rattle.fr_latency.specs.Openings.{can_begin, frame_length, last_begin}
use Rattle.fr_latency.specs.Ways.{IsFrame}

-- the marks have the test's answers from the minislot after this one on, and nothing passes elsewhere
pub record AreMarksOf (earlier : ℕ) (test : ℕ → Bool) (marks : List Bool) : Type 0 where
  pub above : (minislot : ℕ) → minislot ≤ earlier → test minislot ≡ false
  pub each : (index : ℕ) → index < length marks → slice_index_or marks index false ≡ test (earlier + 1 + index)
  pub within : (minislot : ℕ) → earlier + length marks < minislot → test minislot ≡ false

-- the marks of each slot, up to the slot after so many dynamic slots
pub record AreMarks (d : Description) (channel : Channel) (cycle count : ℕ) (history : List (Vec Bool Global)) : Type 0
  where
    pub size : length history ≡ count + 1
    pub each : (earlier : ℕ) (marks : Vec Bool Global) → slice_get history earlier ≡ Some marks
        → AreMarksOf earlier (can_begin d channel cycle earlier) marks.items

-- a frame of the buffer, which begins at this minislot in the slot, and after which the next slot begins at that one
pub record IsBegin (p : Parameters) (place : Place) (test : ℕ → Bool) (minislot : ℕ) (plan : Plan) (b : Buffer)
    (begin : ℕ) : Type 0 where
  pub next : minislot ≡ begin + frame_length p b
  pub in_time : begin ≤ latest_on plan place.channel
  pub sends : sends_at place.slot place.channel place.cycle b ≡ true
  pub begins : test begin ≡ true

-- the same for a buffer of the node
pub record IsFrameOf (p : Parameters) (node : ℕ) (plan : Plan) (place : Place) (test : ℕ → Bool) (minislot : ℕ)
    (frame : Frame) : Type 0 where
  pub node_is : frame.node ≡ node
  pub has_tasks : 1 ≤ plan.tasks
  pub buffer : Buffer
  pub of_plan : slice_get plan.buffers frame.buffer ≡ Some buffer
  pub in_slot : frame.slot ≡ place.slot
  pub begin : IsBegin p place test minislot plan buffer frame.minislot

-- a frame in the slot after which the next slot begins at this minislot
pub record IsFrameInto (d : Description) (channel : Channel) (cycle slot : ℕ) (test : ℕ → Bool) (minislot : ℕ)
    (frame : Frame) : Type 0 where
  pub size : ℕ
  pub is_frame : IsFrame d channel cycle size frame
  pub in_slot : frame.slot ≡ slot
  pub next : minislot ≡ frame.minislot + size
  pub begins : test frame.minislot ≡ true

-- ---- the cycle of the latest start

-- a node has a transmit buffer that admits the slot on the channel in the cycle
abbrev pub is_admitted : List Plan → ℕ → Channel → ℕ → Bool
is_admitted plans slot channel cycle = list_any (λ plan. list_any (sends_at slot channel cycle) plan.buffers) plans

-- the latest start of the slot in the cycle, if it is admitted
abbrev pub start_in : Description → ℕ → Channel → ℕ → ℕ → ℕ
start_in d slot channel earlier cycle =
    if is_admitted d.plans slot channel cycle then last_begin d channel cycle earlier else 0

-- the first number below this one with the greatest value, or 0
unfoldable pub place_of_most : (ℕ → ℕ) → ℕ → ℕ
place_of_most value zero = 0
place_of_most value (suc n) = if nat_lt (value (place_of_most value n)) (value n) then n else place_of_most value n

-- the latest start of the slot after so many dynamic slots, in each cycle
abbrev pub AreStarts : Description → Channel → ℕ → List ℕ → Type 0
AreStarts d channel earlier starts =
    (cycle : ℕ) → cycle < cycle_count → slice_index starts cycle ≡ last_begin d channel cycle earlier
