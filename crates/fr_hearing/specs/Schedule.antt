-- The times of the frames of a run that keeps to its schedule (chapter 5; the tolerance is project-defined). Times are
-- nanoseconds.
use Rattle.std.specs.Prelude.{◌≡◌, ℕ, pos, ◌+◌, ◌-◌, ◌*◌, ◌%◌, ◌<◌, ◌≤◌, nat_le, Bool, true, false, List, [], ◌∷◌, ◌⊎◌}
use Rattle.std.specs.Prelude.{Some}
use Rattle.fr_frame.specs.Fields.{Fields}
use Rattle.fr_hearing.specs.Alarms.{is_on, Spells}
use Rattle.fr_logged.specs.Logged.{kind_of}
use Rattle.fr_recording.specs.Records.{Record}
use Rattle.fr_slots.specs.declared.channel.Channel.{Channel}
use Rattle.fr_slots.specs.Parameters.{Parameters, IsParameters}

-- ---- the schedule

-- The length of a macrotick, and the time at which each cycle of the run begins by the clock of the logger. Within the
-- cycle times may differ from the schedule by the slack, and the cycle itself from its length by the drift. The slack
-- counts from the start of the cycle, so a clock that drifts by more within a cycle is outside the laws. The judgement
-- compares neighbouring frames, so it may have no finding there either.
pub record Timeline : Type 0 where
  pub macrotick : ℕ
  pub starts : ℕ → ℕ
  pub slack : ℕ
  pub drift : ℕ

pub record AreNear (slack x y : ℕ) : Type 0 where
  pub not_late : x ≤ y + slack
  pub not_early : y ≤ x + slack

abbrev pub slot_length : Parameters → Timeline → ℕ
slot_length p t = p.static_mt * t.macrotick

abbrev pub cycle_length : Parameters → Timeline → ℕ
cycle_length p t = p.cycle_mt * t.macrotick

-- A macrotick has a length. Two times that are off in different directions are off by at most half a static slot in a
-- cycle, and by at most a quarter of a cycle in neighbouring ones.
pub record IsTimeline (p : Parameters) (t : Timeline) : Type 0 where
  pub some_length : 1 ≤ t.macrotick
  pub tolerable : 4 * t.slack ≤ slot_length p t
  pub steady : (cycle : ℕ) → AreNear t.drift (t.starts (cycle + 1)) (t.starts cycle + cycle_length p t)
  pub little_drift : 4 * (2 * t.slack + t.drift) ≤ cycle_length p t

-- a static slot of this cycle of the run begins
abbrev pub slot_begins : Parameters → Timeline → ℕ → ℕ → ℕ
slot_begins p t cycle slot = t.starts cycle + (slot - 1) * slot_length p t

-- a clock without drift
abbrev pub even_timeline : Parameters → ℕ → ℕ → ℕ → Timeline
even_timeline p macrotick start slack = record {
  macrotick = macrotick;
  starts = λ cycle. start + cycle * (p.cycle_mt * macrotick);
  slack = slack;
  drift = 0;
}

-- A quarter of a static slot is little enough.
abbrev pub EvenIsTimeline : Type 0
EvenIsTimeline = (p : Parameters) (macrotick start slack : ℕ) → IsParameters p → 1 ≤ macrotick
    → 4 * slack ≤ p.static_mt * macrotick → IsTimeline p (even_timeline p macrotick start slack)

-- ---- frames in time

-- in the cycle, or a little before or after
pub record IsInCycle (p : Parameters) (t : Timeline) (cycle time : ℕ) : Type 0 where
  pub not_early : t.starts cycle ≤ time + t.slack
  pub not_late : time ≤ t.starts cycle + cycle_length p t + t.slack

-- a static frame comes at the start of its slot, and a dynamic one in its cycle
abbrev pub IsTimelyAs : Parameters → Timeline → ℕ → ℕ → ℕ → Bool → Type 0
IsTimelyAs p t cycle slot time true = AreNear t.slack time (slot_begins p t cycle slot)
IsTimelyAs p t cycle slot time false = IsInCycle p t cycle time

abbrev pub IsTimely : Parameters → Timeline → ℕ → ℕ → ℕ → Type 0
IsTimely p t cycle slot time = IsTimelyAs p t cycle slot time (nat_le slot p.static_slots)

-- a frame, the cycle of the run in which it comes, and its time
pub record Timed : Type 0 where
  pub frame : Fields
  pub cycle : ℕ
  pub time : ℕ

-- the frame counts its cycle, is of a slot of the cluster, and comes in time
pub record IsPunctual (p : Parameters) (t : Timeline) (x : Timed) : Type 0 where
  pub count_is : x.frame.cycle ≡ x.cycle % 64
  pub from_one : 1 ≤ x.frame.id
  pub some_minislot : nat_le x.frame.id p.static_slots ≡ false → 1 ≤ p.minislots
  pub timely : IsTimely p t x.cycle x.frame.id x.time

-- a later slot of the same cycle, or the next cycle
abbrev pub IsAfter : Timed → Timed → Type 0
IsAfter x y = ((y.cycle ≡ x.cycle) × (x.frame.id < y.frame.id)) ⊎ (y.cycle ≡ x.cycle + 1)

-- the frames after one
abbrev pub Continue : Parameters → Timeline → Timed → List Timed → Type 0
Continue p t x [] = Unit {0}
Continue p t x (y ∷ ys) = IsAfter x y × IsPunctual p t y × Continue p t y ys

-- frames of cycles without a gap, each in time
abbrev pub ArePunctual : Parameters → Timeline → List Timed → Type 0
ArePunctual p t [] = Unit {0}
ArePunctual p t (x ∷ xs) = IsPunctual p t x × Continue p t x xs

-- the records of the channel spell these frames at these times, between any records of other kinds
abbrev pub AreAt : Channel → List Record → List Timed → Type 0
AreAt channel [] xs = xs ≡ []
AreAt channel (r ∷ rs) xs =
    ((is_on channel (kind_of r.link r.bytes) ≡ false) × AreAt channel rs xs)
    ⊎ ((x : Timed) × (rest : List Timed) × (xs ≡ x ∷ rest) × Spells channel r x.frame
    × (r.time ≡ Some (pos x.time)) × AreAt channel rs rest)
