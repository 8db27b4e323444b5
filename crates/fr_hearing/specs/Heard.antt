-- The frames that a listener hears on a channel of a bus without faults (chapters 4 and 5). The division of a static
-- slot by cycles and the length of dynamic frames are project-defined. Nothing here speaks of a monitor.
use Rattle.std.specs.Prelude.{◌≡◌, ℕ, ◌+◌, ◌-◌, ◌*◌, ◌/◌, ◌%◌, ◌<◌, ◌≤◌, min, nat_le, Bool, true, false, if◌then◌else◌}
use Rattle.std.specs.Prelude.{List, [], ◌∷◌, length, ◌⊎◌, Some, None}
use Rattle.std.specs.List.{list_all}
use Rattle.fr_frame.specs.Fields.{Fields}
use Rattle.fr_judging.specs.Rules.{due_at}
use Rattle.fr_logged.specs.declared.due.Due.{Due}
use Rattle.fr_logged.specs.Rules.{is_zero}
use Rattle.fr_schedule.specs.Descriptions.{Description}
use Rattle.fr_slots.specs.declared.channel.Channel.{Channel}
use Rattle.fr_slots.specs.Faults.{minislots_filled}
use Rattle.fr_slots.specs.Parameters.{Parameters}

-- ---- a place in a cycle

-- The cycle count, and the slot of the last frame that was heard in the cycle, or 0. Then the dynamic slot that follows
-- the dynamic frames so far, and the minislot at which it begins.
pub record Spot : Type 0 where
  pub cycle : ℕ
  pub last : ℕ
  pub slot : ℕ
  pub minislot : ℕ

-- before the first frame of a cycle
abbrev pub cycle_start : Parameters → ℕ → Spot
cycle_start p cycle = record { cycle = cycle; last = 0; slot = p.static_slots + 1; minislot = 1 }

-- each silent slot in front of the frame's takes a minislot
abbrev pub begins_at : Spot → Fields → ℕ
begins_at s f = s.minislot + (f.id - s.slot)

-- a frame takes its minislots and the idle ones after it
abbrev pub after_dynamic : Parameters → Spot → Fields → Spot
after_dynamic p s f = record {
  cycle = s.cycle;
  last = f.id;
  slot = f.id + 1;
  minislot = begins_at s f + minislots_filled p (length f.payload / 2) + p.idle;
}

abbrev pub after_frame : Parameters → Spot → Fields → Spot
after_frame p s f = if nat_le f.id p.static_slots then record s { last = f.id } else after_dynamic p s f

-- ---- the frame of a slot

-- a null frame has no payload preamble, and a payload of zeros
pub record IsNull (f : Fields) : Type 0 where
  pub no_preamble : f.preamble ≡ false
  pub zeros : list_all is_zero f.payload ≡ true

-- data come from the owner's transmit buffer
abbrev pub HasContent : Due → Fields → Bool → Type 0
HasContent d f true = d.preamble ≡ Some f.preamble
HasContent d f false = IsNull f

-- the frame that the owner of a static slot sends in it
pub record IsOwners (d : Due) (f : Fields) : Type 0 where
  pub words : length f.payload ≡ 2 * d.words
  pub sync : d.sync ≡ f.sync
  pub startup : d.startup ≡ f.startup
  pub content : HasContent d f f.has_data

-- the frame of a dynamic transmit buffer, which begins by its node's latest minislot
pub record IsDynamic (p : Parameters) (d : Due) (s : Spot) (f : Fields) : Type 0 where
  pub has_data : f.has_data ≡ true
  pub no_sync : f.sync ≡ false
  pub no_startup : f.startup ≡ false
  pub words : length f.payload ≡ 2 * d.words
  pub preamble : d.preamble ≡ Some f.preamble
  pub some_minislot : 1 ≤ p.minislots
  pub within : begins_at s f ≤ p.minislots
  pub in_time : begins_at s f ≤ d.latest

abbrev pub IsAllowedAs : Parameters → Due → Spot → Fields → Bool → Type 0
IsAllowedAs p d s f true = IsOwners d f
IsAllowedAs p d s f false = IsDynamic p d s f

-- the cluster allows the frame at this place
pub record IsAllowed (d : Description) (channel : Channel) (s : Spot) (f : Fields) : Type 0 where
  pub slot_is : 1 ≤ f.id
  pub count_fits : f.cycle < 64
  pub due : Due
  pub due_is : due_at d f.id channel f.cycle ≡ Some due
  pub allowed : IsAllowedAs d.params due s f (nat_le f.id d.params.static_slots)

-- ---- the frames of a channel

-- no static slot from one on, and before another, has an owner on the channel in the cycle
abbrev pub AreFree : Description → Channel → ℕ → ℕ → ℕ → Type 0
AreFree d channel cycle from end = (k : ℕ) → from ≤ k → k < end → due_at d k channel cycle ≡ None

abbrev pub static_end : Description → ℕ
static_end d = d.params.static_slots + 1

-- the first frame of a cycle
pub record IsFirst (d : Description) (channel : Channel) (f : Fields) : Type 0 where
  pub free : AreFree d channel f.cycle 1 (min f.id (static_end d))
  pub allowed : IsAllowed d channel (cycle_start d.params f.cycle) f

-- a further frame of the same cycle
pub record IsFurther (d : Description) (channel : Channel) (s : Spot) (f : Fields) : Type 0 where
  pub same_cycle : f.cycle ≡ s.cycle
  pub later : s.last < f.id
  pub free : AreFree d channel f.cycle (s.last + 1) (min f.id (static_end d))
  pub allowed : IsAllowed d channel s f

-- no owner sends in the rest of the cycle
abbrev pub IsOver : Description → Channel → Spot → Type 0
IsOver d channel s = AreFree d channel s.cycle (s.last + 1) (static_end d)

-- the first frame of the next cycle
pub record IsNext (d : Description) (channel : Channel) (s : Spot) (f : Fields) : Type 0 where
  pub next_cycle : f.cycle ≡ (s.cycle + 1) % 64
  pub over : IsOver d channel s
  pub first : IsFirst d channel f

-- the frames after a place, up to the end of a cycle
abbrev pub FollowOn : Description → Channel → Spot → List Fields → Type 0
FollowOn d channel s [] = IsOver d channel s
FollowOn d channel s (f ∷ fs) =
    (IsFurther d channel s f × FollowOn d channel (after_frame d.params s f) fs)
    ⊎ (IsNext d channel s f × FollowOn d channel (after_frame d.params (cycle_start d.params f.cycle) f) fs)

-- some whole cycles of a channel, from any cycle count on
abbrev pub AreHeard : Description → Channel → List Fields → Type 0
AreHeard d channel [] = Unit {0}
AreHeard d channel (f ∷ fs) =
    IsFirst d channel f × FollowOn d channel (after_frame d.params (cycle_start d.params f.cycle) f) fs
