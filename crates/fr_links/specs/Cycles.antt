-- The cycles that two filters have in common (chapter 9).
use Rattle.std.specs.Prelude.{◌≡◌, ◌<◌, ℕ, nat_lt, ◌&&◌, Option, Some, None, if◌then◌else◌}
use Rattle.fr_slots.specs.Admission.{CycleClass, cycle_admitted}
use Rattle.fr_slots.specs.Faults.{first_common}
use Rattle.fr_slots.specs.Numbers.{cycle_count}

-- the third class has exactly the cycles that both others have
abbrev pub AreShared : CycleClass → CycleClass → CycleClass → Type 0
AreShared c d both = (cycle : ℕ) → cycle < cycle_count
    → cycle_admitted both cycle ≡ (cycle_admitted c cycle && cycle_admitted d cycle)

-- the class with the greater repetition, or the first one
abbrev pub rarer : CycleClass → CycleClass → CycleClass
rarer c d = if nat_lt c.repetition d.repetition then d else c

-- that class, if this is a cycle of both
abbrev pub rarer_if : CycleClass → CycleClass → Option ℕ → Option CycleClass
rarer_if c d None = None
rarer_if c d (Some cycle) = Some (rarer c d)

-- The class of the cycles that both have, if there is one. The repetitions are powers of two, so the class with the
-- greater one has only cycles of the other class, or none.
abbrev pub shared : CycleClass → CycleClass → Option CycleClass
shared c d = rarer_if c d (first_common c d)
