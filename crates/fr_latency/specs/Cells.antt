-- The bits in which the code keeps the minislots at which slots can begin: a cell for each minislot from a first one
-- on, with a bit for each cycle.
use Rattle.std.specs.Prelude.{◌≡◌, ℕ, ◌+◌, ◌==◌, ◌<◌, ◌≤◌, Bool, false, ◌||◌, List, length, slice_index, bit_and}
use Rattle.std.specs.Prelude.{bit_or}
use Rattle.std.specs.Int.{bit_at}
use Rattle.fr_slots.specs.Admission.{CycleClass, cycle_admitted}
use Rattle.fr_slots.specs.Numbers.{cycle_count}

-- the bit of the cycle is set
abbrev pub has_bit : ℕ → ℕ → Bool
has_bit mask cycle = bit_at mask cycle == 1

-- the bits of these cycles are set
abbrev pub IsMask : CycleClass → ℕ → Type 0
IsMask cycles mask = (cycle : ℕ) → cycle < cycle_count → has_bit mask cycle ≡ cycle_admitted cycles cycle

-- the cells have the test's answers, the first cell those of this minislot
abbrev pub HasBits : ℕ → (ℕ → ℕ → Bool) → List ℕ → Type 0
HasBits first test cells =
    (index cycle : ℕ) → index < length cells → cycle < cycle_count
    → has_bit (slice_index cells index) cycle ≡ test cycle (first + index)

-- so many cells of the second list, under the mask, are added to those of the first list, from a place on
pub record IsAdded (from : List ℕ) (shift count mask : ℕ) (old new : List ℕ) : Type 0 where
  pub added : (index : ℕ) → index < count
      → slice_index new (index + shift) ≡ bit_or (slice_index old (index + shift)) (bit_and
      (slice_index from index) mask)
  pub below : (index : ℕ) → index < shift → slice_index new index ≡ slice_index old index
  pub above : (index : ℕ) → shift + count ≤ index → slice_index new index ≡ slice_index old index

-- ---- from one slot to the next

-- the answers of a test for each cycle and minislot
abbrev pub CycleTest : Type 0
CycleTest = ℕ → ℕ → Bool

-- nothing begins up to this minislot
abbrev pub BeginsAbove : ℕ → CycleTest → Type 0
BeginsAbove most test = (cycle minislot : ℕ) → minislot ≤ most → test cycle minislot ≡ false

-- Cells of the slot after so many dynamic slots get further minislots. `before` has the minislots of the slot before
-- it.
abbrev pub AddsTo : ℕ → (CycleTest → CycleTest) → List ℕ → List ℕ → List ℕ → Type 0
AddsTo earlier further before old new =
    (test kept : CycleTest) → BeginsAbove earlier test → HasBits (earlier + 1) test before
    → HasBits (earlier + 2) kept old
    → HasBits (earlier + 2) (λ cycle minislot. kept cycle minislot || further test cycle minislot) new
