-- The rows of both channels of the small cycle: A is silent, and B sends four words of payload in its first slot.
use Rattle.std.proofs.Common.{◌≡◌, ℕ, false, [], ◌∷◌, replicate, Option, Some, None, refl}
use Rattle.fr_minislot.specs.DynamicRows.{row_length, opened_after, has_row_after}
use Rattle.fr_slots.specs.Parameters.{Parameters}

-- three static slots, ten minislots of four words, and one idle minislot after a transmission
abbrev small_cycle : Parameters
small_cycle = record {
  static_slots = 3;
  minislots = 10;
  static_words = 1;
  static_mt = 20;
  minislot_mt = 5;
  symbol_mt = 4;
  nit_mt = 6;
  cycle_mt = 120;
  idle = 1;
  words_per_minislot = 4;
}

-- four words of payload are sixteen bytes with header and trailer: two minislots and an idle one; silence takes one
pub lengths : (row_length small_cycle 16 ≡ 3) × (row_length small_cycle 0 ≡ 1)
lengths = (refl, refl)

abbrev opened_by_a : ℕ → ℕ → Option ℕ
opened_by_a closed minislot = opened_after small_cycle (replicate closed 0) minislot

-- A opens slots 4 to 13, one at each minislot
pub opened_in_silence : (opened_by_a 0 1 ≡ Some 4) × (opened_by_a 1 2 ≡ Some 5) × (opened_by_a 2 3 ≡ Some 6) ×
    (opened_by_a 3 4 ≡ Some 7) × (opened_by_a 9 10 ≡ Some 13)
opened_in_silence = (refl, refl, refl, refl, refl)

pub ended_in_silence : has_row_after small_cycle (replicate 10 0) ≡ false
ended_in_silence = refl

abbrev opened_by_b : ℕ → ℕ → Option ℕ
opened_by_b silent minislot = opened_after small_cycle (16 ∷ replicate silent 0) minislot

-- B opens slot 4 at minislot 1 too, none at 2 and 3, and then slots 5 to 11
pub opened_after_four_words : (opened_after small_cycle [] 1 ≡ Some 4) × (opened_by_b 0 2 ≡ None) ×
    (opened_by_b 0 3 ≡ None) × (opened_by_b 0 4 ≡ Some 5) × (opened_by_b 6 10 ≡ Some 11)
opened_after_four_words = (refl, refl, refl, refl, refl)

pub ended_after_four_words : has_row_after small_cycle (16 ∷ replicate 7 0) ≡ false
ended_after_four_words = refl
