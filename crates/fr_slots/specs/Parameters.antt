-- The ten parameters of a cluster, their ranges, and their sum.
use Rattle.std.specs.Prelude.{◌≡◌, ℕ, ◌+◌, ◌*◌, ◌≤◌, ◌==◌, nat_le, ℤ, pos, Bool, ◌&&◌, List, codes, slice_index_or}
use Rattle.std.specs.Prelude.{Result, Ok, Err, if◌then◌else◌}
use Rattle.std.specs.Int.Signed.{le_z}
use Rattle.fr_slots.specs.declared.params.Key.{Key}
use Rattle.fr_slots.specs.declared.params.Key.TheVariants.{StaticSlots, Minislots, StaticWords, StaticMt, MinislotMt}
use Rattle.fr_slots.specs.declared.params.Key.TheVariants.{SymbolMt, NitMt, CycleMt, Idle, WordsPerMinislot}
use Rattle.fr_slots.specs.declared.params.RangeError.{RangeError}
use Rattle.fr_slots.specs.declared.params.RangeError.TheVariants.{OutOfRange, CycleSum}
use Rattle.fr_slots.specs.Numbers.{last_static_slot, last_minislot, most_words}

pub record Parameters : Type 0 where
  pub static_slots : ℕ
  pub minislots : ℕ
  pub static_words : ℕ
  pub static_mt : ℕ
  pub minislot_mt : ℕ
  pub symbol_mt : ℕ
  pub nit_mt : ℕ
  pub cycle_mt : ℕ
  pub idle : ℕ
  pub words_per_minislot : ℕ

-- ---- the keys, as cluster files name them

abbrev pub name_of : Key → List ℕ
name_of StaticSlots = codes "static_slots"
name_of Minislots = codes "minislots"
name_of StaticWords = codes "static_words"
name_of StaticMt = codes "static_mt"
name_of MinislotMt = codes "minislot_mt"
name_of SymbolMt = codes "symbol_mt"
name_of NitMt = codes "nit_mt"
name_of CycleMt = codes "cycle_mt"
name_of Idle = codes "idle"
name_of WordsPerMinislot = codes "words_per_minislot"

-- ---- the ranges

abbrev pub least_of : Key → ℕ
least_of StaticSlots = 2
least_of Minislots = 0
least_of StaticWords = 0
least_of StaticMt = 1
least_of MinislotMt = 1
least_of SymbolMt = 0
least_of NitMt = 1
least_of CycleMt = 4
least_of Idle = 0
least_of WordsPerMinislot = 1

abbrev pub greatest_of : Key → ℕ
greatest_of StaticSlots = last_static_slot
greatest_of Minislots = last_minislot
greatest_of StaticWords = most_words
greatest_of StaticMt = 1000
greatest_of MinislotMt = 100
greatest_of SymbolMt = 1000
greatest_of NitMt = 1000
greatest_of CycleMt = 20000
greatest_of Idle = 2
greatest_of WordsPerMinislot = most_words

-- the number is in the key's range
abbrev pub admits : Key → ℤ → Bool
admits key number = le_z (pos (least_of key)) number && le_z number (pos (greatest_of key))

-- the number under a key is in its range
pub record IsWithin (key : Key) (n : ℕ) : Type 0 where
  pub from_least : least_of key ≤ n
  pub at_most : n ≤ greatest_of key

-- ---- the sum: static segment, dynamic segment, symbol window and network idle time fill the cycle (project-defined)

abbrev pub macroticks_of : Parameters → ℕ
macroticks_of p = p.static_slots * p.static_mt + p.minislots * p.minislot_mt + p.symbol_mt + p.nit_mt

-- parameters that a cluster may have
pub record IsParameters (p : Parameters) : Type 0 where
  pub static_slots_fit : IsWithin StaticSlots p.static_slots
  pub minislots_fit : IsWithin Minislots p.minislots
  pub static_words_fit : IsWithin StaticWords p.static_words
  pub static_mt_fit : IsWithin StaticMt p.static_mt
  pub minislot_mt_fit : IsWithin MinislotMt p.minislot_mt
  pub symbol_mt_fit : IsWithin SymbolMt p.symbol_mt
  pub nit_mt_fit : IsWithin NitMt p.nit_mt
  pub cycle_mt_fit : IsWithin CycleMt p.cycle_mt
  pub idle_fit : IsWithin Idle p.idle
  pub words_per_minislot_fit : IsWithin WordsPerMinislot p.words_per_minislot
  pub fills_the_cycle : macroticks_of p ≡ p.cycle_mt

-- ---- static slots

-- the static slots come first (chapter 5)
abbrev pub is_static_slot : Parameters → ℕ → Bool
is_static_slot p slot = nat_le slot p.static_slots

-- ---- ten numbers as parameters

-- the number, if it isn't negative
abbrev pub unsigned : ℤ → ℕ
unsigned (pos n) = n
unsigned z = 0

-- the number under the key, or the key if the number is out of its range
unfoldable pub number_at : Key → ℤ → Result ℕ RangeError
number_at key number = if admits key number then Ok (unsigned number) else Err (OutOfRange key)

infixl 10 ◌>>=◌
abbrev pub ◌>>=◌ : {A B : Type 0} → Result A RangeError → (A → Result B RangeError) → Result B RangeError
(Ok x) >>= f = f x
(Err e) >>= f = Err e

-- the parameters, if their parts fill the cycle
abbrev pub summed : Parameters → Result Parameters RangeError
summed p = if macroticks_of p == p.cycle_mt then Ok p else Err CycleSum

-- the numbers under the first five keys, and under the other five
abbrev pub Five : Type 0
Five = ℕ × ℕ × ℕ × ℕ × ℕ

unfoldable pub first_five : List ℤ → Result Five RangeError
first_five numbers = do
  static_slots ← number_at StaticSlots (slice_index_or numbers 0 (pos 0))
  minislots ← number_at Minislots (slice_index_or numbers 1 (pos 0))
  static_words ← number_at StaticWords (slice_index_or numbers 2 (pos 0))
  static_mt ← number_at StaticMt (slice_index_or numbers 3 (pos 0))
  minislot_mt ← number_at MinislotMt (slice_index_or numbers 4 (pos 0))
  Ok (static_slots, minislots, static_words, static_mt, minislot_mt)

unfoldable pub last_five : List ℤ → Result Five RangeError
last_five numbers = do
  symbol_mt ← number_at SymbolMt (slice_index_or numbers 5 (pos 0))
  nit_mt ← number_at NitMt (slice_index_or numbers 6 (pos 0))
  cycle_mt ← number_at CycleMt (slice_index_or numbers 7 (pos 0))
  idle ← number_at Idle (slice_index_or numbers 8 (pos 0))
  words_per_minislot ← number_at WordsPerMinislot (slice_index_or numbers 9 (pos 0))
  Ok (symbol_mt, nit_mt, cycle_mt, idle, words_per_minislot)

pub record AreFirst (n : Five) : Type 0 where
  pub static_slots_fit : IsWithin StaticSlots n.0
  pub minislots_fit : IsWithin Minislots n.1
  pub static_words_fit : IsWithin StaticWords n.2
  pub static_mt_fit : IsWithin StaticMt n.3
  pub minislot_mt_fit : IsWithin MinislotMt n.4

pub record AreLast (n : Five) : Type 0 where
  pub symbol_mt_fit : IsWithin SymbolMt n.0
  pub nit_mt_fit : IsWithin NitMt n.1
  pub cycle_mt_fit : IsWithin CycleMt n.2
  pub idle_fit : IsWithin Idle n.3
  pub words_per_minislot_fit : IsWithin WordsPerMinislot n.4

abbrev pub assembled : Five → Five → Parameters
assembled a b = record {
  static_slots = a.0;
  minislots = a.1;
  static_words = a.2;
  static_mt = a.3;
  minislot_mt = a.4;
  symbol_mt = b.0;
  nit_mt = b.1;
  cycle_mt = b.2;
  idle = b.3;
  words_per_minislot = b.4;
}

-- The parameters with these numbers, in the order of the keys. The first key whose number is out of range is reported,
-- then the sum.
unfoldable pub parameters_of : List ℤ → Result Parameters RangeError
parameters_of numbers = do
  first ← first_five numbers
  last ← last_five numbers
  summed (assembled first last)
