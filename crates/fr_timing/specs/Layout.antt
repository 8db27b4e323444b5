-- The layout of a cycle (chapter 5). The static slots, the minislots of the dynamic segment, the symbol window and the
-- network idle time follow one another. All numbers are macroticks, counted from 0 at the start of the cycle.
use Rattle.std.specs.Prelude.{◌≡◌, ℕ, ◌+◌, ◌<◌, List, [], ◌∷◌, ◌++◌, map, Contains}
use Rattle.std.specs.List.{range_with_len}
use Rattle.fr_slots.specs.Parameters.{Parameters}
use Rattle.fr_timing.specs.declared.place.Place.{Place}
use Rattle.fr_timing.specs.declared.place.Place.TheVariants.{Static, Minislot, Symbol, Idle}

-- ---- the parts of a cycle

-- a part of a cycle; static slots and minislots are numbered from 1
pub data Part : Type 0 where
  static_slot : ℕ → Part
  minislot : ℕ → Part
  symbol_window : Part
  idle_time : Part

-- a part with its length
pub record Stretch : Type 0 where
  pub part : Part
  pub length : ℕ

-- the parts of the same kind that have these numbers, all of one length
abbrev pub numbered : (ℕ → Part) → ℕ → List ℕ → List Stretch
numbered part length numbers = map (λ number. record { part = part number; length = length }) numbers

-- the parts in their order
abbrev pub stretches : Parameters → List Stretch
stretches p =
    numbered static_slot p.static_mt (range_with_len 1 p.static_slots)
    ++ numbered minislot p.minislot_mt (range_with_len 1 p.minislots)
    ++ (record { part = symbol_window; length = p.symbol_mt } ∷ record { part = idle_time; length = p.nit_mt } ∷ [])

-- ---- the intervals

-- a part, from its first macrotick up to the one after its last
pub record Interval : Type 0 where
  pub part : Part
  pub start : ℕ
  pub end : ℕ

-- one after another: each starts at the end of the one before it
unfoldable pub laid_from : ℕ → List Stretch → List Interval
laid_from start [] = []
laid_from start (s ∷ rest) =
    record { part = s.part; start = start; end = start + s.length } ∷ laid_from (start + s.length) rest

unfoldable pub layout : Parameters → List Interval
layout p = laid_from 0 (stretches p)

-- ---- places

abbrev pub part_of : Place → Part
part_of (Static slot offset) = static_slot slot
part_of (Minislot number offset) = minislot number
part_of (Symbol offset) = symbol_window
part_of (Idle offset) = idle_time

abbrev pub offset_of : Place → ℕ
offset_of (Static slot offset) = offset
offset_of (Minislot number offset) = offset
offset_of (Symbol offset) = offset
offset_of (Idle offset) = offset

-- The macrotick is at the place: it lies in the interval of the place's part, at the place's offset from the start.
pub record IsAt (p : Parameters) (macrotick : ℕ) (place : Place) : Type 0 where
  pub interval : Interval
  pub of_layout : Contains (layout p) interval
  pub of_part : interval.part ≡ part_of place
  pub from_start : interval.start + offset_of place ≡ macrotick
  pub before_end : macrotick < interval.end
