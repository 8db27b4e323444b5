-- The rows of a channel's dynamic segment in one cycle. Each slot that opens there has a row, whose length follows from
-- its longest transmission (chapter 5; lengths and the last slot are project-defined).
use Rattle.std.specs.Prelude.{◌≡◌, ℕ, ◌+◌, ◌*◌, ◌==◌, nat_le, Bool, true, ◌&&◌, List, [], length, sum_by, Option, Some}
use Rattle.std.specs.Prelude.{None, if◌then◌else◌}
use Rattle.std.specs.Int.{div_ceil}
use Rattle.fr_slots.specs.History.{AllAfter}
use Rattle.fr_slots.specs.Parameters.{Parameters}

abbrev pub last_slot : ℕ
last_slot = 2047

-- the minislots that so many bytes fill, without those that stay idle after them
abbrev pub minislots_filled_by : Parameters → ℕ → ℕ
minislots_filled_by p bytes = div_ceil bytes (2 * p.words_per_minislot)

-- the minislots of a row whose longest transmission has so many bytes; 0 bytes mean silence
abbrev pub row_length : Parameters → ℕ → ℕ
row_length p bytes = if bytes == 0 then 1 else minislots_filled_by p bytes + p.idle

-- the row after the rows of these byte counts: its first minislot, counted from 1, and its slot
abbrev pub first_minislot : Parameters → List ℕ → ℕ
first_minislot p counts = 1 + sum_by (row_length p) counts

abbrev pub slot_after : Parameters → List ℕ → ℕ
slot_after p counts = p.static_slots + 1 + length counts

-- a row of this slot and first minislot exists, if all rows before it do
abbrev pub is_row : Parameters → ℕ → ℕ → Bool
is_row p slot begins = nat_le begins p.minislots && nat_le slot last_slot

abbrev pub has_row_after : Parameters → List ℕ → Bool
has_row_after p counts = is_row p (slot_after p counts) (first_minislot p counts)

-- each of the rows of these byte counts exists
abbrev pub AreRows : Parameters → List ℕ → Type 0
AreRows p counts = AllAfter (λ before count. has_row_after p before ≡ true) [] counts

-- the slot that the row after these opens at a minislot: its own at its first minislot, and none at any other
abbrev pub opened_after : Parameters → List ℕ → ℕ → Option ℕ
opened_after p counts minislot =
    if has_row_after p counts && first_minislot p counts == minislot then Some (slot_after p counts) else None
