-- The view of a lane, and the results of its calls.
use Rattle.std.specs.Prelude.{◌≡◌, ℕ, ◌+◌, ◌==◌, nat_lt, not, ◌&&◌, List, Option, Some, None, if◌then◌else◌}
use Rattle.fr_minislot.specs.declared.lane.LaneError.{LaneError}
use Rattle.fr_minislot.specs.declared.lane.LaneError.TheVariants.{NothingOpen, TooLong}
use Rattle.fr_minislot.specs.DynamicRows.{first_minislot, slot_after, is_row, row_length, AreRows}
use Rattle.fr_slots.specs.Parameters.{Parameters}

-- the slot of the next row, and its first minislot
pub record Standing : Type 0 where
  pub params : Parameters
  pub slot : ℕ
  pub begins : ℕ

-- a lane whose rows have these byte counts
abbrev pub standing_after : Parameters → List ℕ → Standing
standing_after p counts = record { params = p; slot = slot_after p counts; begins = first_minislot p counts }

-- some rows, each of which exists, lead to it
pub record IsStanding (s : Standing) : Type 0 where
  pub counts : List ℕ
  pub are_rows : AreRows s.params counts
  pub stands : s ≡ standing_after s.params counts

abbrev pub opened_in : Standing → ℕ → Option ℕ
opened_in s minislot = if is_row s.params s.slot s.begins && s.begins == minislot then Some s.slot else None

-- the first minislot of the next row, if it exists
abbrev pub next_in : Standing → Option ℕ
next_in s = if is_row s.params s.slot s.begins then Some s.begins else None

abbrev pub close_refusal : Standing → ℕ → Option LaneError
close_refusal s bytes =
    if not (is_row s.params s.slot s.begins) then Some NothingOpen
    else if nat_lt 262 bytes then Some TooLong
    else None

abbrev pub closed : Standing → ℕ → Standing
closed s bytes = record { params = s.params; slot = s.slot + 1; begins = s.begins + row_length s.params bytes }
