-- The line `node` of a text of version 4, which gives any room that the numbers of entries allow.
use Rattle.std.specs.Prelude.{ℕ, ◌+◌, nat_le, ◌&&◌, List, [], ◌∷◌, codes, Option, Some, None, if◌then◌else◌}
use Rattle.std.specs.Result.{result_ok}
use Rattle.std.specs.Str.{bytes_eq}
use Rattle.fr_slots.specs.Numbers.{last_host_limit, last_slot_limit}
use Rattle.fr_slots.specs.Plans.{Plan, plan_of, with_limits}
use Rattle.fr_text.specs.Reading.{◌>>=◌, number_in}

-- the plan with this room, if a call of the host and a window have room
abbrev pub with_room : ℕ → ℕ → Plan → Option Plan
with_room host slot plan = if nat_le 1 host && nat_le 2 slot then Some (with_limits plan host slot) else None

-- five numbers; the plan has the smallest room first, and then that of the last two
unfoldable pub long_limits_in : List (List ℕ) → Option Plan
long_limits_in (tasks ∷ latest_a ∷ latest_b ∷ host_entries ∷ slot_entries ∷ []) = do
  t ← number_in 9 tasks
  a ← number_in 8001 latest_a
  b ← number_in 8001 latest_b
  h ← number_in (last_host_limit + 1) host_entries
  s ← number_in (last_slot_limit + 1) slot_entries
  plan ← result_ok (plan_of t a b 1 2)
  with_room h s plan
long_limits_in words = None

unfoldable pub long_node_in : List (List ℕ) → Option Plan
long_node_in [] = None
long_node_in (kind ∷ words) = if bytes_eq kind (codes "node") then long_limits_in words else None
