-- The windows that have nothing of a buffer, as their slots tell. `Openings` has the meaning.
use Rattle.std.specs.Prelude.{ℕ, ◌==◌, ◌||◌, not, Bool, false, Option, Some, None}
use Rattle.fr_openings.specs.declared.openings.LastSlots.{LastSlots}
use Rattle.fr_slots.specs.Windows.{Opportunity, opens_cycle}

-- the channel opens the slot
abbrev pub opens : Option ℕ → ℕ → Bool
opens None slot = false
opens (Some opened) slot = slot == opened

-- the window is the first of its cycle, or a channel opens its last slot in it
abbrev pub is_told : Opportunity → LastSlots → Bool
is_told w last = (opens_cycle w || last.a) || last.b

abbrev pub is_aside : Opportunity → LastSlots → ℕ → Bool
is_aside w last slot = not ((is_told w last || opens w.a slot) || opens w.b slot)
