-- The values that are refused (project-defined).
use Rattle.std.specs.Prelude.{nat_lt, Bool, List, length, ℤ, Option, Some, None, if◌then◌else◌}
use Rattle.std.specs.Int.RustNames.{unsigned_abs}
use Rattle.std.specs.List.{list_any}
use Rattle.fr_midpoint.specs.declared.ranks.MidpointError.{MidpointError}
use Rattle.fr_midpoint.specs.declared.ranks.MidpointError.TheVariants.{TooMany, TooLarge}

-- the value is more than 1,000,000 from 0
abbrev pub is_large : ℤ → Bool
is_large value = nat_lt 1000000 (unsigned_abs value)

abbrev pub refusal : List ℤ → Option MidpointError
refusal values =
    if nat_lt 15 (length values) then Some TooMany
    else if list_any is_large values then Some TooLarge
    else None
