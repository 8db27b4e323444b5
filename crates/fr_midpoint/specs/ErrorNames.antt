-- The printed names of refusals (project-defined).
use Rattle.std.specs.Prelude.{ℕ, List, codes}
use Rattle.fr_midpoint.specs.declared.ranks.MidpointError.{MidpointError}
use Rattle.fr_midpoint.specs.declared.ranks.MidpointError.TheVariants as error

abbrev pub midpoint_error_name : MidpointError → List ℕ
midpoint_error_name error.TooMany = codes "TooMany"
midpoint_error_name error.TooLarge = codes "TooLarge"
