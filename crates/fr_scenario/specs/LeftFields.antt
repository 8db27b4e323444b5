-- The lines that a text has left.
use Rattle.std.specs.Prelude.{ℕ, List}
use Rattle.fr_scenario.specs.declared.left.Left.TheInside.{Inside}
use Rattle.fr_scenario.specs.Reading.{lines_in}

abbrev pub left_of : Inside → List (List ℕ)
left_of left = lines_in left.rest.now
