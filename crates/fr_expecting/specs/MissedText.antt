-- The text of a missed expectation (project-defined).
use Rattle.std.specs.Prelude.{ℕ, ◌-◌, ◌==◌, nat_le, List, [], ◌++◌, codes, Option, Some, None, if◌then◌else◌}
use Rattle.std.specs.Fmt.{decimal}
use Rattle.fr_expecting.specs.declared.missed.Found.{Found}
use Rattle.fr_expecting.specs.declared.missed.Found.TheVariants.{NoBuffer, Nothing, Data}
use Rattle.fr_expecting.specs.declared.missed.Missed.{Missed}
use Rattle.fr_text.specs.Spelling.{hex_text}

abbrev pub wanted_text : Option (List ℕ) → List ℕ
wanted_text None = codes "nothing"
wanted_text (Some payload) = hex_text payload

abbrev pub found_text : Found → List ℕ
found_text NoBuffer = codes "no receive buffer"
found_text Nothing = codes "nothing"
found_text (Data payload) = hex_text payload

-- the cycles beside the first that missed it, of so many
abbrev pub others_text : ℕ → List ℕ
others_text count =
    if nat_le count 1 then []
    else if count == 2 then codes " (and in 1 other cycle)"
    else codes " (and in " ++ decimal (count - 1) ++ codes " other cycles)"

abbrev pub place_text : Missed → List ℕ
place_text m = codes "line " ++ decimal m.line ++ codes ": node " ++ decimal m.node ++ codes " buffer "
    ++ decimal m.buffer ++ codes " at the end of cycle " ++ decimal m.cycle

-- the place, and the content that was expected there
unfoldable pub expected_text : Missed → List ℕ
expected_text m = place_text m ++ codes ": expected " ++ wanted_text m.wanted

-- one line, without its line feed
abbrev pub missed_text : Missed → List ℕ
missed_text m = expected_text m ++ codes ", found " ++ found_text m.found ++ others_text m.count
