-- The rows of a parse have the words of the entered command.
use Rattle.std.proofs.Common.{◌≡◌, List, Option, Some, None, option_map, refl, ap, ap₂, ◌&&◌, codes, is_some}
use Rattle.std.specs.Prelude.{option_and_then}
use Rattle.clap.specs.Words.{Row, Text, first_of}
use Rattle.fr_cli.specs.Commands.{cycles_in, has_long_run_by, has_run_by, most_in, word_in}

-- the words of a command whose rows are known
pub word_of_rows : (entered : Option (Text × List Row)) (rows : List Row) (id : Text)
    → option_map (λ p. p.1) entered ≡ Some rows → word_in entered id ≡ first_of id rows
word_of_rows None rows id are = cc are
word_of_rows (Some (name, entered)) rows id are = let is : entered ≡ rows = cc are in rw is refl

-- two ways to the same words name a run alike
pub has_run_alike : (f g : Text → Option Text) → ((id : Text) → f id ≡ g id) → has_run_by f ≡ has_run_by g
has_run_alike f g same =
    ap₂ (λ a b. a && b)
    (ap₂ (λ a b. a && b) (ap is_some (same (codes "FILE"))) (ap is_some (same (codes "SCENARIO"))))
    (ap (λ w. is_some (option_and_then cycles_in w)) (same (codes "cycles")))

-- the same for a run without history
pub has_long_run_alike : (f g : Text → Option Text) → ((id : Text) → f id ≡ g id)
    → has_long_run_by f ≡ has_long_run_by g
has_long_run_alike f g same =
    ap₂ (λ a b. a && b)
    (ap₂ (λ a b. a && b) (ap is_some (same (codes "FILE"))) (ap is_some (same (codes "SCENARIO"))))
    (ap (λ w. is_some (option_and_then most_in w)) (same (codes "cycles")))
