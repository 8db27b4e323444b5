-- The words of a record (project-defined).
use Rattle.std.specs.Prelude.{ℕ, Bool, true, false, List, codes}
use Rattle.fr_bus.specs.declared.outcome.SentFate.{SentFate}
use Rattle.fr_bus.specs.declared.outcome.SentFate.TheVariants.{Passed, Blocked, Muted}

abbrev pub kind_word : Bool → List ℕ
kind_word true = codes "babble"
kind_word false = codes "offer"

abbrev pub fate_word : SentFate → List ℕ
fate_word Passed = codes "passed"
fate_word Blocked = codes "blocked"
fate_word Muted = codes "muted"
