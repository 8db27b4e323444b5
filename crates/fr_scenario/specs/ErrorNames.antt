-- The printed text of an error (project-defined).
use Rattle.std.specs.Prelude.{ℕ, List, codes, ◌++◌}
use Rattle.std.specs.Fmt.{decimal}
use Rattle.fr_scenario.specs.declared.error.ScenarioError.{ScenarioError}
use Rattle.fr_scenario.specs.declared.error.ScenarioError.TheVariants as error

-- the number of the line at fault follows the name
abbrev pub scenario_error_text : ScenarioError → List ℕ
scenario_error_text error.BadMagic = codes "BadMagic"
scenario_error_text (error.BadLine n) = codes "BadLine " ++ decimal n
scenario_error_text error.TooManyLines = codes "TooManyLines"
scenario_error_text error.TooManyCalls = codes "TooManyCalls"
scenario_error_text error.Truncated = codes "Truncated"
scenario_error_text error.Memory = codes "Memory"
