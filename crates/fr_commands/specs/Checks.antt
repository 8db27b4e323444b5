-- The commands `check` and `plan` on a whole cluster file.
use Rattle.std.specs.Prelude.{ℕ, List, Option, Result}
use Rattle.std.specs.Io.KnownBytes.{Appends}
use Rattle.fr_files.specs.ClusterFiles.{Tells}
use Rattle.fr_commands.specs.PlanText.{IsPlanText, Adds}
use Rattle.fr_files.specs.declared.error.BenchError.{BenchError}
use Rattle.fr_lines.specs.Spelling.{line_text, params_words}
use Rattle.fr_schedule.specs.Descriptions.{Description}

-- the line of the cluster's parameters
abbrev pub HasParamsLine : Description → Option (List ℕ) → Option (List ℕ) → Type 0
HasParamsLine d old new = Appends old new (line_text (params_words d.params))

abbrev pub Checks : List ℕ → Option (List ℕ) → Option (List ℕ) → Result (Unit {0}) BenchError → Type 0
Checks = Tells HasParamsLine

-- the cluster's sender table and guardian's intervals
abbrev pub HasPlan : Description → Option (List ℕ) → Option (List ℕ) → Type 0
HasPlan d old new = Adds (IsPlanText d) old new

abbrev pub Plans : List ℕ → Option (List ℕ) → Option (List ℕ) → Result (Unit {0}) BenchError → Type 0
Plans = Tells HasPlan
