-- The printed text of an error of a scenario file (project-defined).
use Rattle.std.specs.Prelude.{ℕ, List}
use Rattle.fr_files.specs.ErrorNames.{bench_error_text}
use Rattle.fr_outcome.specs.declared.file_error.FileError.{FileError}
use Rattle.fr_outcome.specs.declared.file_error.FileError.TheVariants as file
use Rattle.fr_scenario.specs.ErrorNames.{scenario_error_text}

abbrev pub file_error_text : FileError → List ℕ
file_error_text (file.Text e) = bench_error_text e
file_error_text (file.Scenario e) = scenario_error_text e
