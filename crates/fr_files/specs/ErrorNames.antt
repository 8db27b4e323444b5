-- The printed text of an error (project-defined).
use Rattle.std.specs.Prelude.{ℕ, List, ◌++◌, codes}
use Rattle.std.specs.Fmt.{decimal}
use Rattle.fr_files.specs.declared.error.BenchError.{BenchError}
use Rattle.fr_files.specs.declared.error.BenchError.TheVariants as error
use Rattle.fr_midpoint.specs.ErrorNames.{midpoint_error_name}
use Rattle.fr_params.specs.declared.error.ParamError.{ParamError}
use Rattle.fr_params.specs.declared.error.ParamError.TheVariants as param
use Rattle.fr_schedule.specs.declared.error.ConfigError.{ConfigError}
use Rattle.fr_schedule.specs.declared.error.ConfigError.TheVariants as config
use Rattle.fr_slots.specs.Admission.{letter_of}
use Rattle.fr_slots.specs.Parameters.{name_of}

-- the name of the key at fault follows
abbrev pub param_error_text : ParamError → List ℕ
param_error_text (param.Missing key) = codes "Missing " ++ name_of key
param_error_text (param.NotANumber key) = codes "NotANumber " ++ name_of key
param_error_text (param.OutOfRange key) = codes "OutOfRange " ++ name_of key
param_error_text param.CycleSum = codes "CycleSum"

-- the numbers of node and buffer, or slot, channel and cycle follow
abbrev pub config_error_text : ConfigError → List ℕ
config_error_text config.Toml = codes "Toml"
config_error_text (config.Params e) = codes "Params " ++ param_error_text e
config_error_text config.BadGuard = codes "BadGuard"
config_error_text config.TooManyNodes = codes "TooManyNodes"
config_error_text (config.BadNode node) = codes "BadNode " ++ decimal node
config_error_text (config.BadBuffer node buffer) = codes "BadBuffer " ++ decimal node ++ codes " " ++ decimal buffer
config_error_text (config.NotOwned node buffer) = codes "NotOwned " ++ decimal node ++ codes " " ++ decimal buffer
config_error_text (config.DynamicBoth node buffer) =
    codes "DynamicBoth " ++ decimal node ++ codes " " ++ decimal buffer
config_error_text (config.Overlap slot channel cycle) =
    codes "Overlap " ++ decimal slot ++ codes " " ++ letter_of channel ++ codes " " ++ decimal cycle
config_error_text (config.TooLong node buffer) = codes "TooLong " ++ decimal node ++ codes " " ++ decimal buffer
config_error_text config.Memory = codes "Memory"

abbrev pub bench_error_text : BenchError → List ℕ
bench_error_text error.TooLong = codes "TooLong"
bench_error_text error.Read = codes "Read"
bench_error_text error.Write = codes "Write"
bench_error_text error.Memory = codes "Memory"
bench_error_text error.BadNumber = codes "BadNumber"
bench_error_text (error.Config e) = config_error_text e
bench_error_text (error.Midpoint e) = midpoint_error_name e
