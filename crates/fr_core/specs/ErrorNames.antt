-- The printed text of an event's refusal (project-defined).
use Rattle.std.specs.Prelude.{ℕ, List, codes, ◌++◌}
use Rattle.fr_bus.specs.ErrorNames.{bus_error_name}
use Rattle.fr_core.specs.declared.error.StepError.{StepError}
use Rattle.fr_core.specs.declared.error.StepError.TheVariants as step
use Rattle.fr_interface.specs.ErrorNames.{host_error_name, slot_error_name}

-- a refusal of an interface or the bus follows its name
abbrev pub step_error_text : StepError → List ℕ
step_error_text step.UnknownNode = codes "UnknownNode"
step_error_text step.WrongTurn = codes "WrongTurn"
step_error_text (step.Host error) = codes "Host " ++ host_error_name error
step_error_text (step.Slot error) = codes "Slot " ++ slot_error_name error
step_error_text (step.Bus error) = codes "Bus " ++ bus_error_name error
