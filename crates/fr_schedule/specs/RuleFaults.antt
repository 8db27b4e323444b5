-- The fault by each rule of the code in a node, and the fault of an occasion that two lines or two buffers share.
use Rattle.std.specs.Prelude.{ℕ, Option}
use Rattle.fr_slots.specs.Parameters.{Parameters}
use Rattle.fr_slots.specs.Plans.{Plan}
use Rattle.fr_schedule.specs.declared.error.ConfigError.{ConfigError}
use Rattle.fr_schedule.specs.declared.faults.Rule.{Rule}
use Rattle.fr_schedule.specs.declared.faults.Rule.TheVariants.{Owned, OneChannel, EndsInTime}
use Rattle.fr_schedule.specs.declared.error.ConfigError.TheVariants.{Overlap}
use Rattle.fr_slots.specs.declared.sharing.Occasion.{Occasion}
use Rattle.fr_schedule.specs.FileFaults.{not_owned_in, dynamic_both_in, too_long_in}

abbrev pub fault_by : Rule → Parameters → ℕ → Plan → Option ConfigError
fault_by Owned = not_owned_in
fault_by OneChannel = dynamic_both_in
fault_by EndsInTime = too_long_in

abbrev pub overlap_fault : Occasion → ConfigError
overlap_fault o = Overlap o.slot o.channel o.cycle
