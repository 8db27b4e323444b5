-- The printed names of refusals (project-defined).
use Rattle.std.specs.Prelude.{ℕ, List, codes}
use Rattle.fr_interface.specs.declared.errors.InterfaceError.{InterfaceError}
use Rattle.fr_interface.specs.declared.errors.InterfaceError.TheVariants as interface
use Rattle.fr_interface.specs.declared.errors.HostError.{HostError}
use Rattle.fr_interface.specs.declared.errors.HostError.TheVariants as host
use Rattle.fr_interface.specs.declared.errors.SlotError.{SlotError}
use Rattle.fr_interface.specs.declared.errors.SlotError.TheVariants as slot

abbrev pub interface_error_name : InterfaceError → List ℕ
interface_error_name interface.Memory = codes "Memory"

abbrev pub host_error_name : HostError → List ℕ
host_error_name host.UnknownTask = codes "UnknownTask"
host_error_name host.UnknownBuffer = codes "UnknownBuffer"
host_error_name host.NotTransmit = codes "NotTransmit"
host_error_name host.WrongLength = codes "WrongLength"
host_error_name host.HostFull = codes "HostFull"
host_error_name host.NotReceive = codes "NotReceive"
host_error_name host.NoQueue = codes "NoQueue"

abbrev pub slot_error_name : SlotError → List ℕ
slot_error_name slot.NotObserved = codes "NotObserved"
slot_error_name slot.WindowOrder = codes "WindowOrder"
slot_error_name slot.SlotFull = codes "SlotFull"
slot_error_name slot.NotFetched = codes "NotFetched"
slot_error_name slot.WrongWindow = codes "WrongWindow"
slot_error_name slot.BadWindow = codes "BadWindow"
