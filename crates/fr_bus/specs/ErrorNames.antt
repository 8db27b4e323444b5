-- The printed names of a bus's refusals (project-defined).
use Rattle.std.specs.Prelude.{ℕ, List, codes}
use Rattle.fr_bus.specs.declared.error.BusError.{BusError}
use Rattle.fr_bus.specs.declared.error.BusError.TheVariants as bus

abbrev pub bus_error_name : BusError → List ℕ
bus_error_name bus.UnknownNode = codes "UnknownNode"
bus_error_name bus.NotCollecting = codes "NotCollecting"
bus_error_name bus.WrongWindow = codes "WrongWindow"
bus_error_name bus.AlreadyPut = codes "AlreadyPut"
bus_error_name bus.TooManyFaults = codes "TooManyFaults"
bus_error_name bus.NotAllPut = codes "NotAllPut"
bus_error_name bus.NotSealed = codes "NotSealed"
bus_error_name bus.AlreadyTaken = codes "AlreadyTaken"
bus_error_name bus.NotAllTaken = codes "NotAllTaken"
bus_error_name bus.BadCycles = codes "BadCycles"
bus_error_name bus.Memory = codes "Memory"
