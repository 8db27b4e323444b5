-- The fields of `Bus` as its state.
use Rattle.std.specs.Prelude.{◌≤◌}
use Rattle.fr_bus.specs.declared.bus.Bus.TheInside.{Inside}
use Rattle.fr_bus.specs.Standing.{IsBusHistory, with_record}
use Rattle.fr_bus.specs.States.{BusState}

abbrev pub state_in : Inside → BusState
state_in b = with_record b.kept b.record.items

-- the record is that of a run with the kept data as its result, of at most 1024 cycles
pub record IsLawful (b : Inside) : Type 0 where
  pub run : IsBusHistory b.kept (state_in b)
  pub few_cycles : b.kept.cycles ≤ 1024
