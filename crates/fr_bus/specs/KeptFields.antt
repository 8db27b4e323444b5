-- The fields of `KeptBus` as kept data.
use Rattle.std.specs.Prelude.{◌≡◌, slice_index_or, None}
use Rattle.std.specs.List.{count_by}
use Rattle.fr_bus.specs.declared.kept.KeptBus.TheInside.{Inside}
use Rattle.fr_bus.specs.Standing.{BusStanding, IsBusHistory}
use Rattle.fr_bus.specs.States.{BusState, is_put, is_taken}

abbrev pub standing_in : Inside → BusStanding
standing_in c = record {
  cluster = c.guardian;
  cycles = c.cycles;
  phase = c.phase;
  opened = c.opened;
  stations = c.stations;
  corrupt_a = slice_index_or c.corrupt 0 None;
  corrupt_b = slice_index_or c.corrupt 1 None;
  course = c.course;
}

-- the data are those of some run, and the counts are the numbers of stations that have put and taken
pub record IsLawful (c : Inside) : Type 0 where
  pub bus : BusState
  pub run : IsBusHistory (standing_in c) bus
  pub put_count_is : c.put_count ≡ count_by is_put c.stations
  pub taken_count_is : c.taken_count ≡ count_by is_taken c.stations
