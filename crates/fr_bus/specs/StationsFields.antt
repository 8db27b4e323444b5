-- The fields of `Stations` as their state.
use Rattle.std.specs.Prelude.{◌≡◌, ◌≤◌, List, length}
use Rattle.fr_bus.specs.declared.station.Stations.TheInside.{Inside}
use Rattle.fr_bus.specs.Stations.{Station, stations_of}

abbrev pub stations_in : Inside → List Station
stations_in s = stations_of s.put s.taken s.sides.items

-- there is a flag for each station
pub record HasRoom (s : Inside) : Type 0 where
  pub put_long : length s.put ≡ 16
  pub taken_long : length s.taken ≡ 16
  pub few : length s.sides.items ≤ 16
