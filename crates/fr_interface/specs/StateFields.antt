-- The fields of `InterfaceState` as kept data.
use Rattle.fr_interface.specs.declared.state.InterfaceState.TheInside.{Inside}
use Rattle.fr_interface.specs.Standing.{Standing, IsHistory}
use Rattle.fr_interface.specs.State.{State}

abbrev pub standing_in : Inside → Standing
standing_in i = record {
  params = i.params;
  plan = i.plan;
  host_limit = i.host_limit;
  slot_limit = i.slot_limit;
  hosts = i.hosts;
  slots = i.slots;
  cycles = i.cycles;
  opening = i.opening;
  transmit = i.transmit.items;
  receive = i.receive.items;
  queue = i.queue;
  counters = i.counters;
}

-- the data are those of some legal history
abbrev pub HasHistory : Inside → Type 0
HasHistory i = (s : State) × IsHistory (standing_in i) s
