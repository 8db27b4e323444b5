-- The headline promise, which holds for every world after any list of events (project-defined).
use Rattle.std.specs.Prelude.{◌≡◌}
use Rattle.std.specs.List.{All}
use Rattle.fr_bus.specs.States.{IsRun, OneSenderEach}
use Rattle.fr_core.specs.Accounts.{IsHarmless, AreAlike}
use Rattle.fr_core.specs.Agreement.{IsWorld}
use Rattle.fr_interface.specs.Commits.{AreAccounted}
use Rattle.fr_core.specs.Receivers.{Receivers}
use Rattle.fr_core.specs.Worlds.{WorldState}
use Rattle.fr_interface.specs.State.{IsLegalInterface}

pub record Headline (w : WorldState) : Type 0 where
  -- each interface's journal is legal, so its buffers, receive FIFO and counters are those that its journal gives
  pub legal : All IsLegalInterface w.interfaces
  -- each of its commits is sent, overwritten, withdrawn or pending
  pub accounted : All AreAccounted w.interfaces
  -- the record is that of a run of the cluster
  pub run : IsRun w.bus
  -- each guarded static slot carries at most one sender
  pub one_sender : OneSenderEach w.bus.cluster w.bus.sealed
  -- the interfaces are those of the cluster's nodes, and all journals agree with the record, except for at most one
  -- step that each controller carries
  pub agrees : IsWorld w
  -- a frame that a receiver holds from a fault-free slot is one that the slot's owner committed
  pub receivers : Receivers w.bus.cluster w.interfaces w.bus.sealed
  -- In a guarded static slot each node's observation follows from its owner's account. Commits, babbles and mutes of
  -- other nodes have no effect.
  pub harmless : IsHarmless w.bus.cluster w.interfaces w.bus.sealed

-- if two worlds of one cluster agree in an owner's part of a guarded static slot, each node observes the same there
abbrev pub WorldsAlike : WorldState → WorldState → Type 0
WorldsAlike w v = w.bus.cluster ≡ v.bus.cluster
    → AreAlike w.bus.cluster w.interfaces w.bus.sealed v.interfaces v.bus.sealed
