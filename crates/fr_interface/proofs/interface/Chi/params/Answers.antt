use Rattle.std.proofs.Common.{subst}
use Rattle.fr_interface.specs.State.{IsLegalInterface}
use Rattle.fr_interface.proofs.RoomLemmas.{lawful-legal}
use Rattle.fr_interface.proofs.interface.Chi.params.Goals as goal

pub returns-clause-legal : goal.returns-clause-legal
returns-clause-legal g c =
    subst IsLegalInterface c.self.view_is
    (lawful-legal c.self.inside.state (g.H.History.told c.self.inside.history) _ c.self.invariant)
