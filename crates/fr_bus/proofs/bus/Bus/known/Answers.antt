use Rattle.std.proofs.Common.{subst}
use Rattle.fr_bus.proofs.SenderLemmas.{one_sender}
use Rattle.fr_bus.specs.BusFields.{state_in}
use Rattle.fr_bus.specs.States.{BusState, OneSenderEach}
use Rattle.fr_bus.proofs.bus.Bus.known.Goals as goal

pub returns-clause-one_sender : goal.returns-clause-one_sender
returns-clause-one_sender c = subst (λ (b : BusState). OneSenderEach b.cluster b.sealed) c.self.view_is
    (one_sender (state_in c.self.inside) c.self.invariant.run.run)
