-- The headline promise of a world.
use Rattle.std.proofs.Common.{◌≡◌, List, subst}
use Rattle.std.specs.List.{All}
use Rattle.fr_bus.specs.States.{BusState, IsRun, OneSenderEach}
use Rattle.fr_core.specs.Agreement.{IsWorld}
use Rattle.fr_interface.specs.Commits.{AreAccounted}
use Rattle.fr_core.specs.Headline.{Headline, WorldsAlike}
use Rattle.fr_core.specs.Worlds.{WorldState}
use Rattle.fr_core.proofs.FollowLemmas.{world_receivers, world_harmless, worlds_alike}
use Rattle.fr_interface.specs.State.{State, IsLegalInterface}

pub headline : (w : WorldState) → All IsLegalInterface w.interfaces → All AreAccounted w.interfaces → IsRun w.bus
    → OneSenderEach w.bus.cluster w.bus.sealed → IsWorld w → Headline w
headline w lawful accounted run one_sender kept = record {
  legal = lawful;
  accounted = accounted;
  run = run;
  one_sender = one_sender;
  agrees = kept;
  receivers = world_receivers w kept run lawful;
  harmless = world_harmless w kept run lawful;
}

-- the same, if the interfaces and the bus were lent
pub headline_of : (w : WorldState) (lent : List State) (bus : BusState) → lent ≡ w.interfaces → bus ≡ w.bus
    → All IsLegalInterface lent → All AreAccounted lent → IsRun bus
    → OneSenderEach bus.cluster bus.sealed → IsWorld w → Headline w
headline_of w lent bus p q lawful accounted run one_sender kept =
    headline w (subst (All IsLegalInterface) p lawful) (subst (All AreAccounted) p accounted) (subst IsRun q run)
    (subst (λ (b : BusState). OneSenderEach b.cluster b.sealed) q one_sender) kept

pub alike_worlds : (w v : WorldState) → Headline w → Headline v → WorldsAlike w v
alike_worlds w v a b = worlds_alike w v a.agrees b.agrees a.run b.run a.harmless b.harmless a.legal b.legal
