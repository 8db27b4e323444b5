use Rattle.std.proofs.Common.{sym, ap, subst, ◌∙◌}
use Rattle.fr_bus.proofs.StationLemmas.{quiet_stations}
use Rattle.fr_bus.specs.Outcome.{sent_from}
use Rattle.fr_bus.specs.Stations.{AllSendNothing}
use Rattle.fr_bus.proofs.station.Stations.count_offered.Goals as goal

pub returns-clause-none : goal.returns-clause-none
returns-clause-none c = λ none d w n.
    ap (sent_from d w n) (sym c.self.view_is)
    ∙ quiet_stations c.self.inside.put c.self.inside.taken c.self.inside.sides.items
    (subst AllSendNothing c.as_slice.ensures.value (c.count_offered.ensures.none none)) d w n
