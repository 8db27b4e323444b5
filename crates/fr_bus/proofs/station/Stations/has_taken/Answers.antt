use Rattle.std.proofs.Common.{false, sym, ap, ◌∙◌}
use Rattle.fr_bus.proofs.StationLemmas.{read_station}
use Rattle.fr_bus.specs.Stations.{Station, silent_sides}
use Rattle.fr_bus.proofs.station.Stations.has_taken.Goals as goal

pub returns : goal.returns
returns c =
    sym (ap (λ (s : Station). s.taken)
    (read_station c.self.inside c.self.invariant c.args.self.now c.self.view_is c.from.result c.args.node
    (c.from.ensures ∙ c.number.ensures.value) c.requires false false silent_sides))
