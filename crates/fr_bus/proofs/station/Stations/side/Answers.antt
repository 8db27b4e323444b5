use Rattle.std.proofs.Common.{false, sym, ap, slice_index_or, ◌∙◌}
use Rattle.fr_bus.specs.declared.station.Sides.{Sides}
use Rattle.fr_bus.specs.Record.{side_on}
use Rattle.fr_bus.proofs.StationLemmas.{read_station, side_is}
use Rattle.fr_bus.specs.Stations.{Station, side_in}
use Rattle.fr_bus.proofs.station.Stations.side.Goals as goal

pub returns : goal.returns
returns c =
    let i = c.self.inside in
    c.side.ensures
    ∙ ap (λ (s : Sides). side_in c.args.channel s) c.index.ensures
    ∙ sym (side_is c.args.channel (slice_index_or i.put c.from.result false)
    (slice_index_or i.taken c.from.result false) (slice_index_or i.sides.items c.from.result c.index.result.now))
    ∙ sym (ap (λ (s : Station). side_on c.args.channel s)
    (read_station c.self.inside c.self.invariant c.args.self.now c.self.view_is c.from.result c.args.node
    (c.from.ensures ∙ c.number.ensures.value) c.requires false false c.index.result.now))
