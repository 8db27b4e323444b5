use Rattle.std.proofs.Common.{Bool, true, false, List, sym, ap, slice_index_or, slice_set, ◌∙◌}
use Rattle.std.proofs.lemmas.List.{set-get_or}
use Rattle.fr_bus.specs.declared.station.Sides.{Sides}
use Rattle.fr_bus.specs.States.{offering}
use Rattle.fr_bus.proofs.StationLemmas.{write_station}
use Rattle.fr_bus.specs.Stations.{Station, station_of, stations_of, with_offers}
use Rattle.fr_bus.proofs.station.Stations.put.Goals as goal

pub returns : goal.returns
returns c =
    let i = c.self.inside in
    let n = c.from-place.result in
    let there = slice_index_or i.taken n false in
    ap (λ (ts : List Bool). stations_of (slice_set i.put n true) ts (slice_set i.sides.items n c.put.new.self))
    (sym (set-get_or i.taken n false))
    ∙ write_station i c.self.invariant c.args.self.now c.self.view_is n c.args.node
    (c.from-place.ensures ∙ c.number.ensures.value) c.requires
    false false c.index_mut.result.now true there c.put.new.self (λ (s : Station). offering s c.args.offer.now)
    (ap (λ (s : Sides). station_of true there (with_offers s c.args.offer.now)) (sym c.index_mut.ensures.value)
    ∙ ap (λ (s : Sides). station_of true there s) (sym c.put.ensures))
