use Rattle.std.proofs.Common.{Bool, false, List, sym, ap, slice_index_or, slice_set, ◌∙◌}
use Rattle.std.proofs.lemmas.List.{set-get_or}
use Rattle.fr_bus.specs.declared.station.Sides.{Sides}
use Rattle.fr_bus.specs.States.{muting}
use Rattle.fr_bus.proofs.StationLemmas.{write_station, muting_is}
use Rattle.fr_bus.specs.Stations.{Station, station_of, stations_of, with_mute}
use Rattle.fr_bus.proofs.station.Stations.mute.Goals as goal

pub returns : goal.returns
returns c =
    let i = c.self.inside in
    let n = c.from.result in
    let put = slice_index_or i.put n false in
    let taken = slice_index_or i.taken n false in
    ap (λ (ps : List Bool). stations_of ps i.taken (slice_set i.sides.items n c.mute.new.self))
    (sym (set-get_or i.put n false))
    ∙ ap (λ (ts : List Bool). stations_of (slice_set i.put n put) ts (slice_set i.sides.items n c.mute.new.self))
    (sym (set-get_or i.taken n false))
    ∙ write_station i c.self.invariant c.args.self.now c.self.view_is n c.args.node
    (c.from.ensures ∙ c.number.ensures.value) c.requires
    false false c.index_mut.result.now put taken c.mute.new.self (λ (s : Station). muting c.args.channel s)
    (muting_is c.args.channel put taken (slice_index_or i.sides.items n c.index_mut.result.now)
    ∙ ap (λ (s : Sides). station_of put taken (with_mute c.args.channel s)) (sym c.index_mut.ensures.value)
    ∙ ap (λ (s : Sides). station_of put taken s) (sym c.mute.ensures))
