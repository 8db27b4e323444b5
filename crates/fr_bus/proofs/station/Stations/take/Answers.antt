use Rattle.std.proofs.Common.{Bool, true, false, List, refl, sym, ap, slice_index_or, slice_set, ◌∙◌}
use Rattle.std.proofs.lemmas.List.{set-get_or}
use Rattle.fr_bus.specs.declared.station.Sides.{Sides}
use Rattle.fr_bus.specs.States.{taking}
use Rattle.fr_bus.proofs.StationLemmas.{write_station}
use Rattle.fr_bus.specs.Stations.{stations_of, silent_sides}
use Rattle.fr_bus.proofs.station.Stations.take.Goals as goal

pub returns : goal.returns
returns c =
    let i = c.self.inside in
    let n = c.from.result in
    ap (λ (ps : List Bool). stations_of ps (slice_set i.taken n true) i.sides.items) (sym (set-get_or i.put n false))
    ∙ ap (λ (ss : List Sides). stations_of (slice_set i.put n (slice_index_or i.put n false))
    (slice_set i.taken n true) ss) (sym (set-get_or i.sides.items n silent_sides))
    ∙ write_station i c.self.invariant c.args.self.now c.self.view_is n c.args.node
    (c.from.ensures ∙ c.number.ensures.value) c.requires
    false false silent_sides (slice_index_or i.put n false) true
    (slice_index_or i.sides.items n silent_sides) taking refl
