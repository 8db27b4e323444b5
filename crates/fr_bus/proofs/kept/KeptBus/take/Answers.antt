use Rattle.std.proofs.Common.{◌≡◌, ◌<◌, rules, false, length, length-set, refl, sym, ◌∙◌}
use Rattle.std.specs.Prelude.{slice_set, slice_index_or}
use Rattle.fr_bus.proofs.CountLemmas.{counted_more, counted_same}
use Rattle.fr_bus.proofs.StandingLemmas.{history_change}
use Rattle.fr_bus.specs.KeptFields.{standing_in}
use Rattle.fr_bus.specs.States.{take_done, taking, idle_station, is_put, is_taken}
use Rattle.fr_bus.proofs.kept.KeptBus.take.Goals as goal

pub invariant_of-self : goal.invariant_of-self
invariant_of-self c =
    let stations = c.self.inside.stations in
    let old = slice_index_or stations c.args.node idle_station in
    let new = taking old in
    let within : c.args.node < length stations = search rules in
    let fresh : old.taken ≡ false = sym c.has_taken.ensures ∙ c.if-has_taken.false in
    record {
      bus = take_done c.self.invariant.bus c.args.node;
      run = history_change (standing_in c.self.inside) c.self.invariant.bus c.self.invariant.run
          (λ l. slice_set l c.args.node (taking (slice_index_or l c.args.node idle_station)))
          c.take.new.self
          c.take.ensures (length-set stations c.args.node new);
      put_count_is = counted_same is_put stations c.take.new.self c.args.node c.self.inside.put_count new idle_station
          c.take.ensures within c.self.invariant.put_count_is refl;
      taken_count_is = counted_more is_taken stations c.take.new.self c.args.node c.self.inside.taken_count new
          idle_station
          c.take.ensures within c.self.invariant.taken_count_is fresh refl;
    }
