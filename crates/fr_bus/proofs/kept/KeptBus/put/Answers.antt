use Rattle.std.proofs.Common.{◌≡◌, ◌<◌, rules, false, length, length-set, refl, sym, ◌∙◌}
use Rattle.std.specs.Prelude.{slice_set, slice_index_or}
use Rattle.fr_bus.proofs.CountLemmas.{counted_more, counted_same}
use Rattle.fr_bus.proofs.StandingLemmas.{history_change}
use Rattle.fr_bus.specs.KeptFields.{standing_in}
use Rattle.fr_bus.specs.States.{put_done, offering, idle_station, is_put, is_taken}
use Rattle.fr_bus.proofs.kept.KeptBus.put.Goals as goal

pub invariant_of-self : goal.invariant_of-self
invariant_of-self c =
    let stations = c.self.inside.stations in
    let old = slice_index_or stations c.args.node idle_station in
    let new = offering old c.args.offer.now in
    let within : c.args.node < length stations = search rules in
    let fresh : old.put ≡ false = sym c.has_put.ensures ∙ c.if-has_put.false in
    record {
      bus = put_done c.self.invariant.bus c.args.node c.args.offer.now;
      run = history_change (standing_in c.self.inside) c.self.invariant.bus c.self.invariant.run
          (λ l. slice_set l c.args.node (offering (slice_index_or l c.args.node idle_station) c.args.offer.now))
          c.put.new.self
          c.put.ensures (length-set stations c.args.node new);
      put_count_is = counted_more is_put stations c.put.new.self c.args.node c.self.inside.put_count new idle_station
          c.put.ensures within c.self.invariant.put_count_is fresh refl;
      taken_count_is = counted_same is_taken stations c.put.new.self c.args.node c.self.inside.taken_count new
          idle_station
          c.put.ensures within c.self.invariant.taken_count_is refl;
    }
