use Rattle.std.proofs.Common.{◌<◌, rules, length, length-set}
use Rattle.std.specs.Prelude.{slice_set, slice_index_or}
use Rattle.fr_bus.proofs.CountLemmas.{counted_same}
use Rattle.fr_bus.proofs.StandingLemmas.{history_change, side_put, side_taken}
use Rattle.fr_bus.specs.KeptFields.{standing_in}
use Rattle.fr_bus.specs.States.{inject_done, babbling, idle_station, is_put, is_taken}
use Rattle.fr_bus.specs.declared.fault.Fault.TheVariants.{Babble}
use Rattle.fr_bus.proofs.kept.KeptBus.babble.Goals as goal

pub invariant_of-self : goal.invariant_of-self
invariant_of-self c =
    let stations = c.self.inside.stations in
    let old = slice_index_or stations c.args.node idle_station in
    let new = babbling c.args.channel c.args.bytes old in
    let within : c.args.node < length stations = search rules in
    record {
      bus = inject_done c.self.invariant.bus (Babble c.args.node c.args.channel c.args.bytes);
      run = history_change (standing_in c.self.inside) c.self.invariant.bus c.self.invariant.run
          (λ l. slice_set l c.args.node
          (babbling c.args.channel c.args.bytes (slice_index_or l c.args.node idle_station)))
          c.babble.new.self
          c.babble.ensures (length-set stations c.args.node new);
      put_count_is = counted_same is_put stations c.babble.new.self c.args.node c.self.inside.put_count new idle_station
          c.babble.ensures within c.self.invariant.put_count_is (side_put c.args.channel _ old);
      taken_count_is = counted_same is_taken stations c.babble.new.self c.args.node c.self.inside.taken_count new
          idle_station
          c.babble.ensures within c.self.invariant.taken_count_is (side_taken c.args.channel _ old);
    }
