use Rattle.std.proofs.Common.{Some}
use Rattle.fr_bus.proofs.StandingLemmas.{history_corrupt_a, history_corrupt_b}
use Rattle.fr_bus.specs.declared.fault.Fault.TheVariants.{Corrupt}
use Rattle.fr_bus.specs.KeptFields.{standing_in}
use Rattle.fr_bus.specs.States.{inject_done}
use Rattle.fr_slots.specs.declared.channel.Channel.TheVariants.{A, B}
use Rattle.fr_bus.proofs.kept.KeptBus.corrupt.Goals as goal

pub invariant_of-self : goal.invariant_of-self
invariant_of-self c = record {
  bus = inject_done c.self.invariant.bus (Corrupt A c.args.bit);
  run = history_corrupt_a (standing_in c.self.inside) c.self.invariant.bus c.self.invariant.run (Some c.args.bit);
  put_count_is = c.self.invariant.put_count_is;
  taken_count_is = c.self.invariant.taken_count_is;
}

pub invariant_of-self-in-None-this : goal.invariant_of-self-in-None-this
invariant_of-self-in-None-this c = record {
  bus = inject_done c.self.invariant.bus (Corrupt B c.args.bit);
  run = history_corrupt_b (standing_in c.self.inside) c.self.invariant.bus c.self.invariant.run (Some c.args.bit);
  put_count_is = c.self.invariant.put_count_is;
  taken_count_is = c.self.invariant.taken_count_is;
}
