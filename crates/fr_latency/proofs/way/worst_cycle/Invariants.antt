use Rattle.std.proofs.Common.{◌≡◌, ◌<◌}
use Rattle.fr_latency.specs.Marks.{place_of_most, start_in}
use Rattle.fr_latency.proofs.way.worst_cycle.Given as goal

abbrev pub invariant-loop-number : goal.invariant-loop-number
invariant-loop-number l = record {
  place : l.worst ≡ place_of_most (start_in l.cluster l.slot l.channel l.count) l.number;
  latest : l.most ≡ start_in l.cluster l.slot l.channel l.count l.worst;
  few : l.worst < 64;
}
