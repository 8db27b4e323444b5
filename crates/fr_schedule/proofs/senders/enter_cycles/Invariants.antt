use Rattle.std.proofs.Common.{◌*◌}
use Rattle.fr_schedule.specs.DenseTable.{IsRowEntered}
use Rattle.fr_schedule.proofs.senders.enter_cycles.Given as goal

abbrev pub invariant-loop-turn : goal.invariant-loop-turn
invariant-loop-turn l = IsRowEntered (l.turn * l.step) l.start l.fn.cycles l.node l.initial.nodes l.nodes
