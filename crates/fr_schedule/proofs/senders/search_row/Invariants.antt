use Rattle.std.proofs.Common.{◌≡◌, ◌*◌, ◌-◌}
use Rattle.fr_slots.specs.Faults.{numbers_from, first_of}
use Rattle.fr_schedule.specs.DenseTable.{taken_in, first_taken_in}
use Rattle.fr_schedule.proofs.senders.search_row.Given as goal

abbrev pub invariant-loop-turn : goal.invariant-loop-turn
invariant-loop-turn l = first_of (taken_in l.nodes l.start l.fn.cycles)
    (numbers_from (l.turn * l.step) (64 - l.turn * l.step)) ≡ first_taken_in l.nodes l.start l.fn.cycles
