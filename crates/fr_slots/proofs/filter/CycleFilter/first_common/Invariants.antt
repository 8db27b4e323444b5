use Rattle.std.proofs.Common.{◌≡◌, ◌-◌}
use Rattle.fr_slots.specs.Faults.{numbers_from, first_of, common_in, first_common}
use Rattle.fr_slots.proofs.filter.CycleFilter.first_common.Given as goal

abbrev pub invariant-loop-number : goal.invariant-loop-number
invariant-loop-number l = first_of (common_in l.self l.other) (numbers_from l.number (64 - l.number))
    ≡ first_common l.self l.other
