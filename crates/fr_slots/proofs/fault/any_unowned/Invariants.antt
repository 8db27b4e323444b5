use Rattle.std.proofs.Common.{◌≡◌, ◌-◌}
use Rattle.std.specs.List.{list_any}
use Rattle.fr_slots.specs.Faults.{numbers_from, is_unowned_in, any_unowned}
use Rattle.fr_slots.proofs.fault.any_unowned.Given as goal

abbrev pub invariant-loop-number : goal.invariant-loop-number
invariant-loop-number l =
    list_any (is_unowned_in l.owned l.filter l.channel) (numbers_from l.number (64 - l.number))
    ≡ any_unowned l.owned l.filter l.channel
