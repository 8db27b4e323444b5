use Rattle.std.proofs.Common.{◌≡◌, ◌-◌}
use Rattle.std.specs.List.{list_any}
use Rattle.fr_slots.specs.Faults.{numbers_from}
use Rattle.fr_links.specs.Receivers.{receives, receives_in}
use Rattle.fr_links.proofs.receivers.receives.Given as goal

abbrev pub invariant-loop-number : goal.invariant-loop-number
invariant-loop-number l =
    list_any (receives_in l.link l.buffer) (numbers_from l.number (64 - l.number)) ≡ receives l.link l.buffer
