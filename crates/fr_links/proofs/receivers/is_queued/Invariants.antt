use Rattle.std.proofs.Common.{◌≡◌, ◌-◌}
use Rattle.std.specs.List.{list_any}
use Rattle.fr_slots.specs.Faults.{cycles, numbers_from}
use Rattle.fr_links.specs.Receivers.{queues_in}
use Rattle.fr_links.proofs.receivers.is_queued.Given as goal

abbrev pub invariant-loop-number : goal.invariant-loop-number
invariant-loop-number l =
    list_any (queues_in l.link l.buffers l.queue) (numbers_from l.number (64 - l.number))
    ≡ list_any (queues_in l.link l.buffers l.queue) cycles
