-- The fields of `ReceiveQueue` as `Waiting`.
use Rattle.std.specs.Prelude.{◌<◌, ◌^◌}
use Rattle.fr_buffers.specs.declared.queue.ReceiveQueue.TheInside.{Inside}
use Rattle.fr_buffers.specs.Waiting.{Waiting}

abbrev pub waiting_in : Inside → Waiting
waiting_in q = record { capacity = q.ring.capacity; frames = q.ring.items; lost = q.lost }

-- it holds at most as many frames as the receive FIFO of a plan
abbrev pub IsBounded : Inside → Type 0
IsBounded q = q.ring.capacity < 2 ^ 16
