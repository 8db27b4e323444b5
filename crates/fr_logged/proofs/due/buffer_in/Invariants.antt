use Rattle.std.proofs.Common.{◌≡◌, drop}
use Rattle.std.specs.List.{find}
use Rattle.fr_slots.specs.Faults.{sends_at}
use Rattle.fr_logged.proofs.due.buffer_in.Given as goal

-- the buffers so far don't transmit in the slot
abbrev pub invariant-loop-buffer : goal.invariant-loop-buffer
invariant-loop-buffer l = find (sends_at l.slot l.channel l.cycle) (drop l.buffer-index l.buffers)
    ≡ find (sends_at l.slot l.channel l.cycle) l.buffers
