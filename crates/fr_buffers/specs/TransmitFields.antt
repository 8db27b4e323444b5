-- The fields of `TxBuffer` as a `Transmitter`.
use Rattle.std.specs.Prelude.{◌≡◌, ◌+◌, ◌≤◌}
use Rattle.fr_buffers.specs.declared.transmit.TxBuffer.TheInside.{Inside}
use Rattle.fr_buffers.specs.Transmitting.{Transmitter}

abbrev pub transmitter_in : Inside → Transmitter
transmitter_in b = record { mode = b.mode; last = b.last; tally = b.tally }

-- each commit has one fate, and at most one is pending
pub record IsBalanced (b : Inside) : Type 0 where
  pub fates : b.tally.committed ≡ b.tally.sent + b.tally.overwritten + b.tally.pending + b.tally.withdrawn
  pub one_pending : b.tally.pending ≤ 1
