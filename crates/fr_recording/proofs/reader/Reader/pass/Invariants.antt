use Rattle.std.proofs.Common.{◌≡◌, ◌≤◌, ◌-◌, length, take}
use Rattle.fr_recording.specs.Stream.{take_bytes}
use Rattle.fr_recording.proofs.reader.Reader.pass.Given as goal

-- the bytes so far have been read
abbrev pub invariant-loop-taken : goal.invariant-loop-taken
invariant-loop-taken l = record {
  within : l.taken ≤ length l.bytes;
  state : l.self ≡ take_bytes l.fn.self (take l.taken l.bytes);
}

abbrev pub decreases-loop-taken : goal.decreases-loop-taken
decreases-loop-taken l = length l.bytes - l.taken
