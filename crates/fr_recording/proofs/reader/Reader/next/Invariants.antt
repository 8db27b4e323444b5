use Rattle.std.proofs.Common.{◌≡◌, ◌≤◌, ◌-◌, ◌==◌, [], length, take}
use Rattle.std.specs.Prelude.{option_to_list, if◌then◌else◌}
use Rattle.fr_recording.specs.Stream.{take_bytes, records_from, told_of}
use Rattle.fr_recording.proofs.reader.Reader.next.Given as goal

-- the bytes so far have been read, and they completed no record
abbrev pub invariant-loop-taken : goal.invariant-loop-taken
invariant-loop-taken l = record {
  within : l.taken ≤ length l.bytes;
  state : l.self ≡ take_bytes l.fn.self (take l.taken l.bytes);
  silent : records_from l.fn.self (take l.taken l.bytes) ≡ [];
  quiet : (if l.taken == 0 then [] else option_to_list (told_of l.self)) ≡ [];
}

abbrev pub decreases-loop-taken : goal.decreases-loop-taken
decreases-loop-taken l = length l.bytes - l.taken
