use Rattle.std.proofs.Common.{◌≤◌, ◌-◌, length}
use Rattle.fr_recording.specs.Steps.{AreWhole}
use Rattle.fr_recording.proofs.classic.Classic.last_whole.Given as goal

-- the records so far are whole, and those before the last one
abbrev pub invariant-loop-head : goal.invariant-loop-head
invariant-loop-head l = record {
  within : l.next ≤ length l.bytes;
  last_within : l.last ≤ length l.bytes;
  whole : AreWhole l.self l.bytes l.next;
  last_whole : AreWhole l.self l.bytes l.last;
}

abbrev pub decreases-loop-head : goal.decreases-loop-head
decreases-loop-head l = length l.bytes - l.next
