use Rattle.std.proofs.Common.{◌≡◌, ◌≤◌, ◌<◌, ◌-◌, false, [], length, take}
use Rattle.fr_recording.specs.Classics.{BeginsClassic}
use Rattle.fr_recording.specs.Stream.{take_bytes, records_from}
use Rattle.fr_monitoring.specs.LineText.{lines_text}
use Rattle.fr_monitoring.specs.Monitoring.{judged, told}
use Rattle.fr_monitoring.proofs.monitor.judge_whole.Given as goal

-- the records so far have been judged, and none showed a line
abbrev pub invariant-loop-head : goal.invariant-loop-head
invariant-loop-head l = record {
  within : l.taken ≤ length l.piece;
  begins : BeginsClassic (take_bytes l.capture (take l.taken l.piece)) l.classic;
  state : l.judge ≡ judged l.fn.judge (records_from l.capture (take l.taken l.piece));
  silent : told false l.fn.judge (records_from l.capture (take l.taken l.piece)) ≡ [];
  quiet : 0 < l.taken → lines_text l.judge.lines ≡ [];
}

abbrev pub decreases-loop-head : goal.decreases-loop-head
decreases-loop-head l = length l.piece - l.taken
