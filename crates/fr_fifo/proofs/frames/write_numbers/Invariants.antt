use Rattle.std.proofs.Common.{◌≡◌, ◌≤◌}
use Rattle.std.specs.Io.KnownBytes.{Appends}
use Rattle.fr_fifo.specs.FifoSteps.{line_by}
use Rattle.fr_fifo.proofs.TextLemmas.{lines_to}
use Rattle.fr_fifo.proofs.frames.write_numbers.Given as goal

-- the lines of the numbers so far, and no step of a loop without numbers
abbrev pub invariant-loop-number : goal.invariant-loop-number
invariant-loop-number g l = record {
  written : Appends (g.W.Write.contents l.fn.writer) (g.W.Write.contents l.writer)
      (lines_to (line_by l.left) l.first l.number);
  still : l.end ≤ l.first → l.number ≡ l.first;
}
