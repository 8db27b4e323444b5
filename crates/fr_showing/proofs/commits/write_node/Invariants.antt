use Rattle.std.proofs.Common.{◌≡◌, take}
use Rattle.fr_showing.proofs.GoingLemmas.{IsWritten}
use Rattle.fr_showing.specs.CommitSteps.{node_text}
use Rattle.fr_showing.specs.CommitText.{commit_by, line_in}
use Rattle.fr_journal.specs.Cycles.{cycles_of}
use Rattle.fr_showing.proofs.commits.write_node.Given as goal

-- the lines that are left are still to be written
abbrev pub invariant-loop-number : goal.invariant-loop-number
invariant-loop-number g l = record {
  cycle : l.begun ≡ cycles_of (take l.number l.interface.entries);
  written : IsWritten (commit_by l.node) (line_in l.world l.interface.entries) l.interface.entries
      (node_text l.world l.node l.interface.entries)
      (g.W.Write.contents l.fn.writer) (g.W.Write.contents l.writer) l.number;
}
