use Rattle.std.proofs.Common.{◌≡◌, take}
use Rattle.fr_showing.proofs.GoingLemmas.{IsWritten}
use Rattle.fr_showing.specs.CommitText.{sending_text, sendings_text}
use Rattle.fr_showing.specs.Fates.{sendings_by}
use Rattle.fr_journal.specs.Cycles.{cycles_of}
use Rattle.fr_showing.proofs.commits.write_sendings.Given as goal

-- the sendings that are left are still to be written
abbrev pub invariant-loop-number : goal.invariant-loop-number
invariant-loop-number g l = record {
  cycle : l.begun ≡ cycles_of (take l.number l.interface.entries);
  written : IsWritten (sendings_by l.commit.entry) (sending_text l.world l.commit.node) l.interface.entries
      (sendings_text l.world l.commit.node l.interface.entries l.commit.entry)
      (g.W.Write.contents l.fn.writer) (g.W.Write.contents l.writer) l.number;
}
