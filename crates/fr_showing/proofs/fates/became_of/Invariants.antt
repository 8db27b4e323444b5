use Rattle.std.proofs.Common.{◌≡◌, take, drop}
use Rattle.fr_showing.specs.Fates.{became, became_in}
use Rattle.fr_journal.specs.Cycles.{cycles_of}
use Rattle.fr_showing.proofs.fates.became_of.Given as goal

-- the entries that are left decide it
abbrev pub invariant-loop-number : goal.invariant-loop-number
invariant-loop-number l = record {
  cycle : l.begun ≡ cycles_of (take l.number l.interface.entries);
  same : became_in l.buffer l.commit (take l.number l.interface.entries) (drop l.number l.interface.entries)
      ≡ became l.buffer l.interface.entries l.commit;
}
