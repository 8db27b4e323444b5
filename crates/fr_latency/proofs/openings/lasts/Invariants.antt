use Rattle.std.proofs.Common.{◌≡◌, ℕ, ◌+◌, ◌<◌, length, get_or}
use Rattle.fr_latency.specs.Cells.{CycleTest, HasBits}
use Rattle.fr_latency.specs.Openings.{greatest}
use Rattle.fr_latency.specs.Rows.{BeginsRightAfter}
use Rattle.fr_latency.proofs.openings.lasts.Given as goal

-- the last minislots of the cycles so far
abbrev pub invariant-loop-cycle : goal.invariant-loop-cycle
invariant-loop-cycle l = record {
  size : length l.lasts ≡ 64;
  each : (test : CycleTest) → BeginsRightAfter l.earlier test → HasBits (l.earlier + 1) test l.cells
      → (k : ℕ) → k < l.cycle → get_or l.lasts k 0 ≡ greatest (test k) l.most;
}
