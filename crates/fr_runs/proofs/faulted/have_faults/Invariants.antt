use Rattle.std.proofs.Common.{◌≡◌, ℕ, ◌<◌, ◌≤◌, ◌-◌, take}
use Rattle.fr_bus.specs.Windows.{cycles_begun}
use Rattle.fr_runs.specs.Faulted.{lines_of_cycle, HasFaultsAt}
use Rattle.fr_runs.proofs.faulted.have_faults.Given as goal

-- the cycles that began in the windows so far, which have their faults, and the lines of the last of them
abbrev pub invariant-loop-sealed : goal.invariant-loop-sealed
invariant-loop-sealed l = record {
  begun : l.begun ≡ cycles_begun (take l.sealed-index l.recorded);
  few : l.begun ≤ l.sealed-index;
  kept : l.kept.items ≡ lines_of_cycle (l.begun - 1) l.lines;
  faults : (k : ℕ) → k < l.sealed-index → HasFaultsAt l.lines l.recorded k;
}
