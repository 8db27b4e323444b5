use Rattle.std.proofs.Common.{◌≡◌, ◌≤◌, ◌+◌, ◌-◌}
use Rattle.std.specs.List.{range_with_len}
use Rattle.std.specs.Prelude.{count_by}
use Rattle.fr_runs.specs.Cycles.{names_cycle}
use Rattle.fr_scenario.proofs.run_contents.cycles_in_span.Given as goal

-- the cycles so far, and those that are left
abbrev pub invariant-loop-cycle : goal.invariant-loop-cycle
invariant-loop-cycle l = record {
  few : l.count ≤ l.cycle;
  left : l.count + count_by (names_cycle l.named) (range_with_len l.cycle (l.cycles - l.cycle))
      ≡ count_by (names_cycle l.named) (range_with_len 0 l.cycles);
}
