use Rattle.std.proofs.Common.{◌≡◌, ◌≤◌, ◌+◌, ◌-◌}
use Rattle.std.specs.List.{list_any, range_with_len}
use Rattle.fr_runs.specs.Suiting.{names_both}
use Rattle.fr_runs.proofs.faults.share_cycle.Given as goal

-- the remaining cycles have one that both name exactly if all have one
abbrev pub invariant-loop-cycle : goal.invariant-loop-cycle
invariant-loop-cycle l = record {
  within : l.first ≤ l.last → l.cycle ≤ l.last;
  rest : list_any (names_both l.cycles l.others) (range_with_len l.cycle (l.last + 1 - l.cycle))
      ≡ list_any (names_both l.cycles l.others) (range_with_len l.first (l.last + 1 - l.first));
}
