use Rattle.std.proofs.Common.{◌≡◌, length, drop}
use Rattle.fr_schedule.proofs.OwnLemmas.{owning_more, owning_all}
use Rattle.fr_schedule.proofs.node.owning.Given as goal

-- the plan and the remaining lines give the plan with all lines
abbrev pub invariant-loop-line : goal.invariant-loop-line
invariant-loop-line l = record {
  so_far : length l.plan.owned ≡ l.line-index;
  left : owning_more l.params l.plan (drop l.line-index l.lines) ≡ owning_all l.params l.fn.plan l.lines;
}
