use Rattle.std.proofs.Common.{◌≡◌, drop, map}
use Rattle.fr_schedule.proofs.PlanRowLemmas.{plans_left}
use Rattle.fr_schedule.specs.Files.{each_of, plan_of}
use Rattle.fr_slots.specs.Plans.{IsPlan, Each}
use Rattle.toml.specs.View.{view}
use Rattle.fr_schedule.proofs.file.plans_of.Given as goal

-- with the remaining ones the plans are all plans
abbrev pub invariant-loop-number : goal.invariant-loop-number
invariant-loop-number l = record {
  lawful : Each IsPlan l.plans.items;
  left : plans_left l.params l.number l.plans.items (drop l.number l.values) ≡ each_of (plan_of l.params) 0
      (map view l.values);
}
