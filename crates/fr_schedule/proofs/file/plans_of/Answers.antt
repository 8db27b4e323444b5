use Rattle.std.proofs.Common.{◌≡◌, ◌+◌, ◌++◌, ◌∷◌, [], drop, rules, sym, ap, subst, ◌∙◌, arith}
use Rattle.std.proofs.lemmas.List.{at_drop_all}
use Rattle.fr_schedule.proofs.PlanRowLemmas.{plans_left, plan_refused, plan_taken, plans_end}
use Rattle.fr_schedule.proofs.RowLemmas.{at_item}
use Rattle.fr_schedule.specs.Files.{plan_of}
use Rattle.fr_slots.proofs.PlanLemmas.{Each-snoc}
use Rattle.fr_slots.specs.Plans.{IsPlan, Each}
use Rattle.toml.specs.View.{view}
use Rattle.std.specs.Prelude.{Err}
use Rattle.fr_schedule.proofs.file.plans_of.Goals as goal

pub returns-in_err-plan-clause-refused : goal.returns-in_err-plan-clause-refused
returns-in_err-plan-clause-refused c =
    let p = c.args.params.now in
    let n = c.loop-number.number in
    let gone : c.from_residual.result ≡ Err c.in_err-plan.field-0.0 = search rules in
    rw gone
    (λ other.
    sym c.loop-number.invariant.left
    ∙ at_item (plans_left p n c.loop-number.plans.items) c.args.values.now n c.index-values-number.result
    c.loop-number-test.true c.index-values-number.is
    ∙ plan_refused p n c.loop-number.plans.items c.index-values-number.result (drop (n + 1) c.args.values.now) _
    (ap (λ m. plan_of p m (view c.index-values-number.result)) (sym c.from_number.ensures)
    ∙ sym c.in_err-plan.ensures.value))

pub loop-number-preserved : goal.loop-number-preserved
loop-number-preserved c =
    let p = c.args.params.now in
    let n = c.loop-number.number in
    let plan = c.in_ok-plan.plan in
    let pushed : c.push.new.self.items ≡ c.loop-number.plans.items ++ plan ∷ [] = search rules in
    record {
      lawful = subst (Each IsPlan) (sym pushed) (Each-snoc IsPlan c.loop-number.plans.items plan
          c.loop-number.invariant.lawful c.in_ok-plan.ensures.lawful);
      left = ap (λ plans. plans_left p (n + 1) plans (drop (n + 1) c.args.values.now)) pushed
          ∙ sym (plan_taken p n c.loop-number.plans.items c.index-values-number.result
          (drop (n + 1) c.args.values.now) plan
          (ap (λ m. plan_of p m (view c.index-values-number.result)) (sym c.from_number.ensures)
          ∙ sym c.in_ok-plan.ensures.value))
          ∙ sym (at_item (plans_left p n c.loop-number.plans.items) c.args.values.now n c.index-values-number.result
          c.loop-number-test.true c.index-values-number.is)
          ∙ c.loop-number.invariant.left;
    }

pub returns-clause-plans : goal.returns-clause-plans
returns-clause-plans c =
    let p = c.args.params.now in
    let n = c.loop-number.number in
    sym c.loop-number.invariant.left
    ∙ at_drop_all (plans_left p n c.loop-number.plans.items) c.args.values.now n
    (omega (arith, c.loop-number-test.false))
    ∙ plans_end p n c.loop-number.plans.items
