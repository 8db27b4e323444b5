use Rattle.std.proofs.Common.{◌≡◌, ◌++◌, ◌∷◌, [], length, refl, rules, sym, subst, ◌∙◌}
use Rattle.fr_reader.proofs.NodeLemmas.{no_plans, one_more}
use Rattle.fr_reader.specs.UsualText.{AreUpTo}
use Rattle.fr_slots.proofs.PlanLemmas.{Each-snoc}
use Rattle.fr_slots.specs.Plans.{IsPlan, Each}
use Rattle.fr_reader.proofs.nodes.plans_in.Goals as goal

pub loop-number-init : goal.loop-number-init
loop-number-init c =
    let none = c.new-plans.ensures.items in
    let text = c.args.text.now in
    record {
      utf8 = search rules;
      count = rw none refl;
      lawful = subst (Each IsPlan) (sym none) tt;
      read = subst (λ plans. AreUpTo c.args.params.now text plans text) (sym none) (no_plans c.args.params.now text);
    }

pub returns-then-is_empty-clause-read : goal.returns-then-is_empty-clause-read
returns-then-is_empty-clause-read c =
    let l = c.loop-number in
    let plan = c.in_ok-plan.plan in
    let after = c.in_ok-plan.after.now in
    let pushed : c.push.new.self.items ≡ l.plans.items ++ plan ∷ [] = search rules in
    let numbered : c.from_number.result ≡ length l.plans.items = c.from_number.ensures ∙ sym l.invariant.count in
    subst (λ plans. AreUpTo c.args.params.now c.args.text.now plans after) (sym pushed)
    (one_more c.args.params.now c.args.text.now l.rest.now after l.plans.items plan c.from_number.result numbered
    l.invariant.read c.in_ok-plan.ensures.read)

pub loop-number-preserved : goal.loop-number-preserved
loop-number-preserved c =
    let l = c.loop-number in
    let plan = c.in_ok-plan.plan in
    let after = c.in_ok-plan.after.now in
    let pushed : c.push.new.self.items ≡ l.plans.items ++ plan ∷ [] = search rules in
    let numbered : c.from_number.result ≡ length l.plans.items = c.from_number.ensures ∙ sym l.invariant.count in
    record {
      utf8 = search rules;
      count = search rules;
      lawful = subst (Each IsPlan) (sym pushed)
          (Each-snoc IsPlan l.plans.items plan l.invariant.lawful c.in_ok-plan.ensures.lawful);
      read = subst (λ plans. AreUpTo c.args.params.now c.args.text.now plans after) (sym pushed)
          (one_more c.args.params.now c.args.text.now l.rest.now after l.plans.items plan c.from_number.result numbered
          l.invariant.read c.in_ok-plan.ensures.read);
    }
