use Rattle.std.proofs.Common.{◌≡◌, ◌+◌, length, drop, rules, sym, ap, ◌∙◌, arith}
use Rattle.std.proofs.lemmas.List.{at_drop_all, length_push}
use Rattle.fr_schedule.proofs.OwnLemmas.{owning_more, owning_none, owning_some, owning_end}
use Rattle.fr_schedule.proofs.RowLemmas.{at_item}
use Rattle.fr_slots.specs.Plans.{Plan, with_own}
use Rattle.fr_schedule.proofs.node.owning.Goals as goal

pub returns-in_err-own : goal.returns-in_err-own
returns-in_err-own c =
    let p = c.args.params.now in
    let i = c.loop-line.line-index in
    c.from_residual.ensures
    ∙ sym (owning_none p c.loop-line.plan c.line-item.result (drop (i + 1) c.args.lines.now)
    (sym c.in_err-own.ensures.value))
    ∙ sym (at_item (owning_more p c.loop-line.plan) c.args.lines.now i c.line-item.result c.loop-line-test.true
    c.line-item.is)
    ∙ c.loop-line.invariant.left

pub loop-line-preserved : goal.loop-line-preserved
loop-line-preserved c =
    let p = c.args.params.now in
    let i = c.loop-line.line-index in
    let own = c.in_ok-own.own in
    let added : c.add_own.new.self ≡ with_own c.loop-line.plan own = search rules in
    record {
      so_far = ap (λ (plan : Plan). length plan.owned) added ∙ length_push c.loop-line.plan.owned own ∙ ap
          (λ n. n + 1) c.loop-line.invariant.so_far;
      left = ap (λ (plan : Plan). owning_more p plan (drop (i + 1) c.args.lines.now)) added
          ∙ sym (owning_some p c.loop-line.plan c.line-item.result (drop (i + 1) c.args.lines.now) own
          (sym c.in_ok-own.ensures.value))
          ∙ sym (at_item (owning_more p c.loop-line.plan) c.args.lines.now i c.line-item.result c.loop-line-test.true
          c.line-item.is)
          ∙ c.loop-line.invariant.left;
    }

pub returns : goal.returns
returns c =
    let p = c.args.params.now in
    sym (owning_end p c.loop-line.plan)
    ∙ sym (at_drop_all (owning_more p c.loop-line.plan) c.args.lines.now c.loop-line.line-index
    (omega (arith, c.loop-line-test.false)))
    ∙ c.loop-line.invariant.left
