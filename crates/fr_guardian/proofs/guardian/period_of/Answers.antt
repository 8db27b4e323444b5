use Rattle.std.proofs.Common.{◌≡◌, List, max, refl, sym, ap, ◌∙◌, arith}
use Rattle.fr_slots.specs.declared.plan.Own.{Own}
use Rattle.fr_slots.proofs.PlanLemmas.{taken_more}
use Rattle.fr_guardian.specs.Periods.{period}
use Rattle.fr_guardian.proofs.PeriodLemmas.{period_more, at_most_64}
use Rattle.fr_guardian.proofs.guardian.period_of.Goals as goal

pub loop-own-init : goal.loop-own-init
unfolding period
loop-own-init c = record { most = refl; few = omega arith }

pub loop-own-preserved : goal.loop-own-preserved
loop-own-preserved c =
    let own = c.own-item.result in
    let repetition = c.repetition.ensures.value in
    let fits = at_most_64 own.cycles.repetition c.repetition.ensures.lawful.repetition_is in
    let greater : c.max-most.result ≡ max own.cycles.repetition c.loop-own.most =
    c.max-most.ensures ∙ ap (λ n. max n c.loop-own.most) repetition in
    record {
      most = taken_more (λ (owned : List Own). c.max-most.result ≡ period owned) c.args.owned.now c.loop-own.own-index
          own c.loop-own-test.true c.own-item.is
          (greater ∙ ap (max own.cycles.repetition) c.loop-own.invariant.most ∙ sym (period_more _ own));
      few = omega (arith, greater, fits, c.loop-own.invariant.few);
    }
