use Rattle.std.proofs.Common.{◌≡◌, List, max, map, take, refl, sym, ap, ◌∙◌, arith}
use Rattle.fr_schedule.specs.FileFaults.{all_owned}
use Rattle.fr_slots.proofs.PlanLemmas.{taken_more}
use Rattle.fr_guardian.specs.Periods.{period}
use Rattle.fr_guardian.specs.declared.guardian.Post.{Post}
use Rattle.fr_guardian.proofs.PostLemmas.{plan_of, cycles_more}
use Rattle.fr_guardian.proofs.guardian.cycles_of.Goals as goal

pub loop-post-init : goal.loop-post-init
unfolding period
loop-post-init c = record { most = refl; few = omega arith }

pub loop-post-preserved : goal.loop-post-preserved
loop-post-preserved c =
    let post = c.post-item.result in
    let here : c.period_of.result ≡ period post.plan.owned =
    c.period_of.ensures.value ∙ ap period c.owned.ensures.value in
    let greater : c.max-most.result ≡ max (period post.plan.owned) c.loop-post.most =
    c.max-most.ensures ∙ ap (λ n. max n c.loop-post.most) here in
    record {
      most = taken_more (λ (posts : List Post). c.max-most.result ≡ period (all_owned (map plan_of posts)))
          c.args.posts.now c.loop-post.post-index post c.loop-post-test.true c.post-item.is
          (greater ∙ ap (max (period post.plan.owned)) c.loop-post.invariant.most ∙ sym
          (cycles_more (take c.loop-post.post-index c.args.posts.now) post));
      few = omega (arith, greater, here, c.period_of.ensures.few, c.loop-post.invariant.few);
    }
