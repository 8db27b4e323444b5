use Rattle.std.proofs.Common.{◌≡◌, ◌<◌, length, IsTrue, rules, ap, ◌∙◌}
use Rattle.fr_guardian.specs.declared.guardian.Post.{Post}
use Rattle.fr_guardian.proofs.GivenPlanLemmas.{plans_more}
use Rattle.fr_guardian.proofs.guardian.have_plans.Goals as goal

pub loop-index-preserved : goal.loop-index-preserved
loop-index-preserved c =
    let same : IsTrue c.is_same.result = search rules in
    let within : c.loop-index.index < length c.args.posts.now = search rules in
    let inside : c.loop-index.index < length c.args.plans.now = search rules in
    plans_more c.args.posts.now c.args.plans.now c.loop-index.index c.index-posts-index.result
    c.index-plans-index.result c.index-posts-index.is c.index-plans-index.is within inside
    (ap (λ (post : Post). post.plan) c.index-posts-index.is ∙ c.is_same.ensures.0 same) c.loop-index.invariant
