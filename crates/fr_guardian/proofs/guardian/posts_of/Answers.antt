use Rattle.std.proofs.Common.{◌≡◌, ◌+◌, Some, List, slice_get, subst, sym, ap, refl, ◌∙◌}
use Rattle.std.proofs.lemmas.Option.{slice_get_read}
use Rattle.fr_slots.specs.Plans.{Plan}
use Rattle.fr_guardian.specs.declared.guardian.Post.{Post}
use Rattle.fr_guardian.proofs.PostLemmas.{AreFirst, first_more}
use Rattle.fr_guardian.proofs.guardian.posts_of.Goals as goal

pub loop-plan-preserved : goal.loop-plan-preserved
loop-plan-preserved c =
    let d = c.args.cluster.now in
    let index = c.loop-plan.plan-index in
    let here = slice_get_read c.plans-plan-items.result.now _ index c.plan-item.result refl c.loop-plan-test.true
    c.plan-item.is in
    let at : slice_get d.plans index ≡ Some c.plan-item.result =
    subst (λ (plans : List Plan). slice_get plans index ≡ Some c.plan-item.result) c.plans-plan-items.ensures.value
    here in
    let more = first_more d index c.loop-plan.posts.items c.in_ok-post_of.field-0 c.loop-plan.invariant
    (at ∙ ap (λ (x : Plan). Some x) (sym c.in_ok-post_of.ensures.plan)) c.in_ok-post_of.ensures.post in
    subst (λ (posts : List Post). AreFirst d (index + 1) posts) (sym {A = List Post} c.in_ok-push.ensures.items) more
