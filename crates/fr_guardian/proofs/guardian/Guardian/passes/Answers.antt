use Rattle.std.proofs.Common.{◌≡◌, ◌&&◌, true, Some, List, Bor, option_map, subst, sym, ap, ◌∙◌, slice_get}
use Rattle.fr_slots.specs.Windows.{Opportunity, is_static}
use Rattle.fr_guardian.specs.Guarding.{IsOpenMacrotick}
use Rattle.fr_guardian.specs.Intervals.{AreMaximalIntervals}
use Rattle.fr_schedule.specs.Clusters.{IsCluster}
use Rattle.fr_schedule.specs.Descriptions.{Description, is_guarded}
use Rattle.fr_guardian.specs.declared.guardian.Post.{Post}
use Rattle.fr_guardian.specs.GuardianFields.{IsSlotWithin}
use Rattle.fr_guardian.proofs.AloneLemmas.{passes_alone}
use Rattle.fr_guardian.proofs.PostLemmas.{kept_posts, plan_at}
use Rattle.fr_guardian.proofs.SearchLemmas.{passes_found}
use Rattle.fr_guardian.proofs.guardian.Guardian.passes.Goals as goal

pub returns-else-not-is_watched-clause-value : goal.returns-else-not-is_watched-clause-value
returns-else-not-is_watched-clause-value c =
    let d = c.args.self.now in
    let post = c.in-Some-Some.field-0-0.now in
    let posts = kept_posts c.self.inside d c.self.invariant c.self.view_is in
    let at : slice_get c.self.inside.posts.items c.args.node ≡ Some post =
    ap (λ (xs : List Post). slice_get xs c.args.node) (sym c.as_slice.ensures.value) ∙ sym c.post_at-post.ensures ∙ ap
    (option_map (λ (x : Bor Post). x.now)) c.in-Some-Some.is-0 in
    let plan = plan_at d c.self.inside.posts.items c.args.node post posts at in
    let slot = sym c.slot.ensures ∙ c.in-Some-Some.is-1 in
    let watched : (is_static c.args.window.now && is_guarded d.guard c.args.channel) ≡ true =
    ap (λ (x : Description). is_static c.args.window.now && is_guarded x.guard c.args.channel) (sym c.self.view_is)
    ∙ sym c.is_watched.ensures ∙ c.if-not-is_watched.false in
    passes_found d (subst IsCluster c.self.view_is c.self.invariant.cluster) c.args.node c.args.window.now
    c.args.channel post.plan c.in-Some-Some.slot c.windows.result.now c.is_slot_within.result
    plan slot watched
    (subst (λ (w : Opportunity). AreMaximalIntervals (IsOpenMacrotick d c.args.node w.cycle c.args.channel)
    c.windows.result.now) c.window.view_is c.windows.ensures.found)
    (subst (λ (x : Description). IsSlotWithin x.params c.windows.result.now c.in-Some-Some.slot c.is_slot_within.result)
    c.self.view_is c.is_slot_within.ensures)

pub returns-else-not-is_watched-clause-alone : goal.returns-else-not-is_watched-clause-alone
returns-else-not-is_watched-clause-alone c answered =
    let d = c.args.self.now in
    passes_alone d (subst IsCluster c.self.view_is c.self.invariant.cluster) c.args.node c.args.window.now
    c.args.channel
    (sym (returns-else-not-is_watched-clause-value c) ∙ answered)
