use Rattle.std.proofs.Common.{◌≡◌, ap, ◌∙◌, sym, map, List, IsTrue, rules, Option}
use Rattle.fr_guardian.proofs.GivenPlanLemmas.{plans_in}
use Rattle.fr_guardian.specs.declared.guardian.Post.{Post}
use Rattle.fr_schedule.specs.Descriptions.{Description}
use Rattle.fr_slots.specs.declared.channel.Channels.{Channels}
use Rattle.fr_slots.specs.Parameters.{Parameters}
use Rattle.fr_slots.specs.Plans.{Plan}
use Rattle.fr_guardian.proofs.guardian.Guardian.is_of.Goals as goal

pub returns : goal.returns
returns c =
    let params_same : IsTrue c.is_same_params.result = search rules in
    let guard_same : IsTrue c.is_same_guard.result = search rules in
    let params : c.self.inside.params ≡ c.args.cluster.now.params =
    c.is_same_params.ensures.0 params_same ∙ c.params.ensures.value in
    let guard : c.self.inside.guard ≡ c.args.cluster.now.guard =
    c.is_same_guard.ensures.0 guard_same ∙ c.guard_of.ensures in
    let posts = ap plans_in c.as_slice.ensures.value in (
      λ yes.
          let plans : plans_in c.self.inside.posts.items ≡ c.args.cluster.now.plans =
          sym posts ∙ c.have_plans.ensures.0 yes ∙ c.plans.ensures.value in
          let same : ◌≡◌ {A = Description} (record {
            params = c.self.inside.params;
            guard = c.self.inside.guard;
            plans = plans_in c.self.inside.posts.items;
          }) c.args.cluster.now = λ i. record { params = params i; guard = guard i; plans = plans i } in
          sym c.self.view_is ∙ same,
      λ same. c.have_plans.ensures.1 (posts ∙ ap (λ (d : Description). d.plans) (c.self.view_is ∙ same)
          ∙ sym c.plans.ensures.value),
    )
