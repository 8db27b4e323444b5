use Rattle.std.proofs.Common.{◌≡◌, ℕ, ◌/◌, ◌≤◌, min, ap, arith, ◌∙◌}
use Rattle.fr_bus.specs.Courses.{opportunities}
use Rattle.fr_slots.specs.Parameters.{Parameters}
use Rattle.fr_endless.proofs.CycleLemmas.{result_suits, result_greatest}
use Rattle.fr_endless.proofs.world.greatest_cycles.Goals as goal

-- the number of static slots and minislots, and its bounds
opportunities_are : (c : goal.After-min) → (c.max.result ≡ opportunities c.args.cluster.now.params)
    × (1 ≤ opportunities c.args.cluster.now.params) × (opportunities c.args.cluster.now.params ≤ 20000)
opportunities_are c =
    let p = c.args.cluster.now.params in
    let same = c.params.view_is ∙ c.params-params.ensures.value in
    let slots : c.from.result ≡ p.static_slots = c.from.ensures ∙ ap (λ (q : Parameters). q.static_slots) same in
    let minislots : c.from-2.result ≡ p.minislots = c.from-2.ensures ∙ ap (λ (q : Parameters). q.minislots) same in
    let least : 2 ≤ c.params.inside.static_slots = c.params.invariant.static_slots_fit.from_least in
    let most : c.params.inside.static_slots ≤ 1023 = c.params.invariant.static_slots_fit.at_most in
    let long : c.params.inside.minislots ≤ 8000 = omega (arith, c.params.invariant.minislots_fit.at_most) in (
      omega (arith, c.max.ensures, slots, minislots, c.from.ensures, least),
      omega (arith, slots, c.from.ensures, least),
      omega (arith, slots, minislots, c.from.ensures, c.from-2.ensures, most, long),
    )

result_is : (c : goal.After-min)
    → c.min.result ≡ min 4000000 (1610612734 / opportunities c.args.cluster.now.params)
result_is c = c.min.ensures ∙ ap (λ (n : ℕ). min 4000000 (1610612734 / n)) (opportunities_are c).0

pub returns-clause-suits : goal.returns-clause-suits
returns-clause-suits c =
    let bounds = opportunities_are c in
    result_suits c.args.cluster.now.params bounds.1 c.min.result (result_is c) bounds.2

pub returns-clause-greatest : goal.returns-clause-greatest
returns-clause-greatest c =
    let bounds = opportunities_are c in
    result_greatest c.args.cluster.now.params bounds.1 c.min.result (result_is c)
