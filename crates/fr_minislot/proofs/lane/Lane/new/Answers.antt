use Rattle.std.proofs.Common.{◌≡◌, ◌+◌, [], ℕ, subst, ap, ◌∙◌, sym, arith}
use Rattle.fr_minislot.proofs.RowLemmas.{new_stands}
use Rattle.fr_minislot.specs.Lanes.{IsStanding}
use Rattle.fr_minislot.specs.DynamicRows.{slot_after}
use Rattle.fr_slots.specs.Parameters.{Parameters}
use Rattle.fr_minislot.proofs.lane.Lane.new.Goals as goal

pub invariant_of-result : goal.invariant_of-result
invariant_of-result c = c.params.invariant

pub invariant_of-result-2 : goal.invariant_of-result-2
invariant_of-result-2 c =
    let p = c.args.params.now in
    let same : c.params.inside.static_slots ≡ p.static_slots =
    ap (λ (q : Parameters). q.static_slots) c.params.view_is in
    let slot : slot_after p [] ≡ c.params.inside.static_slots + 1 = omega (arith, same) in
    subst (λ (q : Parameters). IsStanding (record { params = q; slot = c.params.inside.static_slots + 1; begins = 1 }))
    (sym c.params.view_is)
    (subst (λ (n : ℕ). IsStanding (record { params = p; slot = n; begins = 1 })) slot (new_stands p))
