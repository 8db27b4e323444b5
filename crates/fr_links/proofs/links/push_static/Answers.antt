use Rattle.std.proofs.Common.{◌≡◌, ℕ, ◌+◌, ◌≤◌, ◌++◌, Some, None, sym, ap, ◌∙◌, arith}
use Rattle.std.proofs.lemmas.Bool.Decides.{nat_tests}
use Rattle.fr_slots.specs.Numbers.{number_within}
use Rattle.fr_links.specs.Links.{slot_links}
use Rattle.fr_links.proofs.RangeLemmas.{one_number}
use Rattle.fr_links.proofs.links.push_static.Goals.{in-Some+in_ok-push_slot, in_default}
use Rattle.fr_links.proofs.links.push_static.Goals as goal

-- a number from 1 to 2047 is a slot's
slot_is : (n slot : ℕ) → number_within 1 2047 n ≡ Some slot → slot ≡ n
slot_is n slot is = grind (arith, nat_tests)

no_slot_is : (n : ℕ) → 1 ≤ n → n ≤ 2047 → number_within 1 2047 n ≡ None → ⊥
no_slot_is n low high is = grind (arith, nat_tests)

pub loop-earlier-preserved : goal.loop-earlier-preserved
loop-earlier-preserved c =
    let links = slot_links c.args.cluster.now in
    let earlier = c.loop-earlier.earlier in
    let old = c.args.links.now.items in
    let mid = c.loop-earlier.links.items in
    let few = c.params.invariant.static_slots_fit in
    elim c.match-new.branch [
      | in-Some+in_ok-push_slot w ↦
          let same = slot_is (earlier + 1) w.in-Some.slot (sym w.in-Some.ensures) in
          let next : earlier + 1 ≡ 1 + earlier = omega arith in
          ap (λ found. found.items) w.links-is
          ∙ one_number links 1 earlier old mid w.push_slot.new.links.items c.loop-earlier.invariant
          (w.in_ok-push_slot.ensures ∙ ap (λ (n : ℕ). mid ++ links n) (same ∙ next))
      | in_default w ↦ absurd (no_slot_is (earlier + 1) (omega arith) (omega arith) (sym w.in_default.ensures))
    ]
