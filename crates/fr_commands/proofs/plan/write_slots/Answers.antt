use Rattle.std.proofs.Common.{◌≡◌, ◌+◌, ◌≤◌, ℕ, subst, sym, ◌∙◌, Some, None, arith}
use Rattle.std.proofs.lemmas.Bool.Decides.{nat_tests}
use Rattle.std.specs.Io.KnownBytes.{Appends}
use Rattle.std.specs.List.{flat_map, range_with_len}
use Rattle.fr_slots.specs.Numbers.{number_within}
use Rattle.fr_commands.specs.PlanText.{slot_text}
use Rattle.fr_commands.proofs.PlanTextLemmas.{one_more}
use Rattle.fr_commands.proofs.plan.write_slots.Goals.{in-Some+in_ok-write_slot, in_default}
use Rattle.fr_commands.proofs.plan.write_slots.Goals as goal

-- a number from 1 to 2047 is a slot's
slot_is : (n slot : ℕ) → number_within 1 2047 n ≡ Some slot → slot ≡ n
slot_is n slot is = grind (arith, nat_tests)

no_slot_is : (n : ℕ) → 1 ≤ n → n ≤ 2047 → number_within 1 2047 n ≡ None → ⊥
no_slot_is n low high is = grind (arith, nat_tests)

pub loop-earlier-preserved : goal.loop-earlier-preserved
loop-earlier-preserved g c =
    let text = slot_text c.args.cluster.now.plans in
    let earlier = c.loop-earlier.earlier in
    let start = g.W.Write.contents c.args.writer.now in
    let before = g.W.Write.contents c.loop-earlier.writer in
    let few = c.params.invariant.static_slots_fit in
    elim c.match-new.branch [
      | in-Some+in_ok-write_slot w ↦
          let after = g.W.Write.contents w.write_slot.new.writer in
          let same = slot_is (earlier + 1) w.in-Some.slot (sym w.in-Some.ensures) in
          subst (λ x. Appends start (g.W.Write.contents x) (flat_map text (range_with_len 1 (earlier + 1))))
          (sym w.writer-is)
          (one_more text 1 earlier start before after c.loop-earlier.invariant
          (subst (λ (n : ℕ). Appends before after (text n))
          (same ∙ (let e : earlier + 1 ≡ 1 + earlier = omega arith in e)) w.in_ok-write_slot.ensures))
      | in_default w ↦ absurd (no_slot_is (earlier + 1) (omega arith) (omega arith) (sym w.in_default.ensures))
    ]
