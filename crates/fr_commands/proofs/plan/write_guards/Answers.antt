use Rattle.std.proofs.Common.{◌≡◌, ◌+◌, ◌<◌, ℕ, subst, sym, Some, None, arith}
use Rattle.std.proofs.lemmas.Bool.Decides.{nat_tests}
use Rattle.fr_slots.specs.declared.channel.Channel.TheVariants.{A, B}
use Rattle.fr_slots.specs.Numbers.{number_within}
use Rattle.fr_commands.specs.PlanText.{AreCycleTexts, AreGuardTexts, Adds, cycles_told}
use Rattle.fr_commands.proofs.PlanTextLemmas.{one_guard}
use Rattle.fr_commands.proofs.plan.write_guards.Goals.{in-Some+in_ok-write_cycles+in_ok-write_cycles-2, in_default}
use Rattle.fr_commands.proofs.plan.write_guards.Goals as goal

-- a number below 16 is a node's
node_is : (n node : ℕ) → number_within 0 15 n ≡ Some node → node ≡ n
node_is n node is = grind (arith, nat_tests)

no_node_is : (n : ℕ) → n < 16 → number_within 0 15 n ≡ None → ⊥
no_node_is n below is = grind (arith, nat_tests)

pub loop-number-preserved : goal.loop-number-preserved
loop-number-preserved g c =
    let d = c.args.guardian.now in
    let number = c.loop-number.number in
    let start = g.W.Write.contents c.args.writer.now in
    let before = g.W.Write.contents c.loop-number.writer in
    let told : c.cycles-cycles.result ≡ cycles_told d = c.cycles-cycles.ensures.value in
    elim c.match-new.branch [
      | in-Some+in_ok-write_cycles+in_ok-write_cycles-2 w ↦
          let first = g.W.Write.contents w.write_cycles.new.writer in
          let last = g.W.Write.contents w.write_cycles-in-Some.new.writer in
          let same = node_is number w.in-Some.node (sym w.in-Some.ensures) in
          subst (λ x. Adds (AreGuardTexts d (number + 1)) start (g.W.Write.contents x)) (sym w.writer-is)
          (one_guard d number start before first last c.loop-number.invariant
          (subst (λ (n : ℕ). Adds (AreCycleTexts d n A (cycles_told d)) before first) same
          (subst (λ (m : ℕ). Adds (AreCycleTexts d w.in-Some.node A m) before first) told
          w.in_ok-write_cycles.ensures))
          (subst (λ (n : ℕ). Adds (AreCycleTexts d n B (cycles_told d)) first last) same
          (subst (λ (m : ℕ). Adds (AreCycleTexts d w.in-Some.node B m) first last) told
          w.in_ok-write_cycles-2.ensures)))
      | in_default w ↦ absurd (no_node_is number (omega (arith, c.requires)) (sym w.in_default.ensures))
    ]
