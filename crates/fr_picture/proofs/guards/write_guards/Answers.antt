use Rattle.std.proofs.Common.{◌≡◌, ◌+◌, ◌<◌, ℕ, subst, sym, Some, None, arith}
use Rattle.std.proofs.lemmas.Bool.Decides.{nat_tests}
use Rattle.fr_slots.specs.declared.channel.Channel.TheVariants.{A, B}
use Rattle.fr_slots.specs.Numbers.{number_within}
use Rattle.fr_picture.proofs.GuardLemmas.{no_guard, one_guard}
use Rattle.fr_picture.specs.Guards.{AreGuardRows, IsGuardRow}
use Rattle.fr_picture.specs.Owners.{Adds}
use Rattle.fr_picture.proofs.guards.write_guards.Goals.{in-Some+in_ok-write_row+in_ok-write_row-2, in_default}
use Rattle.fr_picture.proofs.guards.write_guards.Goals as goal

-- a number below 16 is a node's
node_is : (n node : ℕ) → number_within 0 15 n ≡ Some node → node ≡ n
node_is n node is = grind (arith, nat_tests)

no_node_is : (n : ℕ) → n < 16 → number_within 0 15 n ≡ None → ⊥
no_node_is n below is = grind (arith, nat_tests)

pub loop-number-init : goal.loop-number-init
loop-number-init g c = no_guard c.args.guardian.now c.args.cycle (g.W.Write.contents c.args.writer.now)

pub loop-number-preserved : goal.loop-number-preserved
loop-number-preserved g c =
    let d = c.args.guardian.now in
    let cycle = c.args.cycle in
    let number = c.loop-number.number in
    let start = g.W.Write.contents c.args.writer.now in
    let before = g.W.Write.contents c.loop-number.writer in
    elim c.match-new.branch [
      | in-Some+in_ok-write_row+in_ok-write_row-2 w ↦
          let first = g.W.Write.contents w.write_row.new.writer in
          let last = g.W.Write.contents w.write_row-in-Some.new.writer in
          let same = node_is number w.in-Some.node (sym w.in-Some.ensures) in
          subst (λ x. Adds (AreGuardRows d cycle (number + 1)) start (g.W.Write.contents x)) (sym w.writer-is)
          (one_guard d cycle number start before first last c.loop-number.invariant
          (subst (λ (n : ℕ). Adds (IsGuardRow d cycle n A) before first) same w.in_ok-write_row.ensures)
          (subst (λ (n : ℕ). Adds (IsGuardRow d cycle n B) first last) same w.in_ok-write_row-2.ensures))
      | in_default w ↦ absurd (no_node_is number (omega (arith, c.requires)) (sym w.in_default.ensures))
    ]
