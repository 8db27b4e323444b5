use Rattle.std.proofs.Common.{◌≡◌, ℕ, ◌+◌, subst, sym, ap, ◌∙◌, arith}
use Rattle.fr_slots.specs.Admission.{cycle_admitted}
use Rattle.fr_latency.proofs.CellLemmas.{IsMaskBelow, mask_none, mask_with, mask_without, mask_whole}
use Rattle.fr_latency.proofs.cells.mask_of.Goals as goal
use Rattle.fr_latency.proofs.cells.mask_of.Goals.{then-admits, else-admits}

pub loop-number-init : goal.loop-number-init
loop-number-init c = mask_none c.args.cycles

pub loop-number-preserved : goal.loop-number-preserved
loop-number-preserved c =
    let cycles = c.args.cycles in
    let number = c.loop-number.number in
    let answer : c.admits.result ≡ cycle_admitted cycles number = c.admits.ensures
    ∙ ap (cycle_admitted cycles) c.from_bits.ensures in
    elim c.if-admits.branch [
      | then-admits w ↦
          subst (λ (mask : ℕ). IsMaskBelow cycles (number + 1) mask) (sym w.mask-is)
          (mask_with cycles c.loop-number.mask number c.loop-number-test.true (sym answer ∙ w.if-admits.true)
          c.loop-number.invariant)
      | else-admits w ↦
          subst (λ (mask : ℕ). IsMaskBelow cycles (number + 1) mask) (sym w.mask-is)
          (mask_without cycles c.loop-number.mask number (sym answer ∙ w.if-admits.false) c.loop-number.invariant)
    ]

pub returns : goal.returns
returns c =
    let all : c.loop-number.number ≡ 64 = omega arith in
    mask_whole c.args.cycles c.loop-number.mask
    (subst (λ (n : ℕ). IsMaskBelow c.args.cycles n c.loop-number.mask) all c.loop-number.invariant)
