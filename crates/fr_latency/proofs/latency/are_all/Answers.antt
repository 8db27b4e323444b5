use Rattle.std.proofs.Common.{◌≡◌, sym, ap, ◌∙◌, arith, ◌||◌}
use Rattle.std.proofs.lemmas.Grind.{common_steps}
use Rattle.std.specs.Prelude.{not}
use Rattle.fr_slots.specs.Admission.{cycle_admitted}
use Rattle.fr_latency.specs.Below.{all_below}
use Rattle.fr_latency.proofs.BelowLemmas.{all_none, all_more}
use Rattle.fr_latency.proofs.latency.are_all.Goals as goal
use Rattle.fr_latency.proofs.latency.are_all.Goals.{then-all+then-not-admitted, then-all+else-not-admitted, else-all}

pub loop-number-init : goal.loop-number-init
loop-number-init c = λ test are. sym (all_none (λ cycle. not (cycle_admitted c.args.cycles cycle) || test cycle))

pub loop-number-preserved : goal.loop-number-preserved
loop-number-preserved c = λ test are.
    let number = c.loop-number.number in
    let admits : c.admits-admitted.result ≡ cycle_admitted c.args.cycles number =
    c.admits-admitted.ensures ∙ ap (cycle_admitted c.args.cycles) c.from_bits.ensures in
    let answer = are number (omega arith) in
    let so_far = c.loop-number.invariant test are in
    let more = all_more (λ cycle. not (cycle_admitted c.args.cycles cycle) || test cycle) number in
    elim c.if-all.branch [
      | then-all+then-not-admitted w ↦ grind (arith, common_steps)
      | then-all+else-not-admitted w ↦ grind (arith, common_steps)
      | else-all w ↦ grind (arith, common_steps)
    ]

pub returns : goal.returns
returns c = λ test are.
    let all : c.loop-number.number ≡ 64 = omega arith in
    c.loop-number.invariant test are
    ∙ ap (all_below (λ cycle. not (cycle_admitted c.args.cycles cycle) || test cycle)) all
