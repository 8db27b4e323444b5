use Rattle.std.proofs.Common.{◌≡◌, sym, ap, ◌∙◌, arith}
use Rattle.std.proofs.lemmas.Grind.{common_steps}
use Rattle.fr_latency.specs.Loads.{has_owner}
use Rattle.fr_latency.proofs.BelowLemmas.{count_none, count_more}
use Rattle.fr_latency.proofs.load.owned_cycles.Goals as goal
use Rattle.fr_latency.proofs.load.owned_cycles.Goals.{then-has_owner, else-has_owner}

pub loop-number-init : goal.loop-number-init
loop-number-init c = record {
  few = omega arith;
  same = sym (count_none (has_owner c.args.cluster.now.plans c.args.slot c.args.channel));
}

pub loop-number-preserved : goal.loop-number-preserved
loop-number-preserved c =
    let number = c.loop-number.number in
    let test = has_owner c.args.cluster.now.plans c.args.slot c.args.channel in
    let answer : c.has_owner.result ≡ test number = c.has_owner.ensures ∙ ap test c.from_bits.ensures in
    let so_far = c.loop-number.invariant.same in
    let more = count_more test number in
    elim c.if-has_owner.branch [
      | then-has_owner w ↦ record { few = omega arith; same = grind (arith, common_steps) }
      | else-has_owner w ↦ record { few = omega arith; same = grind (arith, common_steps) }
    ]
