use Rattle.std.proofs.Common.{sym, arith}
use Rattle.std.proofs.lemmas.Grind.{common_steps}
use Rattle.fr_latency.proofs.BelowLemmas.{count_none, count_more}
use Rattle.fr_latency.proofs.latency.count.Goals as goal
use Rattle.fr_latency.proofs.latency.count.Goals.{then-answers-from, else-answers-from}

pub loop-number-init : goal.loop-number-init
loop-number-init c = record { few = omega arith; same = λ test are. sym (count_none test) }

pub loop-number-preserved : goal.loop-number-preserved
loop-number-preserved c =
    let number = c.loop-number.number in
    elim c.if-answers-from.branch [
      | then-answers-from w ↦
          record {
            few = omega arith;
            same = λ test are.
                let answer = are number (omega arith) in
                let so_far = c.loop-number.invariant.same test are in
                grind (arith, common_steps, count_more test number);
          }
      | else-answers-from w ↦
          record {
            few = omega arith;
            same = λ test are.
                let answer = are number (omega arith) in
                let so_far = c.loop-number.invariant.same test are in
                grind (arith, common_steps, count_more test number);
          }
    ]
