use Rattle.std.proofs.Common.{◌*◌, ◌≤◌, arith}
use Rattle.fr_capture.proofs.StartLemmas.{few_time}
use Rattle.fr_capture.proofs.moment.Moment.time.Goals as goal

pub overflow_add-result : goal.overflow_add-result
overflow_add-result c =
    let most : c.from-cycle_mt.result ≤ 20000 = omega (
      arith,
      c.params.invariant.cycle_mt_fit.at_most,
      c.from-cycle_mt.ensures,
    ) in
    let short : c.from-2.result * c.from-cycle_mt.result ≤ 1280000 = rw c.from-2.ensures (omega (arith, most)) in
    let few = few_time c.from.result (c.from-2.result * c.from-cycle_mt.result) c.from-3.result (omega arith) short
    (omega arith) in
    omega (arith, few)

pub returns-clause-few : goal.returns-clause-few
returns-clause-few c =
    let most : c.from-cycle_mt.result ≤ 20000 = omega (
      arith,
      c.params.invariant.cycle_mt_fit.at_most,
      c.from-cycle_mt.ensures,
    ) in
    let short : c.from-2.result * c.from-cycle_mt.result ≤ 1280000 = rw c.from-2.ensures (omega (arith, most)) in
    few_time c.from.result (c.from-2.result * c.from-cycle_mt.result) c.from-3.result (omega arith) short (omega arith)
