use Rattle.std.proofs.Common.{◌≡◌, sym, arith}
use Rattle.fr_latency.specs.Below.{most_below}
use Rattle.fr_latency.specs.Latencies.{wait_if}
use Rattle.fr_latency.proofs.BelowLemmas.{most_none, most_more}
use Rattle.fr_latency.proofs.latency.worst.Goals as goal

pub loop-cycle-init : goal.loop-cycle-init
loop-cycle-init c = λ test end are numbers. sym (most_none (wait_if c.args.params.now.cycle_mt test c.args.start end))

pub loop-cycle-preserved : goal.loop-cycle-preserved
loop-cycle-preserved c = λ test end are numbers.
    let value = wait_if c.args.params.now.cycle_mt test c.args.start end in
    let so_far : c.loop-cycle.most ≡ most_below value c.loop-cycle.cycle = c.loop-cycle.invariant test end are
    numbers in
    let here : c.wait_if.result ≡ value c.loop-cycle.cycle = c.wait_if.ensures test end are numbers in
    omega (arith, c.max-most.ensures, so_far, here, most_more value c.loop-cycle.cycle)
