use Rattle.std.proofs.Common.{◌≡◌, sym, ap, ◌∙◌, arith}
use Rattle.fr_latency.specs.Below.{least_below, most_below}
use Rattle.fr_latency.specs.Loads.{demand}
use Rattle.fr_latency.proofs.BelowLemmas.{least_none, least_more, most_none, most_more}
use Rattle.fr_latency.proofs.load.demands.Goals as goal

pub loop-number-init : goal.loop-number-init
loop-number-init c =
    let value = demand c.args.cluster.now c.args.channel in
    record {
      fewest = c.demand-least.ensures ∙ ap value c.from_bits.ensures ∙ sym (least_none (value 0) value);
      most = sym (most_none value);
    }

pub loop-number-preserved : goal.loop-number-preserved
loop-number-preserved c =
    let value = demand c.args.cluster.now c.args.channel in
    let number = c.loop-number.number in
    let here : c.demand-minislots.result ≡ value number = c.demand-minislots.ensures
    ∙ ap value c.from_bits-in-loop-number.ensures in
    let fewest : c.loop-number.least ≡ least_below (value 0) value number = c.loop-number.invariant.fewest in
    let most : c.loop-number.most ≡ most_below value number = c.loop-number.invariant.most in
    let less = least_more (value 0) value number in
    let more = most_more value number in
    record { fewest = omega (arith, here, fewest, less); most = omega (arith, here, most, more) }
