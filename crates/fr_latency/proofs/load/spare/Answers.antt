use Rattle.std.proofs.Common.{◌≡◌, sym, ap, ◌∙◌, arith}
use Rattle.fr_slots.specs.Parameters.{Parameters}
use Rattle.fr_latency.specs.Below.{least_below}
use Rattle.fr_latency.specs.Loads.{spare_in}
use Rattle.fr_latency.proofs.BelowLemmas.{least_none, least_more}
use Rattle.fr_latency.proofs.load.spare.Goals as goal

pub loop-number-init : goal.loop-number-init
loop-number-init c =
    let d = c.args.cluster.now in
    ap (λ (p : Parameters). p.minislots) (c.behind-cluster.view_is ∙ c.params.ensures.value)
    ∙ sym (least_none d.params.minislots (spare_in d c.args.channel c.args.plan.now c.args.buffer.now))

pub loop-number-preserved : goal.loop-number-preserved
loop-number-preserved c =
    let d = c.args.cluster.now in
    let value = spare_in d c.args.channel c.args.plan.now c.args.buffer.now in
    let here : c.spare_in.result ≡ value c.loop-number.number = c.spare_in.ensures ∙ ap value c.from_bits.ensures in
    let more = least_more d.params.minislots value c.loop-number.number in
    let so_far : c.loop-number.least ≡ least_below d.params.minislots value c.loop-number.number =
    c.loop-number.invariant in
    omega (arith, here, more, so_far)
