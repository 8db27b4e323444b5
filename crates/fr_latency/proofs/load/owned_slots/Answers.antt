use Rattle.std.proofs.Common.{◌≡◌, ℕ, ◌+◌, sym, arith}
use Rattle.fr_latency.specs.Loads.{owned_cycles}
use Rattle.fr_latency.proofs.BelowLemmas.{sum_none, sum_more}
use Rattle.fr_latency.proofs.load.owned_slots.Goals as goal

pub loop-earlier-init : goal.loop-earlier-init
loop-earlier-init c = record {
  few = omega arith;
  same = sym (sum_none (λ earlier. owned_cycles c.args.cluster.now c.args.channel (earlier + 1)));
}

pub loop-earlier-preserved : goal.loop-earlier-preserved
loop-earlier-preserved c =
    let value = λ (earlier : ℕ). owned_cycles c.args.cluster.now c.args.channel (earlier + 1) in
    let here : c.owned_after.result ≡ value c.loop-earlier.earlier = c.owned_after.ensures.value in
    let more = sum_more value c.loop-earlier.earlier in
    let so_far = c.loop-earlier.invariant.same in
    record { few = omega arith; same = omega (arith, here, more, so_far) }
