use Rattle.std.proofs.Common.{◌≡◌, ap, arith, length}
use Rattle.fr_endless.proofs.EachLemmas.{each_head, each_more, each_none, head_got}
use Rattle.fr_endless.specs.Taps.{head_at}
use Rattle.fr_endless.proofs.taps.Taps.begin_traces.Goals as goal

pub loop-place-init : goal.loop-place-init
loop-place-init g c = each_none c.args.self.now (head_at c.args.cluster.now c.args.room.now)

pub loop-place-preserved : goal.loop-place-preserved
loop-place-preserved g c =
    each_more c.args.self.now c.loop-place.self c.add_head.new.self (head_at c.args.cluster.now c.args.room.now)
    c.loop-place.place _
    (head_got c.args.cluster.now c.args.room.now c.params.result.now c.plans-plans.result.now c.loop-place.place
    c.index-plans-place.result c.params.ensures.value c.plans-plans.ensures.value c.loop-place-test.true
    c.index-plans-place.is)
    c.loop-place.invariant c.add_head.ensures

pub returns : goal.returns
returns g c =
    let many : length c.plans-plans.result.now
    ≡ length c.args.cluster.now.plans = ap length c.plans-plans.ensures.value in
    each_head c.args.self.now c.loop-place.self c.args.cluster.now c.args.room.now c.loop-place.place
    (omega (arith, c.loop-place-test.false, many)) c.loop-place.invariant
