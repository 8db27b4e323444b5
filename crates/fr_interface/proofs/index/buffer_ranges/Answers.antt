use Rattle.fr_interface.proofs.RangeLemmas.{ranges-widened, ranges-all}
use Rattle.fr_slots.specs.declared.plan.Buffer.{Buffer}
use Rattle.fr_interface.proofs.index.buffer_ranges.Goals as goal

pub loop-place-init : goal.loop-place-init
loop-place-init c = c.in_ok-ranges.ensures

pub loop-place-preserved : goal.loop-place-preserved
loop-place-preserved c =
    ranges-widened (λ (line : Buffer). line.filter.slot) c.args.buffers.now c.loop-place.place
    c.index-buffers-place.result c.number.result c.loop-place.ranges.items c.widen.new.ranges.items
    c.loop-place-test.true c.index-buffers-place.is c.number.ensures.value c.widen.ensures c.loop-place.invariant

pub returns : goal.returns
returns c = ranges-all (λ (line : Buffer). line.filter.slot) c.args.buffers.now c.loop-place.place
    c.loop-place.ranges.items c.loop-place-test.false c.loop-place.invariant
