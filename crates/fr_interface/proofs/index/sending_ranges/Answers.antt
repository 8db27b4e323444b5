use Rattle.fr_interface.proofs.RangeLemmas.{ranges-widened, ranges-all}
use Rattle.fr_interface.specs.Ranges.{sending_slot}
use Rattle.fr_interface.proofs.index.sending_ranges.Goals as goal

pub loop-place-init : goal.loop-place-init
loop-place-init c = c.in_ok-ranges.ensures

pub loop-place-preserved : goal.loop-place-preserved
loop-place-preserved c =
    ranges-widened sending_slot c.args.buffers.now c.loop-place.place c.index-buffers-place.result
    c.sending_slot.result c.loop-place.ranges.items c.widen.new.ranges.items c.loop-place-test.true
    c.index-buffers-place.is c.sending_slot.ensures.value c.widen.ensures c.loop-place.invariant

pub returns : goal.returns
returns c = ranges-all sending_slot c.args.buffers.now c.loop-place.place c.loop-place.ranges.items
    c.loop-place-test.false c.loop-place.invariant
