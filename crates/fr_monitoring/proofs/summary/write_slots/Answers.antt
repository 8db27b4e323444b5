use Rattle.fr_monitoring.proofs.LineLemmas.{slots_none, slots_more}
use Rattle.std.proofs.Common.{refl}
use Rattle.fr_monitoring.proofs.summary.write_slots.Goals as goal

pub loop-earlier-init : goal.loop-earlier-init
loop-earlier-init g c = slots_none c.args.judge.now (g.W.Write.contents c.args.writer.now)

pub loop-earlier-preserved : goal.loop-earlier-preserved
loop-earlier-preserved g c =
    slots_more c.args.judge.now c.loop-earlier.earlier _ (g.W.Write.contents c.args.writer.now)
    (g.W.Write.contents c.loop-earlier.writer) (g.W.Write.contents c.write_slot.new.writer)
    (g.W.Write.contents c.write_slot-in-loop-earlier.new.writer) refl c.loop-earlier.invariant
    c.in_ok-write_slot.ensures c.in_ok-write_slot-2.ensures
