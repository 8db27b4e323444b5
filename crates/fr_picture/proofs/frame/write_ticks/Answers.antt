use Rattle.fr_picture.proofs.TickLemmas.{no_ticks, one_tick}
use Rattle.fr_picture.proofs.frame.write_ticks.Goals as goal

pub loop-macrotick-init : goal.loop-macrotick-init
loop-macrotick-init g c = no_ticks c.args.params.now (g.W.Write.contents c.args.writer.now)

pub loop-macrotick-preserved : goal.loop-macrotick-preserved
loop-macrotick-preserved g c =
    let i = c.loop-macrotick.macrotick-index in
    one_tick c.args.params.now c.args.macroticks.now i c.loop-macrotick.from c.tick_end-from.result c.across-left.result
    (g.W.Write.contents c.args.writer.now) (g.W.Write.contents c.loop-macrotick.writer)
    (g.W.Write.contents c.write_tick_at.new.writer) c.loop-macrotick-test.true c.loop-macrotick.invariant
    c.across-left.ensures.value c.in_ok-write_tick_at.ensures c.tick_end-from.ensures
