use Rattle.std.proofs.KnownBytes.{Appends-nil}
use Rattle.fr_showing.specs.Reasons.{effects_of}
use Rattle.fr_trace.proofs.WritingLemmas.{written-more}
use Rattle.fr_showing.proofs.reasons.write_all_effects.Goals as goal

pub loop-transmission-init : goal.loop-transmission-init
loop-transmission-init g c = Appends-nil (g.W.Write.contents c.args.writer.now)

pub loop-transmission-preserved : goal.loop-transmission-preserved
loop-transmission-preserved g c =
    written-more (effects_of c.args.scenario.now c.args.params.now c.args.cycle c.args.sealed.now) _
    c.loop-transmission.transmission-index c.transmission-item.result
    (g.W.Write.contents c.args.writer.now) (g.W.Write.contents c.loop-transmission.writer)
    (g.W.Write.contents c.write_effects.new.writer)
    c.loop-transmission-test.true c.transmission-item.is c.loop-transmission.invariant c.in_ok-write_effects.ensures
