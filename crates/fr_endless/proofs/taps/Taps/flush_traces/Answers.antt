use Rattle.fr_endless.proofs.EachLemmas.{flushed_more}
use Rattle.fr_endless.proofs.TapLemmas.{added_none}
use Rattle.fr_endless.proofs.taps.Taps.flush_traces.Goals as goal

pub loop-place-init : goal.loop-place-init
loop-place-init g c = added_none c.args.self.now

pub loop-place-preserved : goal.loop-place-preserved
loop-place-preserved g c =
    flushed_more c.args.self.now c.loop-place.self c.flush_trace.new.self c.loop-place.place c.loop-place.invariant
    c.flush_trace.ensures
