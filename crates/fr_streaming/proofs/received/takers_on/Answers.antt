use Rattle.std.proofs.Common.{None}
use Rattle.fr_capture.proofs.TakerLemmas.{takers_is}
use Rattle.fr_streaming.proofs.received.takers_on.Goals as goal

pub returns : goal.returns
returns c =
    let o = c.args.observation.now in
    takers_is o.params.now o.plan.now o.window.now o.a.now o.b.now c.args.came.a c.args.came.b c.requires.a
    c.requires.b c.args.channel None
