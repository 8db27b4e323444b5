use Rattle.std.proofs.Common.{refl}
use Rattle.fr_endless.proofs.TapLemmas.{trace_added}
use Rattle.fr_endless.proofs.taps.Taps.end_trace.Goals as goal

pub returns-then-is_none : goal.returns-then-is_none
returns-then-is_none g c =
    trace_added g.F.Write.contents c.self.inside.kept.items c.args.self.now c.self.inside.params c.self.inside.failed
    c.hand_trace-self-inside.result c.self.inside.recorded c.self.inside.captured c.self.inside.traces.items
    c.hand_trace-self-inside.new.traces.items c.is_none.result c.args.place c.args.place _ c.self.view_is
    c.is_none.ensures c.if-is_none.true refl c.hand_trace-self-inside.ensures
