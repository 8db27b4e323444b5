use Rattle.std.proofs.Common.{rules, ◌≡◌}
use Rattle.fr_endless.proofs.TapLemmas.{trace_added}
use Rattle.fr_endless.proofs.taps.Taps.add_line.Goals as goal

pub returns-then-is_none : goal.returns-then-is_none
returns-then-is_none g c = λ text line.
    let place : c.from-place.result ≡ c.args.node = search rules in
    trace_added g.F.Write.contents c.self.inside.kept.items c.args.self.now c.self.inside.params c.self.inside.failed
    c.hand_line-self-inside.result c.self.inside.recorded c.self.inside.captured c.self.inside.traces.items
    c.hand_line-self-inside.new.traces.items c.is_none.result c.from-place.result c.args.node _ c.self.view_is
    c.is_none.ensures c.if-is_none.true place (c.hand_line-self-inside.ensures text line)
