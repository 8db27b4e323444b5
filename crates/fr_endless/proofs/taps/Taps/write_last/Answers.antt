use Rattle.std.proofs.Common.{◌∙◌, ap}
use Rattle.std.specs.Prelude.{◌-◌}
use Rattle.fr_endless.proofs.TapLemmas.{window_added}
use Rattle.fr_endless.proofs.taps.Taps.write_last.Goals as goal

pub returns-then-is_none : goal.returns-then-is_none
returns-then-is_none g c =
    window_added g.F.Write.contents c.self.inside.kept.items c.args.self.now c.self.inside.params c.self.inside.failed
    c.write_recorded-first.result c.write_captured-second.result c.first_failed-self-inside.result
    c.self.inside.recorded c.self.inside.captured c.write_recorded-first.new.file c.write_captured-second.new.file
    c.self.inside.traces.items c.self.inside.scenario c.saturating_sub-cycle.result c.args.bus.now.bus.course.begun
    c.in-Some.sealed.now
    c.args.bus.now.last c.is_none.result c.self.view_is c.is_none.ensures c.if-is_none.true c.self.invariant
    (c.saturating_sub-cycle.ensures ∙ ap (λ n. n - 1) c.cycles_begun.ensures) c.in-Some.ensures
    c.first_failed-self-inside.ensures c.write_recorded-first.ensures c.write_captured-second.ensures
