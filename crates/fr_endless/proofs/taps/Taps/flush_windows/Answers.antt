use Rattle.fr_endless.proofs.TapLemmas.{flushed_added}
use Rattle.fr_endless.proofs.taps.Taps.flush_windows.Goals as goal

pub returns-then-is_none : goal.returns-then-is_none
returns-then-is_none g c =
    flushed_added g.F.Write.contents c.self.inside.kept.items c.args.self.now c.self.inside.params c.self.inside.failed
    c.flush_file-first.result c.flush_file-second.result c.first_failed-self-inside.result
    c.self.inside.recorded c.self.inside.captured c.flush_file-first.new.file c.flush_file-second.new.file
    c.self.inside.traces.items c.is_none.result c.self.view_is c.is_none.ensures c.if-is_none.true
    c.first_failed-self-inside.ensures c.flush_file-first.ensures c.flush_file-second.ensures
