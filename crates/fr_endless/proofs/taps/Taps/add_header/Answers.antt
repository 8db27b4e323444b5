use Rattle.fr_endless.proofs.TapLemmas.{header_added}
use Rattle.fr_endless.proofs.taps.Taps.add_header.Goals as goal

pub returns-then-is_none : goal.returns-then-is_none
returns-then-is_none g c =
    header_added g.F.Write.contents c.self.inside.kept.items c.args.self.now c.self.inside.params c.self.inside.failed
    c.write_header-self-inside.result c.self.inside.recorded c.self.inside.captured
    c.write_header-self-inside.new.file c.self.inside.traces.items
    c.is_none.result c.self.view_is c.is_none.ensures c.if-is_none.true c.write_header-self-inside.ensures
