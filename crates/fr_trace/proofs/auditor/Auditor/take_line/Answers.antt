use Rattle.std.proofs.Common.{◌≡◌, [], sym, ◌∙◌}
use Rattle.fr_trace.specs.Feeds.{held}
use Rattle.fr_trace.proofs.CutLemmas.{direct_read, held_nothing}
use Rattle.fr_trace.proofs.auditor.Auditor.take_line.Goals as goal

pub returns-then-rest-le-LINE : goal.returns-then-rest-le-LINE
returns-then-rest-le-LINE c =
    let empty : held c.args.self.now ≡ [] = held_nothing c.self.inside.fault c.self.inside.phase
    c.self.inside.line.items c.args.self.now c.self.view_is (sym c.is_empty.ensures ∙ c.if-is_empty.true) in
    direct_read c.args.self.now c.args.rest.now c.end_line.new.self empty c.requires c.if-rest-le-LINE.true
    c.end_line.ensures
