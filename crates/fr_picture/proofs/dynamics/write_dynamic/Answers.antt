use Rattle.std.proofs.Common.{rules, ◌<◌, ◌≤◌, inl, inr, [], refl}
use Rattle.std.proofs.KnownBytes.{Appends-nil}
use Rattle.fr_picture.proofs.DynamicLemmas.{adds_other}
use Rattle.fr_picture.specs.Dynamics.{IsDynamicText, IsRoomText}
use Rattle.fr_timing.specs.Segments.{dynamic_start, symbol_start}
use Rattle.fr_picture.proofs.dynamics.write_dynamic.Goals as goal

pub returns-then-has_room : goal.returns-then-has_room
returns-then-has_room g c =
    let d = c.args.cluster.now in
    let some : dynamic_start d.params < symbol_start d.params = search rules in
    adds_other c.write_room.result (IsRoomText d c.args.cycle c.args.channel)
    (IsDynamicText d c.args.cycle c.args.channel)
    (g.W.Write.contents c.args.writer.now) (g.W.Write.contents c.write_room.new.writer)
    (λ text is. inr (some, is)) c.write_room.ensures

pub returns-else-has_room : goal.returns-else-has_room
returns-else-has_room g c =
    let none : symbol_start c.args.cluster.now.params ≤ dynamic_start c.args.cluster.now.params = search rules in
    ([], inl (none, refl), Appends-nil (g.W.Write.contents c.args.writer.now))
