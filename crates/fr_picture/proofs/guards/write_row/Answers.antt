use Rattle.std.proofs.Common.{rules, refl}
use Rattle.std.specs.Io.KnownBytes.{Appends}
use Rattle.std.specs.Prelude.{OnOk}
use Rattle.fr_picture.proofs.OwnerLemmas.{adds_text}
use Rattle.fr_picture.specs.Guards.{guard_row, IsGuardRow, row_text}
use Rattle.fr_picture.proofs.guards.write_row.Goals as goal

pub returns : goal.returns
returns g c =
    let d = c.args.guardian.now in
    let node = c.args.node in
    let channel = c.args.channel in
    let old = g.W.Write.contents c.args.writer.now in
    let new = g.W.Write.contents c.write_named.new.writer in
    let r = c.write_named.result in
    let spans = c.windows.result.now in
    let text = row_text d.params (guard_row node channel) node channel spans in
    let written : OnOk r (Appends old new text) = search rules in
    adds_text r (IsGuardRow d c.args.cycle node channel) text old new
    (record { spans = spans; maximal = c.windows.ensures.found; text_is = refl }) written
