use Rattle.std.proofs.Common.{Option, subst}
use Rattle.std.proofs.KnownBytes.{Appends-nil}
use Rattle.std.specs.Io.KnownBytes.{Appends}
use Rattle.std.specs.Prelude.{OnOk}
use Rattle.fr_picture.specs.Dynamics.{first_text}
use Rattle.fr_slots.specs.declared.plan.Buffer.{Buffer}
use Rattle.fr_picture.proofs.dynamics.write_buffer_at.Goals as goal

pub returns-in-Some : goal.returns-in-Some
returns-in-Some g c =
    let old = g.W.Write.contents c.args.writer.now in
    let new = g.W.Write.contents c.write_buffer.new.writer in
    subst (λ (o : Option Buffer). OnOk c.write_buffer.result (Appends old new (first_text o))) c.in-Some.ensures
    c.write_buffer.ensures

pub returns-in-None : goal.returns-in-None
returns-in-None g c =
    let old = g.W.Write.contents c.args.writer.now in
    subst (λ (o : Option Buffer). Appends old old (first_text o)) c.in-None.ensures (Appends-nil old)
