use Rattle.std.proofs.Common.{inr, refl, subst}
use Rattle.std.specs.Io.KnownBytes.{Appends}
use Rattle.std.specs.Prelude.{OnOk}
use Rattle.fr_picture.proofs.OwnerLemmas.{adds_text}
use Rattle.fr_picture.specs.Owners.{IsOwnerText, free_element}
use Rattle.fr_slots.specs.Parameters.{Parameters}
use Rattle.fr_picture.proofs.owners.write_owner.Goals as goal

pub returns-in-None : goal.returns-in-None
returns-in-None g c =
    let d = c.args.cluster.now in
    let old = g.W.Write.contents c.args.writer.now in
    let new = g.W.Write.contents c.write_free.new.writer in
    let r = c.write_free.result in
    let written = subst (λ (p : Parameters). OnOk r (Appends old new (free_element p c.args.slot c.args.channel)))
    c.params-in-None.ensures.value c.write_free.ensures in
    adds_text r (IsOwnerText d c.args.cycle c.args.slot c.args.channel)
    (free_element d.params c.args.slot c.args.channel) old new (inr (c.in-None.ensures.nobody, refl)) written
