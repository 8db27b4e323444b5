use Rattle.std.proofs.Common.{◌≡◌, List, ℕ, subst, ◌∙◌}
use Rattle.std.specs.Io.KnownBytes.{Appends}
use Rattle.fr_files.proofs.OutputLemmas.{tells_written}
use Rattle.fr_links.specs.Commands.{HasLinks}
use Rattle.fr_links.specs.LinkText.{links_text}
use Rattle.fr_links.proofs.text.show_links.Goals as goal

pub returns-in-Ok : goal.returns-in-Ok
returns-in-Ok g c =
    let old = g.W.Write.contents c.args.writer.now in
    let d = c.in_ok-cluster.cluster in
    let text_is : c.as_slice.result.now ≡ links_text d = c.as_slice.ensures.value ∙ c.in-Ok.ensures in
    tells_written HasLinks (g.R.Read.remaining c.args.reader.now) d old
    (g.W.Write.contents c.write_whole.new.writer) c.as_slice.result.now c.write_whole.result c.in_ok-cluster.ensures
    (λ whole all. subst (λ (t : List ℕ). Appends old whole t) text_is all) c.write_whole.ensures.written
    c.write_whole.ensures.refused c.write_whole.ensures.cut
