use Rattle.std.proofs.Common.{List, ℕ, subst, sym}
use Rattle.fr_files.proofs.OutputLemmas.{tells_written}
use Rattle.fr_picture.specs.Schedules.{HasPicture, IsPicture}
use Rattle.fr_picture.proofs.picture.show_schedule.Goals as goal

pub returns : goal.returns
returns g c =
    let d = c.in_ok-cluster.cluster in
    let cycle = c.args.cycle in
    let is = subst (λ (t : List ℕ). IsPicture d cycle t) (sym c.as_slice.ensures.value) c.in_ok-text.ensures.picture in
    tells_written (HasPicture cycle) (g.R.Read.remaining c.args.reader.now) d
    (g.W.Write.contents c.args.writer.now) (g.W.Write.contents c.write_whole.new.writer) c.as_slice.result.now
    c.write_whole.result c.in_ok-cluster.ensures (λ whole all. (c.as_slice.result.now, is, all))
    c.write_whole.ensures.written c.write_whole.ensures.refused c.write_whole.ensures.cut
