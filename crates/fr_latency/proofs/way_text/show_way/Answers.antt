use Rattle.std.proofs.Common.{List, ℕ, subst, sym}
use Rattle.fr_files.proofs.OutputLemmas.{tells_written}
use Rattle.fr_latency.specs.WayText.{HasWay, IsTextBy}
use Rattle.fr_slots.specs.Parameters.{is_static_slot}
use Rattle.fr_latency.proofs.way_text.show_way.Goals as goal

pub returns : goal.returns
returns g c =
    let d = c.in_ok-cluster.cluster in
    let slot = c.args.slot in
    let channel = c.args.channel in
    let is = subst (λ (t : List ℕ). IsTextBy (is_static_slot d.params slot) d slot channel t)
    (sym c.as_slice.ensures.value) c.in_ok-text.ensures.text in
    tells_written (HasWay slot channel) (g.R.Read.remaining c.args.reader.now) d
    (g.W.Write.contents c.args.writer.now) (g.W.Write.contents c.write_whole.new.writer) c.as_slice.result.now
    c.write_whole.result c.in_ok-cluster.ensures (λ whole all. (c.as_slice.result.now, is, all))
    c.write_whole.ensures.written c.write_whole.ensures.refused c.write_whole.ensures.cut
