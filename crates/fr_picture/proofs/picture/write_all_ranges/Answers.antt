use Rattle.fr_picture.proofs.RangeLemmas.{both_ranges}
use Rattle.fr_picture.proofs.picture.write_all_ranges.Goals as goal

pub returns : goal.returns
returns g c =
    both_ranges c.write_ranges-2.result c.args.cluster.now c.args.cycle (g.W.Write.contents c.args.writer.now)
    (g.W.Write.contents c.write_ranges.new.writer) (g.W.Write.contents c.write_ranges-2.new.writer)
    c.in_ok-write_ranges.ensures c.write_ranges-2.ensures
