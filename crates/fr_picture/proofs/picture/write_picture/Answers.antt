use Rattle.fr_picture.proofs.GuardLemmas.{picture_done}
use Rattle.fr_picture.proofs.picture.write_picture.Goals as goal

pub returns : goal.returns
returns g c =
    picture_done c.close_picture.result c.args.cluster.now c.args.guardian.now c.args.cycle c.nodes.result
    c.args.ranges.now (g.W.Write.contents c.args.writer.now) (g.W.Write.contents c.write_front.new.writer)
    (g.W.Write.contents c.write_owners.new.writer) (g.W.Write.contents c.write_dynamic.new.writer)
    (g.W.Write.contents c.write_dynamic-2.new.writer) (g.W.Write.contents c.write_bytes.new.writer)
    (g.W.Write.contents c.write_guards.new.writer) (g.W.Write.contents c.close_picture.new.writer)
    c.requires.ranges c.requires.guardian c.nodes.ensures.value c.in_ok-write_front.ensures c.in_ok-write_owners.ensures
    c.in_ok-write_dynamic.ensures c.in_ok-write_dynamic-2.ensures c.in_ok-write_bytes.ensures
    c.in_ok-write_guards.ensures c.close_picture.ensures
