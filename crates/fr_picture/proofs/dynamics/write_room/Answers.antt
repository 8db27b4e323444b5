use Rattle.std.proofs.Common.{rules}
use Rattle.std.specs.Io.KnownBytes.{Appends}
use Rattle.fr_picture.proofs.DynamicLemmas.{room_done}
use Rattle.fr_picture.specs.Dynamics.{dynamic_box}
use Rattle.fr_picture.specs.Shares.{room_left, room_length}
use Rattle.fr_picture.proofs.dynamics.write_room.Goals as goal

pub returns : goal.returns
returns g c =
    let d = c.args.cluster.now in
    let old = g.W.Write.contents c.args.writer.now in
    let mid = g.W.Write.contents c.write_box.new.writer in
    let boxed : Appends old mid (dynamic_box (room_left d.params) (room_length d.params) c.args.channel) =
    search rules in
    room_done c.write_slots.result d c.args.cycle c.args.channel old mid (g.W.Write.contents c.write_slots.new.writer)
    boxed c.write_slots.ensures
