use Rattle.std.proofs.Common.{◌≡◌, ◌+◌, arith}
use Rattle.fr_picture.specs.Frames.{axis_number}
use Rattle.fr_svg.proofs.NumberedLemmas.{number-more}
use Rattle.fr_picture.proofs.frame.write_axis_numbers.Goals as goal

pub loop-earlier-preserved : goal.loop-earlier-preserved
loop-earlier-preserved g c =
    let earlier = c.loop-earlier.earlier in
    let same : earlier + 1 ≡ 1 + earlier = omega arith in
    number-more (axis_number c.args.params.now c.args.step) 1 earlier (earlier + 1)
    (g.W.Write.contents c.args.writer.now) (g.W.Write.contents c.loop-earlier.writer)
    (g.W.Write.contents c.write_axis_number.new.writer) same c.loop-earlier.invariant c.in_ok-write_axis_number.ensures
