use Rattle.std.proofs.Common.{◌≡◌, ◌+◌, arith}
use Rattle.fr_picture.specs.Frames.{low_rule}
use Rattle.fr_svg.proofs.NumberedLemmas.{number-more}
use Rattle.fr_picture.proofs.frame.write_low_rules.Goals as goal

pub loop-number-preserved : goal.loop-number-preserved
loop-number-preserved g c =
    let same : c.loop-number.number ≡ 0 + c.loop-number.number = omega arith in
    number-more low_rule 0 c.loop-number.number (c.loop-number.number) (g.W.Write.contents c.args.writer.now)
    (g.W.Write.contents c.loop-number.writer) (g.W.Write.contents c.write_low.new.writer) same c.loop-number.invariant
    c.in_ok-write_low.ensures
