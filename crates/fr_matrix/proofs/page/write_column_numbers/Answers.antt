use Rattle.std.proofs.Common.{◌≡◌, ◌+◌, arith}
use Rattle.fr_matrix.specs.Pages.{column_text}
use Rattle.fr_svg.proofs.NumberedLemmas.{number-more}
use Rattle.fr_matrix.proofs.page.write_column_numbers.Goals as goal

pub loop-place-preserved : goal.loop-place-preserved
loop-place-preserved g c =
    let same : c.loop-place.place ≡ 0 + c.loop-place.place = omega arith in
    number-more (column_text c.args.grid.now) 0 c.loop-place.place c.loop-place.place
    (g.W.Write.contents c.args.writer.now)
    (g.W.Write.contents c.loop-place.writer) (g.W.Write.contents c.write_column.new.writer) same
    c.loop-place.invariant
    c.in_ok-write_column.ensures
