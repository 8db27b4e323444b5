use Rattle.std.proofs.Common.{◌≡◌, ◌+◌, arith}
use Rattle.fr_matrix.specs.Pages.{row_text}
use Rattle.fr_svg.proofs.NumberedLemmas.{number-more}
use Rattle.fr_matrix.proofs.page.write_row_numbers.Goals as goal

pub loop-row-preserved : goal.loop-row-preserved
loop-row-preserved g c =
    let same : c.loop-row.row ≡ 0 + c.loop-row.row = omega arith in
    number-more (row_text c.args.from) 0 c.loop-row.row c.loop-row.row (g.W.Write.contents c.args.writer.now)
    (g.W.Write.contents c.loop-row.writer) (g.W.Write.contents c.write_row.new.writer) same c.loop-row.invariant
    c.in_ok-write_row.ensures
