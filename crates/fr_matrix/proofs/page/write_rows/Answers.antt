use Rattle.std.proofs.Common.{◌++◌}
use Rattle.std.specs.Prelude.{codes}
use Rattle.std.proofs.KnownBytes.{Appends-trans}
use Rattle.fr_matrix.specs.Pages.{row_numbers}
use Rattle.fr_svg.specs.Elements.{group_end, group_front}
use Rattle.fr_svg.proofs.NumberedLemmas.{last-written}
use Rattle.fr_matrix.proofs.page.write_rows.Goals as goal

pub returns : goal.returns
returns g c =
    let start = g.W.Write.contents c.args.writer.now in
    let opened = g.W.Write.contents c.open_group.new.writer in
    let numbered = g.W.Write.contents c.write_row_numbers.new.writer in
    let front = group_front (codes "name") (codes "cycles of the run") in
    let numbers = row_numbers c.args.from c.args.rows in
    last-written c.close_group.result start numbered (g.W.Write.contents c.close_group.new.writer) (front ++ numbers)
    group_end
    (Appends-trans start opened numbered front numbers c.in_ok-open_group.ensures c.in_ok-write_row_numbers.ensures)
    c.close_group.ensures
