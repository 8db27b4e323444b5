use Rattle.std.proofs.Common.{ℕ, ◌++◌, subst}
use Rattle.std.specs.Io.KnownBytes.{Appends}
use Rattle.std.proofs.KnownBytes.{Appends-trans}
use Rattle.fr_matrix.specs.Pages.{columns_text, dynamic_text, headed_in, heading_text, height_of, opening_text}
use Rattle.fr_matrix.specs.Pages.{page_front, rows_text, width_of}
use Rattle.fr_svg.proofs.NumberedLemmas.{last-written}
use Rattle.fr_matrix.proofs.page.write_front.Goals as goal

pub returns : goal.returns
unfolding page_front
returns g c =
    let v = c.args.view.now in
    let e = c.args.extent.now in
    let start = g.W.Write.contents c.args.writer.now in
    let opened = g.W.Write.contents c.write_opening.new.writer in
    let headed = g.W.Write.contents c.write_heading.new.writer in
    let numbered = g.W.Write.contents c.write_columns.new.writer in
    let named = g.W.Write.contents c.write_dynamic.new.writer in
    let opening = opening_text v.channel v.node (width_of e.grid e.columns) (height_of e.rows) in
    let opens = subst (λ (n : ℕ). Appends start opened (opening_text v.channel v.node n (height_of e.rows)))
    c.width_of.ensures.width (subst (λ (n : ℕ). Appends start opened
    (opening_text v.channel v.node c.width_of.result n)) c.height_of.ensures c.in_ok-write_opening.ensures) in
    let heading = heading_text v e.cycles e.rows e.most e.columns in
    let columns = columns_text e.grid (headed_in e.grid e.columns) in
    let numbers = subst (λ (n : ℕ). Appends headed numbered (columns_text e.grid n)) c.headed_in-headed.ensures
    c.in_ok-write_columns.ensures in
    let dynamic = dynamic_text e.grid (headed_in e.grid e.columns) e.columns in
    let names = subst (λ (n : ℕ). Appends numbered named (dynamic_text e.grid n e.columns)) c.headed_in-headed.ensures
    c.in_ok-write_dynamic.ensures in
    last-written c.write_rows.result start named (g.W.Write.contents c.write_rows.new.writer)
    (opening ++ heading ++ columns ++ dynamic) (rows_text v.from e.rows)
    (Appends-trans start numbered named (opening ++ heading ++ columns) dynamic
    (Appends-trans start headed numbered (opening ++ heading) columns
    (Appends-trans start opened headed opening heading opens c.in_ok-write_heading.ensures)
    numbers)
    names)
    c.write_rows.ensures
