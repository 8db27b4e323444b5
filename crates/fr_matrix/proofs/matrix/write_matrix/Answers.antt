use Rattle.std.proofs.Common.{◌≡◌, ℕ, ◌++◌, List, ap, subst, ◌∙◌}
use Rattle.std.specs.Io.KnownBytes.{Appends}
use Rattle.std.specs.Prelude.{OnOk}
use Rattle.std.proofs.KnownBytes.{Appends-trans}
use Rattle.fr_bus.specs.Windows.{cycles_begun}
use Rattle.fr_matrix.specs.Cells.{cells_text, matrix_text}
use Rattle.fr_matrix.specs.Pages.{page_end, page_front}
use Rattle.fr_matrix.specs.Places.{grid_of, most_drawn, rows_in}
use Rattle.fr_matrix.specs.declared.grid.Grid.{Grid}
use Rattle.fr_svg.proofs.NumberedLemmas.{last-written}
use Rattle.fr_matrix.proofs.matrix.write_matrix.Goals as goal

pub returns : goal.returns
returns g c =
    let p = c.args.params.now in
    let v = c.args.view.now in
    let all = c.args.recorded.now in
    let e = c.extent_of-extent.result in
    let is = c.extent_of-extent.ensures in
    let start = g.W.Write.contents c.args.writer.now in
    let fronted = g.W.Write.contents c.write_front.new.writer in
    let drawn = g.W.Write.contents c.write_cells.new.writer in
    let ended = g.W.Write.contents c.write_end.new.writer in
    let front = page_front v e.grid e.cycles e.rows e.most e.columns in
    let cells = cells_text p v e.grid e.columns all in
    let text = λ (cycles rows : ℕ) (grid : Grid) (most columns : ℕ).
    page_front v grid cycles rows most columns ++ cells_text p v grid columns all ++ page_end rows in
    let grid = grid_of p v all in
    let most = most_drawn v all in
    let same : text e.cycles e.rows e.grid e.most e.columns ≡ matrix_text p v all =
    ap (λ (n : ℕ). text n e.rows e.grid e.most e.columns) is.cycles
    ∙ ap (λ (n : ℕ). text (cycles_begun all) n e.grid e.most e.columns) is.rows
    ∙ ap (λ (x : Grid). text (cycles_begun all) (rows_in v all) x e.most e.columns) is.grid
    ∙ ap (λ (n : ℕ). text (cycles_begun all) (rows_in v all) grid n e.columns) is.most
    ∙ ap (λ (n : ℕ). text (cycles_begun all) (rows_in v all) grid most n) is.columns in
    subst (λ (t : List ℕ). OnOk c.write_end.result (Appends start ended t)) same
    (last-written c.write_end.result start drawn ended (front ++ cells) (page_end e.rows)
    (Appends-trans start fronted drawn front cells c.in_ok-write_front.ensures c.in_ok-write_cells.ensures)
    c.write_end.ensures)
