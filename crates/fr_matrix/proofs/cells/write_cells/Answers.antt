use Rattle.std.proofs.Common.{rules, arith, ◌≡◌, ℕ, ◌+◌, ◌-◌, ◌<◌, ◌^◌, ◌++◌, ◌∷◌, [], take, Bool, true, false, cond}
use Rattle.std.proofs.Common.{ap, ◌∙◌}
use Rattle.std.proofs.KnownBytes.{Appends-nil}
use Rattle.std.specs.Io.KnownBytes.{Appends}
use Rattle.fr_bus.specs.Windows.{begins_cycle}
use Rattle.fr_matrix.specs.Cells.{cell_at}
use Rattle.fr_matrix.proofs.MatrixLemmas.{Counted, none_counted, first_counted, later_counted, cell_more}
use Rattle.fr_matrix.proofs.MatrixLemmas.{counted_longer}
use Rattle.fr_matrix.proofs.cells.write_cells.Goals.{then-opens_cycle, else-opens_cycle}
use Rattle.fr_matrix.proofs.cells.write_cells.Goals as goal

pub loop-sealed-init : goal.loop-sealed-init
unfolding Rattle.fr_slots.specs.History.each_after
loop-sealed-init g c = (none_counted, Appends-nil (g.W.Write.contents c.args.writer.now))

pub loop-sealed-preserved : goal.loop-sealed-preserved
loop-sealed-preserved g c =
    let all = c.args.recorded.now in
    let e = c.args.extent.now in
    let place = c.loop-sealed.sealed-index in
    let r = c.sealed-item.result in
    let lt = c.loop-sealed-test.true in
    let h = c.loop-sealed.invariant.0 in
    let room : c.loop-sealed.cycles + 1 < 2 ^ 64 = search rules in
    let more : c.cycles_with-cycles.result ≡ c.loop-sealed.cycles + cond (begins_cycle r) 1 0 =
    c.cycles_with-cycles.ensures.counted room in
    let counted : Counted (take place all ++ r ∷ []) c.cycles_with-cycles.result (c.if-opens_cycle.windows + 1)
    (place + 1) =
    elim c.if-opens_cycle.branch [
      | then-opens_cycle w ↦
          let begins : begins_cycle r ≡ true = search rules in
          let one : c.cycles_with-cycles.result ≡ c.loop-sealed.cycles + 1 =
          more ∙ ap (λ (b : Bool). c.loop-sealed.cycles + cond b 1 0) begins in
          first_counted (take place all) r c.loop-sealed.cycles c.loop-sealed.windows place
          c.cycles_with-cycles.result c.if-opens_cycle.windows begins one w.windows-is h
      | else-opens_cycle w ↦
          let begins : begins_cycle r ≡ false = search rules in
          let none : c.cycles_with-cycles.result ≡ c.loop-sealed.cycles =
          omega (arith, more ∙ ap (λ (b : Bool). c.loop-sealed.cycles + cond b 1 0) begins) in
          later_counted (take place all) r c.loop-sealed.cycles c.loop-sealed.windows place
          c.cycles_with-cycles.result c.if-opens_cycle.windows begins none w.windows-is h
    ] in
    let one : Appends (g.W.Write.contents c.loop-sealed.writer) (g.W.Write.contents c.write_at.new.writer)
    (cell_at c.args.params.now c.args.view.now e.grid e.columns (c.cycles_with-cycles.result - 1)
    ((c.if-opens_cycle.windows + 1) - 1) r) =
    search rules in (
      counted_longer all place r c.cycles_with-cycles.result
          (c.if-opens_cycle.windows + 1) lt c.sealed-item.is counted,
      cell_more c.args.params.now c.args.view.now e.grid e.columns all place r c.cycles_with-cycles.result
          (c.if-opens_cycle.windows + 1)
          (g.W.Write.contents c.args.writer.now)
          (g.W.Write.contents c.loop-sealed.writer) (g.W.Write.contents c.write_at.new.writer) lt c.sealed-item.is
          counted c.loop-sealed.invariant.1 one,
    )
