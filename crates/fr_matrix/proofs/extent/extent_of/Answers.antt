use Rattle.std.proofs.Common.{rules, arith, ◌≡◌, ℕ, ◌+◌, ◌≤◌, ◌<◌, ◌^◌, cond, Bool, List, ◌++◌, ◌∷◌, [], take}
use Rattle.std.proofs.Common.{true, false, refl, ap, ap₂, ◌∙◌}
use Rattle.std.proofs.lemmas.List.{take_all}
use Rattle.fr_matrix.specs.Places.{columns_in, most_drawn}
use Rattle.fr_matrix.specs.declared.grid.Grid.{Grid}
use Rattle.fr_bus.specs.Windows.{begins_cycle}
use Rattle.fr_matrix.proofs.ExtentLemmas.{busy_in, none_measured, measured_more}
use Rattle.fr_matrix.proofs.MatrixLemmas.{Counted, first_counted, later_counted}
use Rattle.fr_matrix.proofs.extent.extent_of.Goals.{then-opens_cycle, else-opens_cycle}
use Rattle.fr_matrix.proofs.extent.extent_of.Goals as goal

pub loop-sealed-init : goal.loop-sealed-init
loop-sealed-init c = none_measured c.args.view.now _ refl

pub loop-sealed-preserved : goal.loop-sealed-preserved
loop-sealed-preserved c =
    let all = c.args.recorded.now in
    let place = c.loop-sealed.sealed-index in
    let r = c.sealed-item.result in
    let lt = c.loop-sealed-test.true in
    let h = c.loop-sealed.invariant.counted in
    let room : c.loop-sealed.cycles + 1 < 2 ^ 64 = search rules in
    let more : c.cycles_with-cycles.result ≡ c.loop-sealed.cycles + cond (begins_cycle r) 1 0 =
    c.cycles_with-cycles.ensures.counted room in
    let counted : Counted (take place all ++ r ∷ []) c.cycles_with-cycles.result (c.if-opens_cycle.windows + 1)
    (place + 1) =
    elim c.if-opens_cycle.branch [
      | then-opens_cycle w ↦
          let begins : begins_cycle r ≡ true = search rules in
          let one : c.cycles_with-cycles.result ≡ c.loop-sealed.cycles + 1 =
          more ∙ ap (λ (b : Bool). c.loop-sealed.cycles + cond b 1 0) begins in
          first_counted (take place all) r c.loop-sealed.cycles c.loop-sealed.windows place
          c.cycles_with-cycles.result c.if-opens_cycle.windows begins one w.windows-is h
      | else-opens_cycle w ↦
          let begins : begins_cycle r ≡ false = search rules in
          let none : c.cycles_with-cycles.result ≡ c.loop-sealed.cycles =
          omega (arith, more ∙ ap (λ (b : Bool). c.loop-sealed.cycles + cond b 1 0) begins) in
          later_counted (take place all) r c.loop-sealed.cycles c.loop-sealed.windows place
          c.cycles_with-cycles.result c.if-opens_cycle.windows begins none w.windows-is h
    ] in
    let some : 1 ≤ c.if-opens_cycle.windows + 1 = omega arith in
    measured_more c.args.view.now all place r c.cycles_with-cycles.result (c.if-opens_cycle.windows + 1)
    c.loop-sealed.most c.widened-most.result c.loop-sealed.busy c.mark.new.busy lt c.sealed-item.is counted some
    c.loop-sealed.invariant.most_is c.loop-sealed.invariant.busy_is (search rules) (search rules)

-- the columns, and the columns that are drawn
grid_is : goal.returns-clause-grid
grid_is c =
    let v = c.args.view.now in
    let all = c.args.recorded.now in
    let slots : c.params.inside.static_slots ≡ c.args.params.now.static_slots = search rules in
    let whole : take c.loop-sealed.sealed-index all ≡ all =
    take_all c.loop-sealed.sealed-index all (search rules) in
    let busy : c.loop-sealed.busy ≡ busy_in v all = c.loop-sealed.invariant.busy_is ∙ ap (busy_in v) whole in
    ap₂ {C = Grid} (λ (n : ℕ) (marks : List Bool). record { static_slots = n; first = v.from_window; busy = marks })
    slots busy

pub returns-clause-grid : goal.returns-clause-grid
returns-clause-grid c = grid_is c

pub returns-clause-columns : goal.returns-clause-columns
returns-clause-columns c =
    let v = c.args.view.now in
    let all = c.args.recorded.now in
    let whole : take c.loop-sealed.sealed-index all ≡ all =
    take_all c.loop-sealed.sealed-index all (search rules) in
    let most : c.loop-sealed.most ≡ most_drawn v all =
    c.loop-sealed.invariant.most_is ∙ ap (most_drawn v) whole in
    c.columns_of.ensures.columns ∙ ap₂ columns_in (grid_is c) most
