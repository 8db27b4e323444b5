use Rattle.std.proofs.Common.{rules, ◌≡◌, List, subst}
use Rattle.fr_bus.specs.Record.{Recorded}
use Rattle.fr_matrix.specs.Cells.{IsMatrix}
use Rattle.fr_slots.specs.Parameters.{Parameters}
use Rattle.fr_showing.proofs.shown.drawn_in.Goals as goal

pub returns-in-Ok-clause-text : goal.returns-in-Ok-clause-text
returns-in-Ok-clause-text c =
    let view = c.args.view.now in
    let bus = c.args.world.now.bus in
    let text = c.in-Ok.text.items in
    let params : c.params_of.result.now ≡ bus.cluster.params = search rules in
    let sealed : c.record.result.now ≡ bus.sealed = search rules in
    subst (λ (p : Parameters). IsMatrix p view bus.sealed text) params
    (subst (λ (rs : List Recorded). IsMatrix c.params_of.result.now view rs text) sealed c.in-Ok.ensures)
