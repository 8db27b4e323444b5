use Rattle.std.proofs.Common.{◌≡◌, true, None, List, slice_range, ap, sym, ◌∙◌}
use Rattle.std.proofs.lemmas.Bool.{cond-true}
use Rattle.fr_interface.proofs.RangeLemmas.{ownership-in}
use Rattle.fr_journal.specs.Offers.{ownership}
use Rattle.fr_slots.specs.declared.plan.Own.{Own}
use Rattle.fr_slots.specs.Plans.{Plan}
use Rattle.fr_slots.specs.Windows.{Opportunity, is_static}
use Rattle.fr_interface.proofs.offers.line_of.Goals as goal

pub returns : goal.returns
returns c =
    let plan = c.args.plan.now in
    let window = c.args.window.now in
    let slot = c.args.slot in
    let channel = c.args.channel in
    let range = c.own_range.result in
    let static : is_static window ≡ true = sym c.is_static.ensures ∙ c.if-not-is_static.false in
    let cycle : c.window.inside.cycle ≡ window.cycle = ap (λ (w : Opportunity). w.cycle) c.window.view_is in
    let part : c.of-owned.result.now ≡ slice_range plan.owned range.first range.end =
    c.of-owned.ensures ∙ ap (λ (l : List Own). slice_range l range.first range.end)
    (c.owned.ensures.value ∙ ap (λ (p : Plan). p.owned) c.as_plan.ensures) in
    c.ownership.ensures
    ∙ (λ i. ownership (part i) slot channel (cycle i))
    ∙ ownership-in plan.owned slot channel window.cycle range c.own_range.ensures
    ∙ sym (cond-true (is_static window) (ownership plan.owned slot channel window.cycle) None static)
