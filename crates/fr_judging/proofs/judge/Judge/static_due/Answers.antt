use Rattle.std.proofs.Common.{◌<◌, ℕ, length, ap, ◌∙◌, arith, rules}
use Rattle.fr_judging.specs.DueTable.{width_of, due_place}
use Rattle.fr_judging.specs.Judging.{State}
use Rattle.fr_judging.specs.Rules.{due_at}
use Rattle.fr_judging.proofs.DueLemmas.{due_found, due_within}
use Rattle.fr_judging.proofs.judge.Judge.static_due.Goals as goal

pub index-requires : goal.index-requires
index-requires c =
    let slots_are = ap (λ (s : State). s.rules.cluster.params.static_slots) c.self.view_is in
    let within : c.due_place-place.result < length c.self.inside.dues.items =
    due_within c.self.inside.rules.cluster c.self.inside.dues.items c.args.slot c.self.inside.channel c.args.cycle
    c.due_place-place.result c.self.invariant.dues_are (omega (arith, c.requires, slots_are))
    c.due_place-place.ensures.fits
    (c.due_place-place.ensures.value
    ∙ ap (λ (w : ℕ). due_place w c.args.slot c.self.inside.channel c.args.cycle)
    (c.width_of-width.ensures ∙ ap width_of c.static_slots.ensures.value))
    in
    search (rules, within)

pub returns : goal.returns
returns c =
    let slots_are = ap (λ (s : State). s.rules.cluster.params.static_slots) c.self.view_is in
    c.index.ensures
    ∙ due_found c.self.inside.rules.cluster c.self.inside.dues.items c.args.slot c.self.inside.channel c.args.cycle
    c.due_place-place.result c.index.result.now c.self.invariant.dues_are (omega (arith, c.requires, slots_are))
    c.due_place-place.ensures.fits
    (c.due_place-place.ensures.value
    ∙ ap (λ (w : ℕ). due_place w c.args.slot c.self.inside.channel c.args.cycle)
    (c.width_of-width.ensures ∙ ap width_of c.static_slots.ensures.value))
    ∙ ap (λ (s : State). due_at s.rules.cluster c.args.slot s.channel c.args.cycle) c.self.view_is
