use Rattle.std.proofs.Common.{◌++◌, ◌∷◌, [], get_or, map, set, sym, ap, ◌∙◌, arith}
use Rattle.std.proofs.lemmas.List.{map-set, get_or-map}
use Rattle.fr_scenario.proofs.run_calls.add_place.Goals as goal

pub returns-clause-places : goal.returns-clause-places
returns-clause-places c =
    let places = c.args.places.now.items in
    let at = c.from.result in
    let made = c.index_mut-made.result.now in
    let pushed = c.in_ok-push.ensures.items
    ∙ ap (λ v. v.items ++ c.args.place ∷ []) c.index_mut-made.ensures.value
    ∙ ap (λ ps. ps ++ c.args.place ∷ []) (sym (get_or-map (λ v. v.items) places at made []
    (omega (arith, c.from.ensures, c.args.places.now.ok.0)))) in
    map-set (λ v. v.items) places at c.push.new.self ∙ ap (λ ps. set (map (λ v. v.items) places) at ps) pushed
    ∙ ap (λ j. set (map (λ v. v.items) places) j (get_or (map (λ v. v.items) places) j [] ++ c.args.place ∷ []))
    c.from.ensures
