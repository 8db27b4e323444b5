use Rattle.std.proofs.Common.{◌≡◌, ◌==◌, ◌-◌, ◌++◌, ◌∷◌, [], true, false, Some, le_refl, refl, rules, arith, ◌∙◌}
use Rattle.std.proofs.lemmas.Grind.{common_steps}
use Rattle.fr_reader.specs.UsualText.{inner_depth}
use Rattle.toml_parser.specs.Lexical.{first, skip_blank}
use Rattle.toml.proofs.Turns.{items_end, items_more}
use Rattle.toml.proofs.Views.{items_view-push}
use Rattle.toml.specs.Parse.{val}
use Rattle.toml.specs.View.{view}
use Rattle.fr_reader.proofs.value.array.Goals as goal

pub items-init : goal.items-init
items-init c = (search rules, le_refl _, λ n h. (n, h, rw c.new-values.ensures.items refl))

pub returns-then-first-eq93-clause-read : goal.returns-then-first-eq93-clause-read
returns-then-first-eq93-clause-read c n h =
    let l = c.items in
    let start_is = c.skip_blank-start.ensures.rest in
    let (m, room, loop) = l.invariant.2 n h in
    let closing : (first (skip_blank l.rest.now) == 93) ≡ true = grind (arith, common_steps) in
    loop
    ∙ items_end (val inner_depth) m _ l.rest.now (omega arith) closing
    ∙ rw (c.skip.ensures.rest, c.skip_blank-start.ensures.rest) refl

pub items-preserved : goal.items-preserved
items-preserved c =
    let l = c.items in
    let start_is = c.skip_blank-start.ensures.rest in
    let other : (first (skip_blank l.rest.now) == 93) ≡ false = grind (arith, common_steps) in
    let d = view c.in_ok-value.value in
    let after = c.in_ok-value.after.now in
    let value_is : val inner_depth (skip_blank l.rest.now) ≡ Some (d, after) =
    rw start_is at (c.in_ok-value.ensures.read inner_depth (omega arith)) in
    let pushed : c.push.new.self.items ≡ l.values.items ++ c.in_ok-value.value ∷ [] = search rules in
    let before = c.skip_blank-start.ensures.within in
    let shorter = c.in_ok-value.ensures.shorter in
    let within = c.in_ok-rest.ensures.within in (
      search rules,
      omega (arith, l.invariant.1),
      λ n h.
          let (m, room, loop) = l.invariant.2 n h in (
            m - 1,
            omega arith,
            loop
                ∙ items_more (val inner_depth) m _ l.rest.now d after _ (omega arith) other value_is
                c.in_ok-rest.ensures.read
                ∙ rw (pushed, items_view-push l.values.items c.in_ok-value.value) refl,
          ),
    )
