use Rattle.std.proofs.Common.{◌≡◌, [], ◌∷◌, ◌++◌, Bool, List, ℕ, map, sym, ap, ◌∙◌, Bor}
use Rattle.fr_scenario.proofs.ListLemmas.{line_kept}
use Rattle.fr_scenario.specs.Choosing.{kept_if}
use Rattle.fr_scenario.proofs.lists.statements_from.Goals as goal

pub returns-then-branch : goal.returns-then-branch
returns-then-branch c =
    let words : List (Bor (List ℕ)) → List (List ℕ) = map (λ word. word.now) in
    let first : words c.push.new.self.items ≡ c.args.kind.now ∷ [] =
    ap words (c.push.ensures.items ∙ ap (λ (ws : List (Bor (List ℕ))). ws ++ c.args.kind ∷ []) c.new-chosen.ensures) in
    ap (λ (done : Bool). kept_if done c.add_choices.new.said.items) (sym c.if-branch.true)
    ∙ line_kept c.args.names.now c.args.kind.now (words c.args.left.now) (words c.push.new.self.items)
    c.in_ok-said.said.items c.add_choices.new.said.items c.in_ok-add_choices.field-0 first c.in_ok-said.ensures.items
    c.in_ok-add_choices.ensures.said

pub returns-else-branch : goal.returns-else-branch
returns-else-branch c =
    let words : List (Bor (List ℕ)) → List (List ℕ) = map (λ word. word.now) in
    let first : words c.push.new.self.items ≡ c.args.kind.now ∷ [] =
    ap words (c.push.ensures.items ∙ ap (λ (ws : List (Bor (List ℕ))). ws ++ c.args.kind ∷ []) c.new-chosen.ensures) in
    ap (λ (done : Bool). kept_if done c.add_choices.new.said.items) (sym c.if-branch.false)
    ∙ line_kept c.args.names.now c.args.kind.now (words c.args.left.now) (words c.push.new.self.items)
    c.in_ok-said.said.items c.add_choices.new.said.items c.in_ok-add_choices.field-0 first c.in_ok-said.ensures.items
    c.in_ok-add_choices.ensures.said
