use Rattle.std.proofs.Common.{rules, ◌≡◌, ◌∙◌, None, Option, ℕ, List, ap, replicate}
use Rattle.fr_endless.proofs.keeping.new_texts.Goals as goal

pub returns : goal.returns
returns c =
    let end : c.loop-place._place ≡ c.args.count = search rules in
    c.loop-place.invariant ∙ ap (λ (n : ℕ). replicate {A = Option (List ℕ)} n None) end
