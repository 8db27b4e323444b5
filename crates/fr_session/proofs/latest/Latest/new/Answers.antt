use Rattle.std.proofs.Common.{rules, ◌≡◌, ◌∙◌, None, Option, ℕ, ap, replicate}
use Rattle.fr_session.proofs.latest.Latest.new.Goals as goal

pub returns : goal.returns
returns c =
    let end : c.loop-place._place ≡ 1024 = search rules in
    c.loop-place.invariant ∙ ap (λ (n : ℕ). replicate {A = Option ℕ} n None) end
