use Rattle.std.proofs.Common.{◌≡◌, ◌*◌, ◌≤◌, ℕ, replicate, arith, ap, ◌∙◌}
use Rattle.std.proofs.lemmas.List.{take-replicate}
use Rattle.fr_frame.proofs.payload.Payload.zeros.Goals as goal

pub returns : goal.returns
returns c =
    let count : 2 * c.from.result ≡ 2 * c.args.words = omega (arith, c.from.ensures) in
    let fits : 2 * c.from.result ≤ 254 = omega (arith, c.from.ensures, c.requires) in
    c.of.ensures ∙ take-replicate (2 * c.from.result) 254 0 fits ∙ ap (λ (n : ℕ). replicate n 0) count
