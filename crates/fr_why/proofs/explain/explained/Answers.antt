use Rattle.std.proofs.Common.{ℕ, ap, ◌∙◌, subst}
use Rattle.fr_why.specs.Faults.{window_count}
use Rattle.fr_why.specs.Finding.{IsFound}
use Rattle.fr_why.specs.WhyText.{accepted_text}
use Rattle.fr_why.proofs.explain.explained.Goals as goal

pub returns-in-Ok-clause-told : goal.returns-in-Ok-clause-told
returns-in-Ok-clause-told c =
    let found = subst (IsFound c.args.text.now) c.in-Ok-Accepted.field-0-is c.in-Ok-Accepted.ensures.found in
    let s = c.in-Ok-Accepted.interface in (
      s,
      found.0,
      found.1,
      found.3,
      c.in-Ok.ensures.told ∙ ap (λ (n : ℕ). accepted_text n (window_count s.entries)) found.2,
    )
