use Rattle.std.proofs.Common.{ℕ, ◌+◌, ap, sym, ◌∙◌}
use Rattle.std.specs.Prelude.{nat_lt}
use Rattle.fr_scenario.proofs.RunLemmas.{lines_counted}
use Rattle.fr_scenario.proofs.run_contents.has_too_many_lines.Goals as goal

pub returns : goal.returns
returns c =
    c.has_more_statements.ensures
    ∙ ap (λ (n : ℕ). nat_lt 4096 (n + 2)) (sym (lines_counted (λ line. line.items) c.args.lines.now))
