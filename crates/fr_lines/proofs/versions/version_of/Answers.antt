use Rattle.std.proofs.Common.{◌≡◌, List, ℕ, Option, Some, None, sym, ap, ◌∙◌}
use Rattle.std.specs.Prelude.{IfSome}
use Rattle.fr_lines.proofs.VersionLemmas.{version_takes, version_again}
use Rattle.fr_lines.specs.declared.versions.Version.{Version}
use Rattle.fr_lines.specs.Reading.{version_in}
use Rattle.fr_lines.specs.Spelling.{first_line}
use Rattle.fr_lines.proofs.versions.version_of.Goals as goal

found : (o : Option Version) (line : List ℕ) → o ≡ version_in line → IfSome o (λ v. line ≡ first_line v)
found None line h = tt
found (Some v) line h = version_takes line v (sym h)

pub returns-clause-found : goal.returns-clause-found
returns-clause-found c = found c.version_in.result c.args.line.now c.version_in.ensures

pub returns-clause-only : goal.returns-clause-only
returns-clause-only c v text = c.version_in.ensures ∙ ap version_in text ∙ version_again v
