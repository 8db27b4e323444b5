use Rattle.std.proofs.Common.{◌≡◌, List, ℕ, Option, Some, None, sym, ap, ◌∙◌}
use Rattle.std.specs.Prelude.{IfSome}
use Rattle.fr_lines.proofs.NodeLemmas.{node_line_takes, node_line_again, node_bare, node_fits}
use Rattle.fr_lines.specs.Reading.{node_in}
use Rattle.fr_lines.specs.Spelled.{bare_plan}
use Rattle.fr_lines.specs.Spelling.{node_words}
use Rattle.fr_slots.specs.Plans.{Plan, IsNodePlan}
use Rattle.fr_text.specs.Spaces.{words_of, line_of}
use Rattle.fr_lines.proofs.nodes.node_of.Goals as goal

found : (o : Option Plan) (line : List ℕ) → o ≡ node_in (words_of line) → IfSome o (λ p. line ≡ line_of (node_words p))
found None line h = tt
found (Some p) line h = node_line_takes line p (sym h)

fits : (o : Option Plan) (line : List ℕ) → o ≡ node_in (words_of line)
    → IfSome o (λ p. IsNodePlan p × (p ≡ bare_plan p))
fits None line h = tt
fits (Some p) line h = (node_fits (words_of line) p (sym h), node_bare (words_of line) p (sym h))

pub returns-clause-found : goal.returns-clause-found
returns-clause-found c = found c.node_in.result c.args.line.now c.node_in.ensures

pub returns-clause-fits : goal.returns-clause-fits
returns-clause-fits c = fits c.node_in.result c.args.line.now c.node_in.ensures

pub returns-clause-only : goal.returns-clause-only
returns-clause-only c p is text = c.node_in.ensures ∙ ap (λ l. node_in (words_of l)) text ∙ node_line_again p is
