use Rattle.std.proofs.Common.{sym, ◌∙◌}
use Rattle.fr_lines.proofs.FrontLemmas.{no_offers}
use Rattle.fr_lines.proofs.entries.offers_of.Goals as goal

pub returns-then-eq : goal.returns-then-eq
returns-then-eq c = no_offers c.args.line.now (rw c.as_slice.ensures at (sym c.eq.ensures ∙ c.if-eq.true))
