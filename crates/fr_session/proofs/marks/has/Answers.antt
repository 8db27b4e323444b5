use Rattle.std.proofs.Common.{◌∙◌}
use Rattle.fr_session.proofs.MarkLemmas.{has_same}
use Rattle.fr_session.proofs.marks.has.Goals as goal

pub returns : goal.returns
returns c = c.contains.ensures ∙ has_same c.args.marks.now c.args.mark
