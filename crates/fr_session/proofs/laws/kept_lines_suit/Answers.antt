use Rattle.fr_session.proofs.LawLemmas.{suit_by}
use Rattle.fr_session.proofs.laws.kept_lines_suit.Goals as goal

pub returns : goal.returns
returns c = suit_by
