use Rattle.fr_concord.proofs.MisfitLemmas.{wrong_words}
use Rattle.fr_concord.proofs.laws.wrong_words.Goals as goal

pub returns : goal.returns
returns c = wrong_words
