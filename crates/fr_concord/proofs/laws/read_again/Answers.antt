use Rattle.fr_concord.proofs.SpelledLemmas.{read_again}
use Rattle.fr_concord.proofs.laws.read_again.Goals as goal

pub returns : goal.returns
returns c = read_again
