use Rattle.fr_concord.proofs.RepliedLemmas.{are_whole}
use Rattle.fr_concord.proofs.laws.are_whole.Goals as goal

pub returns : goal.returns
returns c = are_whole
