use Rattle.fr_concord.proofs.ListeningLemmas.{is_own_or_conflict}
use Rattle.fr_concord.proofs.laws.is_own_or_conflict.Goals as goal

pub returns : goal.returns
returns c = is_own_or_conflict
