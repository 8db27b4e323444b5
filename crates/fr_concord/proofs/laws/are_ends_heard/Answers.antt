use Rattle.fr_concord.proofs.EndLemmas.{are_ends_heard}
use Rattle.fr_concord.proofs.laws.are_ends_heard.Goals as goal

pub returns : goal.returns
returns c = are_ends_heard
