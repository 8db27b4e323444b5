use Rattle.fr_concord.proofs.RisingLemmas.{captures_rising}
use Rattle.fr_concord.proofs.laws.captures_rising.Goals as goal

pub returns : goal.returns
returns c = captures_rising
