use Rattle.fr_concord.proofs.SenderLemmas.{frames_linked}
use Rattle.fr_concord.proofs.laws.frames_linked.Goals as goal

pub returns : goal.returns
returns c = frames_linked
