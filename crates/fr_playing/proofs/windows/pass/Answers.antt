use Rattle.fr_playing.proofs.StrikingLemmas.{passes_one}
use Rattle.fr_playing.proofs.windows.pass.Goals as goal

pub returns : goal.returns
returns c = passes_one _ _ _ _ c.in_ok-apply.ensures.step
