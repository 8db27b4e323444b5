use Rattle.fr_concord.proofs.RecordingLemmas.{is_same_capture}
use Rattle.fr_concord.proofs.laws.is_same_capture.Goals as goal

pub returns : goal.returns
returns c = is_same_capture
