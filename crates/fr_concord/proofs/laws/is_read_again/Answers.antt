use Rattle.fr_concord.proofs.RecordingLemmas.{is_read_again}
use Rattle.fr_concord.proofs.laws.is_read_again.Goals as goal

pub returns : goal.returns
returns c = is_read_again
