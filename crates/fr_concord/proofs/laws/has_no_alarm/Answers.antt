use Rattle.fr_concord.proofs.RecordingLemmas.{has_no_alarm}
use Rattle.fr_concord.proofs.laws.has_no_alarm.Goals as goal

pub returns : goal.returns
returns c = has_no_alarm
