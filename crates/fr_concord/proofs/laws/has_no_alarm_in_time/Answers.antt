use Rattle.fr_concord.proofs.RecordingLemmas.{has_no_alarm_in_time}
use Rattle.fr_concord.proofs.laws.has_no_alarm_in_time.Goals as goal

pub returns : goal.returns
returns c = has_no_alarm_in_time
