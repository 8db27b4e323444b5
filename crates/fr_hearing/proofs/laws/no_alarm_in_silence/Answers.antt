use Rattle.fr_hearing.proofs.SilenceLaws.{no_alarm_in_silence}
use Rattle.fr_hearing.proofs.laws.no_alarm_in_silence.Goals as goal

pub returns : goal.returns
returns c = no_alarm_in_silence
