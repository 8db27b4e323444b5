use Rattle.fr_hearing.proofs.AlarmLaws.{no_false_alarm}
use Rattle.fr_hearing.proofs.laws.no_false_alarm.Goals as goal

pub returns : goal.returns
returns c = no_false_alarm
