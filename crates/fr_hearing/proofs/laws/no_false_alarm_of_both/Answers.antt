use Rattle.fr_hearing.proofs.AlarmLaws.{no_false_alarm_of_both}
use Rattle.fr_hearing.proofs.laws.no_false_alarm_of_both.Goals as goal

pub returns : goal.returns
returns c = no_false_alarm_of_both
