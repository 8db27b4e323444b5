use Rattle.fr_hearing.proofs.punctual.RunLaws.{no_alarm_in_time}
use Rattle.fr_hearing.proofs.laws.no_alarm_in_time.Goals as goal

pub returns : goal.returns
returns c = no_alarm_in_time
