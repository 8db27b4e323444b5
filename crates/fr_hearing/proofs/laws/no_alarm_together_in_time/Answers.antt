use Rattle.fr_hearing.proofs.punctual.TogetherLaws.{no_alarm_together_in_time}
use Rattle.fr_hearing.proofs.laws.no_alarm_together_in_time.Goals as goal

pub returns : goal.returns
returns c = no_alarm_together_in_time
