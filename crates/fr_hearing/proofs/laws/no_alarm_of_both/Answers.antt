use Rattle.fr_hearing.proofs.RunLaws.{no_alarm_of_both}
use Rattle.fr_hearing.proofs.laws.no_alarm_of_both.Goals as goal

pub returns : goal.returns
returns c = no_alarm_of_both
