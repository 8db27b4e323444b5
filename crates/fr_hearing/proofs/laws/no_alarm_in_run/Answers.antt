use Rattle.fr_hearing.proofs.RunLaws.{no_alarm_in_run}
use Rattle.fr_hearing.proofs.laws.no_alarm_in_run.Goals as goal

pub returns : goal.returns
returns c = no_alarm_in_run
