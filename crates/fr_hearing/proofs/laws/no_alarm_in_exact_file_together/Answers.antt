use Rattle.fr_hearing.proofs.punctual.TogetherLaws.{no_alarm_in_exact_file_together}
use Rattle.fr_hearing.proofs.laws.no_alarm_in_exact_file_together.Goals as goal

pub returns : goal.returns
returns c = no_alarm_in_exact_file_together
