use Rattle.fr_hearing.proofs.punctual.FileLaws.{no_alarm_in_exact_file}
use Rattle.fr_hearing.proofs.laws.no_alarm_in_exact_file.Goals as goal

pub returns : goal.returns
returns c = no_alarm_in_exact_file
