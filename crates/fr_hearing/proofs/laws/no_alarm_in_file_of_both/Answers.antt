use Rattle.fr_hearing.proofs.FileLaws.{no_alarm_in_file_of_both}
use Rattle.fr_hearing.proofs.laws.no_alarm_in_file_of_both.Goals as goal

pub returns : goal.returns
returns c = no_alarm_in_file_of_both
