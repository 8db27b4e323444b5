use Rattle.fr_hearing.proofs.punctual.FileLaws.{windows_keep_time}
use Rattle.fr_hearing.proofs.laws.windows_keep_time.Goals as goal

pub returns : goal.returns
returns c = windows_keep_time
