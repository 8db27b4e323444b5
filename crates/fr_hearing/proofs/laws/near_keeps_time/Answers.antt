use Rattle.fr_hearing.proofs.punctual.FileLaws.{near_keeps_time}
use Rattle.fr_hearing.proofs.laws.near_keeps_time.Goals as goal

pub returns : goal.returns
returns c = near_keeps_time
