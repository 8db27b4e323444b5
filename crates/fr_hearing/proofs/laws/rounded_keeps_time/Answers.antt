use Rattle.fr_hearing.proofs.punctual.FileLaws.{rounded_keeps_time}
use Rattle.fr_hearing.proofs.laws.rounded_keeps_time.Goals as goal

pub returns : goal.returns
returns c = rounded_keeps_time
