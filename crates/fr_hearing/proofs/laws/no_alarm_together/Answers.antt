use Rattle.fr_hearing.proofs.pairing.PairLaws.{no_alarm_together}
use Rattle.fr_hearing.proofs.laws.no_alarm_together.Goals as goal

pub returns : goal.returns
returns c = no_alarm_together
