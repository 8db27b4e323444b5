use Rattle.fr_hearing.proofs.punctual.PunctualLaws.{in_time_is_untimed}
use Rattle.fr_hearing.proofs.laws.in_time_is_untimed.Goals as goal

pub returns : goal.returns
returns c = in_time_is_untimed
