use Rattle.fr_hearing.proofs.punctual.PunctualLaws.{each_is_untimed}
use Rattle.fr_hearing.proofs.laws.each_is_untimed.Goals as goal

pub returns : goal.returns
returns c = each_is_untimed
