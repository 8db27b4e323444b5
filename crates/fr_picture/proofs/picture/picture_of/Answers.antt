use Rattle.fr_picture.proofs.DeterminedLemmas.{pictures_same}
use Rattle.fr_picture.proofs.picture.picture_of.Goals as goal

pub returns-clause-same : goal.returns-clause-same
returns-clause-same c = pictures_same
