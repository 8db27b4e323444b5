use Rattle.fr_hearing.proofs.punctual.FileLaws.{times_add_nothing_in_file}
use Rattle.fr_hearing.proofs.laws.times_add_nothing_in_file.Goals as goal

pub returns : goal.returns
returns c = times_add_nothing_in_file
