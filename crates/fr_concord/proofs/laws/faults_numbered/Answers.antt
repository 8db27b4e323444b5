use Rattle.fr_concord.proofs.FaultLineLemmas.{faults_numbered}
use Rattle.fr_concord.proofs.laws.faults_numbered.Goals as goal

pub returns : goal.returns
returns c = faults_numbered
