use Rattle.fr_streaming.proofs.CommitLawLemmas.{log_sends, log_spelled, log_tells}
use Rattle.fr_streaming.proofs.laws.log_has_commits.Goals as goal

pub returns-clause-spelled : goal.returns-clause-spelled
returns-clause-spelled c = log_spelled

pub returns-clause-fates : goal.returns-clause-fates
returns-clause-fates c = λ s node buffer commit legal there. log_tells s node buffer commit legal there

pub returns-clause-sendings : goal.returns-clause-sendings
returns-clause-sendings c = log_sends
