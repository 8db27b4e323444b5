use Rattle.fr_auditing.proofs.LongTextLemmas.{lines_same}
use Rattle.fr_auditing.proofs.head.same_lines.Goals as goal

pub returns : goal.returns
returns c s = lines_same s
