use Rattle.fr_scenario.proofs.FaultLineLemmas.{line_same}
use Rattle.fr_scenario.proofs.fault_lines.old_line_kept.Goals as goal

pub returns : goal.returns
returns c = λ names line f read. line_same names line f read
