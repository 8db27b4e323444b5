use Rattle.std.proofs.Common.{ap, ◌∙◌}
use Rattle.fr_runs.proofs.SpanLemmas.{within_same}
use Rattle.fr_runs.specs.Cycles.{names_cycle}
use Rattle.fr_runs.specs.declared.cycles.RunCycles.{RunCycles}
use Rattle.fr_runs.proofs.cycles.RunCycles.within.Goals as goal

pub returns-clause-same : goal.returns-clause-same
returns-clause-same c =
    λ cycle below. ap (λ (x : RunCycles). names_cycle x cycle) c.cut.ensures
    ∙ within_same c.args.cycles c.args.self cycle below
