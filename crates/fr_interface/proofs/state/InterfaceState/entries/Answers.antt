use Rattle.std.proofs.Common.{ap, sym, ◌∙◌}
use Rattle.fr_interface.specs.Standing.{entries_before}
use Rattle.fr_interface.proofs.StandingLemmas.{entries-length}
use Rattle.fr_interface.proofs.state.InterfaceState.entries.Goals as goal

pub returns-clause-history : goal.returns-clause-history
returns-clause-history c = λ s is. ap entries_before c.self.view_is ∙ ap entries_before (sym is.leaves)
    ∙ entries-length s
