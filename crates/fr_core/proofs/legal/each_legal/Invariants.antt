use Rattle.std.proofs.Common.{ℕ, ◌<◌}
use Rattle.std.specs.Prelude.{slice_index_or}
use Rattle.fr_interface.specs.State.{State, IsLegalInterface}
use Rattle.fr_core.proofs.legal.each_legal.Given as goal

abbrev pub invariant-loop-interface : goal.invariant-loop-interface
invariant-loop-interface l = (k : ℕ) (d : State) → k < l.interface-index
    → IsLegalInterface (slice_index_or l.interfaces k d)
