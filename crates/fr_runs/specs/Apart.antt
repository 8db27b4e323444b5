-- At most one fault of a kind, node and channel in a window (project-defined).
use Rattle.std.specs.Prelude.{◌≡◌, ℕ, ◌<◌, true, false, List, slice_get, Some}
use Rattle.fr_runs.specs.declared.fault_line.FaultLine.{FaultLine}
use Rattle.fr_runs.specs.Striking.{strikes}
use Rattle.fr_runs.specs.Suiting.{are_alike}
use Rattle.fr_slots.specs.Windows.{Opportunity}

-- if the fault of one line occurs, that of a later line of the same kind, node and channel doesn't
abbrev pub ComeApart : List FaultLine → Type 0
ComeApart faults = (i j : ℕ) (one later : FaultLine) (cycle : ℕ) (w : Opportunity) → i < j
    → slice_get faults i ≡ Some one → slice_get faults j ≡ Some later → are_alike later.fault one.fault ≡ true
    → strikes one cycle w ≡ true → strikes later cycle w ≡ false
