-- The line numbers of faults in the record of a run (project-defined).
use Rattle.std.specs.Prelude.{◌≡◌, ℕ, Bool, true, false, ◌||◌, length, Some, None, slice_get}
use Rattle.fr_bus.specs.declared.outcome.Sent.{Sent}
use Rattle.fr_bus.specs.Record.{Recorded}
use Rattle.fr_runs.specs.declared.fault_line.FaultLine.{FaultLine}
use Rattle.fr_runs.specs.Faulted.{is_muted, HasFaults}
use Rattle.fr_runs.specs.Striking.{strikes}
use Rattle.fr_scenario.specs.Contents.{Contents}
use Rattle.fr_runs.specs.Effects.{brings}
use Rattle.fr_showing.specs.Origins.{origin_of_sent}
use Rattle.fr_slots.specs.Windows.{Opportunity}

-- a babble, or an offer that was muted
abbrev pub is_fault : Sent → Bool
is_fault t = t.babble || is_muted t.fate

-- the record names one number for the transmission: that of a fault line that takes effect there and brings it
pub record IsNumbered (s : Contents) (cycle : ℕ) (w : Opportunity) (t : Sent) : Type 0 where
  pub place : ℕ
  pub line : FaultLine
  pub number : ℕ
  pub line_is : slice_get s.faults place ≡ Some line
  pub number_is : slice_get s.numbers place ≡ Some number
  pub takes_effect : strikes line cycle w ≡ true
  pub brings_it : brings t line.fault ≡ true
  pub named : origin_of_sent s cycle w t ≡ Some number

-- in a window that has the faults of the lines, each babble and each muted offer has a number
abbrev pub AreFaultsNumbered : Type 0
AreFaultsNumbered = (s : Contents) (cycle : ℕ) (r : Recorded) (k : ℕ) (t : Sent) → length s.faults ≡ length s.numbers
    → HasFaults s.faults cycle r → slice_get r.sent k ≡ Some t → is_fault t ≡ true → IsNumbered s cycle r.window t

-- no other transmission has one
abbrev pub AreOffersUnnumbered : Type 0
AreOffersUnnumbered = (s : Contents) (cycle : ℕ) (w : Opportunity) (t : Sent) → is_fault t ≡ false
    → origin_of_sent s cycle w t ≡ None
