-- The state of an auditor of a text of any version. A `Bool` is true for a text of version 4, and false for one of
-- versions 1 to 3.
use Rattle.std.specs.Prelude.{◌≡◌, ℕ, Bool, List, ◌⊎◌, Result, Ok, Err}
use Rattle.fr_auditing.specs.LongStream.{bytes_by, BeginsBy}
use Rattle.fr_auditing.specs.LongText.{long_text}
use Rattle.fr_interface.specs.State.{State, IsLegalInterface, IsNodeInterface}
use Rattle.fr_slots.specs.declared.plan.PlanError.{PlanError}
use Rattle.fr_trace.specs.declared.error.TraceError.{TraceError}
use Rattle.fr_trace.specs.declared.error.TraceError.TheVariants.{BadLine, Memory}
use Rattle.fr_trace.specs.Stream.{Progress, failed, fresh, take_bytes, outcome_of}
use Rattle.fr_trace.specs.TraceText.{IsTraceOf}

-- the versions that it reads, and the state of the text
pub record Auditing : Type 0 where
  pub later : Bool
  pub progress : Progress

abbrev pub auditing : Bool → Progress → Auditing
auditing later s = record { later = later; progress = s }

-- the auditor stands where a text of these versions does
abbrev pub Tracks : Bool → Auditing → Progress → Type 0
Tracks later a s = a ≡ auditing later s

-- ---- lines

-- a line of the plan, if the plan has taken it
abbrev pub taken : Result (Unit {0}) PlanError → ℕ → Result (Unit {0}) TraceError
taken (Ok x) number = Ok x
taken (Err e) number = Err (BadLine number)

-- ---- calls

-- the bytes have been read, or memory ran out at a `begin`
abbrev pub ReadsOn : Auditing → List ℕ → Auditing → Type 0
ReadsOn old bytes new = Tracks old.later new (bytes_by old.later old.progress bytes)
    ⊎ (Tracks old.later new (failed Memory) × BeginsBy old.later old.progress bytes)

-- ---- accepted texts

-- the text is one of versions 1 to 3 of a node's legal interface
abbrev pub IsEarlierText : State → List ℕ → Type 0
IsEarlierText s text = (outcome_of (take_bytes fresh text) ≡ Ok s) × IsTraceOf s text × IsNodeInterface s

-- the text is that of a legal interface
abbrev pub IsLongText : State → List ℕ → Type 0
IsLongText s text = (text ≡ long_text s) × IsLegalInterface s
