-- The bytes that an audit of a text of version 4 reads, and its result before any report.
use Rattle.std.specs.Prelude.{◌≡◌, ℕ, ◌≤◌, List, [], ◌++◌, length, Option, Some, None, Result, Ok, Err, ◌⊎◌}
use Rattle.fr_auditing.specs.LongStream.{long_bytes, LongBegins}
use Rattle.fr_auditing.specs.LongText.{long_text}
use Rattle.fr_interface.specs.State.{State, IsLegalInterface}
use Rattle.fr_trace.specs.Audit.{IsOfText}
use Rattle.fr_trace.specs.declared.error.TraceError.{TraceError}
use Rattle.fr_trace.specs.declared.error.TraceError.TheVariants.{Read, Memory}
use Rattle.fr_trace.specs.Stream.{failed, fresh, answer_of, outcome_of}

-- The property holds for the bytes that a reader had and those that it has now, if they are known. A reader whose bytes
-- were known has known bytes.
abbrev pub Known : Option (List ℕ) → Option (List ℕ) → (List ℕ → List ℕ → Type 0) → Type 0
Known None rest P = Unit {0}
Known (Some text) None P = ⊥
Known (Some text) (Some rest) P = P text rest

-- no fault shows in these bytes, whatever follows them
abbrev pub LongHasNoFault : List ℕ → Type 0
LongHasNoFault bytes = answer_of (long_bytes fresh bytes) ≡ Ok tt

-- no fault has shown in the bytes that were read
abbrev pub LongStopsEarly : List ℕ → List ℕ → Type 0
LongStopsEarly text rest = (front : List ℕ) × (text ≡ front ++ rest) × LongHasNoFault front

-- The last piece decides: no fault shows before it, and nothing after it was read.
abbrev pub LongStopsIn : (List ℕ → List ℕ → Type 0) → List ℕ → List ℕ → Type 0
LongStopsIn Decides text rest =
    (front : List ℕ) × (piece : List ℕ) × (text ≡ front ++ (piece ++ rest)) × (length piece ≤ 4096)
    × LongHasNoFault front × Decides front piece

-- all bytes were read, and no fault showed before the end
abbrev pub LongStopsAtEnd : List ℕ → List ℕ → Type 0
LongStopsAtEnd text rest = (rest ≡ []) × LongHasNoFault text

-- the line `begin` of a plan without fault ends in the piece
abbrev pub LongBeginsIn : List ℕ → List ℕ → Type 0
LongBeginsIn front piece = LongBegins (long_bytes fresh front) piece

-- the fault stands in the piece
abbrev pub LongFailsIn : TraceError → List ℕ → List ℕ → Type 0
LongFailsIn e front piece = long_bytes fresh (front ++ piece) ≡ failed e

-- the first fault of the text is this one, and the reader stopped at the end of the text or of the piece that has it
abbrev pub LongRefuses : TraceError → List ℕ → List ℕ → Type 0
LongRefuses e text rest = (outcome_of (long_bytes fresh text) ≡ Err e)
    × (LongStopsAtEnd text rest ⊎ LongStopsIn (LongFailsIn e) text rest)

-- the reader failed, or memory ran out at the line `begin`, or the text is refused by its first fault
abbrev pub LongFails : TraceError → Option (List ℕ) → Option (List ℕ) → Type 0
LongFails e text rest = ((e ≡ Read) × Known text rest LongStopsEarly)
    ⊎ (((e ≡ Memory) × Known text rest (LongStopsIn LongBeginsIn))
    ⊎ (IsOfText e × Known text rest (LongRefuses e)))

-- the text is the one of this interface, and was read to its end
abbrev pub IsReadAs : State → List ℕ → List ℕ → Type 0
IsReadAs s text rest = (text ≡ long_text s) × LongStopsAtEnd text rest

-- the result of reading through: a legal interface, or an error
abbrev pub LongReads : Option (List ℕ) → Option (List ℕ) → Result State TraceError → Type 0
LongReads text rest (Ok s) = IsLegalInterface s × Known text rest (IsReadAs s)
LongReads text rest (Err e) = LongFails e text rest
