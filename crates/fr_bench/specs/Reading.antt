-- The bytes that have been read of a text, the state of its auditor, and the result of reading through. A `Bool` is
-- true for a text of version 4, and false for one of versions 1 to 3.
use Rattle.std.specs.Prelude.{◌≡◌, ℕ, ◌≤◌, Bool, true, false, List, [], ◌++◌, length}
use Rattle.std.specs.Prelude.{Option, Some, None, Result, Ok, Err}
use Rattle.std.specs.Io.KnownBytes.{Appends, Consumes, Keeps}
use Rattle.fr_auditing.specs.LongStream.{bytes_by}
use Rattle.fr_auditing.specs.Tracking.{Auditing, Tracks, ReadsOn}
use Rattle.fr_bench.specs.LongStops.{Known, LongReads}
use Rattle.fr_files.specs.Outputs.{FallsShort}
use Rattle.fr_interface.specs.State.{State, IsNodeInterface}
use Rattle.fr_trace.specs.Audit.{ReadsThrough}
use Rattle.fr_trace.specs.declared.error.TraceError.{TraceError}
use Rattle.fr_trace.specs.declared.error.TraceError.TheVariants.{Memory, Write}
use Rattle.fr_trace.specs.Stream.{fresh, answer_of}

-- these bytes have come
abbrev pub HasCome : List ℕ → List ℕ → List ℕ → Type 0
HasCome front text rest = text ≡ front ++ rest

-- no fault shows in these bytes, whatever follows them
abbrev pub HasNoFaultBy : Bool → List ℕ → Type 0
HasNoFaultBy later bytes = answer_of (bytes_by later fresh bytes) ≡ Ok tt

-- the auditor has read the bytes that the reader no longer has, and no fault has shown
abbrev pub SoFar : Bool → Option (List ℕ) → Option (List ℕ) → Auditing → Type 0
SoFar later text rest a =
    (front : List ℕ) × Tracks later a (bytes_by later fresh front) × HasNoFaultBy later front
    × Known text rest (HasCome front)

-- no byte was left
abbrev pub IsOver : List ℕ → List ℕ → Type 0
IsOver text rest = (text ≡ []) × (rest ≡ [])

-- The auditor was fed the next bytes, at most 4096, which the reader no longer has, and gave this answer. At the end of
-- the reader it was fed nothing.
abbrev pub FeedsNext : Option (Result (Unit {0}) TraceError) → Option (List ℕ) → Option (List ℕ) → Auditing → Auditing
    → Type 0
FeedsNext None old new a b = Known old new IsOver × (b ≡ a)
FeedsNext (Some answer) old new a b =
    (bytes : List ℕ) × Consumes old new bytes × (length bytes ≤ 4096)
    × ReadsOn a bytes b × (answer ≡ answer_of b.progress)

-- the result of reading a text of versions 1 to 3 through: a node's interface, or an error
abbrev pub EarlierReads : Option (List ℕ) → Option (List ℕ) → Result State TraceError → Type 0
EarlierReads text rest (Ok s) = IsNodeInterface s × ReadsThrough text rest (Ok s)
EarlierReads text rest (Err e) = ReadsThrough text rest (Err e)

abbrev pub ReadsBy : Bool → Option (List ℕ) → Option (List ℕ) → Result State TraceError → Type 0
ReadsBy true text rest r = LongReads text rest r
ReadsBy false text rest r = EarlierReads text rest r

-- The report is written. Nothing is written if memory runs out, and a front of the report if the writer fails.
abbrev pub Reports : List ℕ → Option (List ℕ) → Option (List ℕ) → Result (Unit {0}) TraceError → Type 0
Reports report old new (Ok x) = Appends old new report
Reports report old new (Err Memory) = Keeps old new
Reports report old new (Err Write) = FallsShort old new report
Reports report old new (Err e) = ⊥
