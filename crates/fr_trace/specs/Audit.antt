-- The result of an audit of a whole text, and the bytes that it reads.
use Rattle.std.specs.Prelude.{◌≡◌, ℕ, ◌≤◌, List, [], ◌++◌, length, Option, Some, None, Result, Ok, Err, ◌⊎◌}
use Rattle.std.specs.Io.KnownBytes.{Keeps, Appends}
use Rattle.fr_interface.specs.State.{State, IsNodeInterface}
use Rattle.fr_trace.specs.declared.error.TraceError.{TraceError}
use Rattle.fr_trace.specs.declared.error.TraceError.TheVariants.{Read, Write, Memory}
use Rattle.fr_trace.specs.Feeds.{Begins}
use Rattle.fr_trace.specs.ReportText.{report_text}
use Rattle.fr_trace.specs.Stream.{failed, fresh, take_bytes, answer_of, outcome_of}
use Rattle.fr_trace.specs.TraceText.{IsTraceOf}

-- an error that depends only on the text
abbrev pub IsOfText : TraceError → Type 0
IsOfText Read = ⊥
IsOfText Write = ⊥
IsOfText Memory = ⊥
IsOfText e = Unit {0}

-- the text is not at fault
abbrev pub IsNotRefused : {A : Type 0} → Result A TraceError → Type 0
IsNotRefused (Ok x) = Unit {0}
IsNotRefused (Err e) = IsOfText e → ⊥

-- ---- the result for a known text

-- the text is one of the interface
abbrev pub IsTextOf : State → Option (List ℕ) → Type 0
IsTextOf s None = Unit {0}
IsTextOf s (Some text) = IsTraceOf s text

-- the text is refused by this first fault
abbrev pub IsRefusedBy : TraceError → Option (List ℕ) → Type 0
IsRefusedBy e None = Unit {0}
IsRefusedBy e (Some text) = outcome_of (take_bytes fresh text) ≡ Err e

-- an interface is made in the text
abbrev pub HasBegin : Option (List ℕ) → Type 0
HasBegin None = Unit {0}
HasBegin (Some text) = Begins fresh text

-- The text is one of a legal interface, and its report is written, or the writer failed at that. Or nothing is written:
-- the text is refused by its first line at fault, or memory ran out when the text's interface was made, or the reader
-- failed.
abbrev pub Audits : Option (List ℕ) → Option (List ℕ) → Option (List ℕ) → Result (Unit {0}) TraceError → Type 0
Audits text old new (Ok x) = (s : State) × IsTextOf s text × IsNodeInterface s × Appends old new (report_text s)
Audits text old new (Err Write) = (s : State) × IsTextOf s text × IsNodeInterface s
Audits text old new (Err Read) = Keeps old new
Audits text old new (Err Memory) = HasBegin text × Keeps old new
Audits text old new (Err e) = IsRefusedBy e text × Keeps old new

-- ---- the bytes that are read

-- no fault shows in these bytes, whatever follows them
abbrev pub HasNoFault : List ℕ → Type 0
HasNoFault bytes = answer_of (take_bytes fresh bytes) ≡ Ok tt

-- no fault has shown in the bytes that were read
abbrev pub StopsEarly : List ℕ → List ℕ → Type 0
StopsEarly text rest = (front : List ℕ) × (text ≡ front ++ rest) × HasNoFault front

-- The last piece decides: no fault shows before it, and nothing after it was read.
abbrev pub StopsIn : (List ℕ → List ℕ → Type 0) → List ℕ → List ℕ → Type 0
StopsIn Decides text rest =
    (front : List ℕ) × (piece : List ℕ) × (text ≡ front ++ (piece ++ rest)) × (length piece ≤ 4096) × HasNoFault front
    × Decides front piece

-- all bytes were read, and no fault showed before the end
abbrev pub StopsAtEnd : List ℕ → List ℕ → Type 0
StopsAtEnd text rest = (rest ≡ []) × HasNoFault text

-- an interface is made in the piece
abbrev pub BeginsIn : List ℕ → List ℕ → Type 0
BeginsIn front piece = Begins (take_bytes fresh front) piece

-- the fault stands in the piece
abbrev pub FailsIn : TraceError → List ℕ → List ℕ → Type 0
FailsIn e front piece = take_bytes fresh (front ++ piece) ≡ failed e

-- The text is read to its end if no fault shows before, and otherwise up to the end of the piece that has the fault.
abbrev pub StopsAt : List ℕ → List ℕ → Result (Unit {0}) TraceError → Type 0
StopsAt text rest (Ok x) = StopsAtEnd text rest
StopsAt text rest (Err Write) = StopsAtEnd text rest
StopsAt text rest (Err Read) = StopsEarly text rest
StopsAt text rest (Err Memory) = StopsIn BeginsIn text rest
StopsAt text rest (Err e) = StopsAtEnd text rest ⊎ StopsIn (FailsIn e) text rest

-- the same for a reader whose bytes are known
abbrev pub Stops : Option (List ℕ) → Option (List ℕ) → Result (Unit {0}) TraceError → Type 0
Stops None rest r = Unit {0}
Stops (Some text) None r = ⊥
Stops (Some text) (Some rest) r = StopsAt text rest r

-- ---- the two steps of an audit

-- the result of reading through
abbrev pub Through : List ℕ → List ℕ → Result State TraceError → Type 0
Through text rest (Ok s) = StopsAtEnd text rest × (outcome_of (take_bytes fresh text) ≡ Ok s)
Through text rest (Err Write) = ⊥
Through text rest (Err Read) = StopsEarly text rest
Through text rest (Err Memory) = StopsIn BeginsIn text rest
Through text rest (Err e) = (outcome_of (take_bytes fresh text) ≡ Err e)
    × (StopsAtEnd text rest ⊎ StopsIn (FailsIn e) text rest)

abbrev pub IsNotWrite : Result State TraceError → Type 0
IsNotWrite (Err Write) = ⊥
IsNotWrite r = Unit {0}

-- the same for a reader whose bytes are known
abbrev pub ReadsThrough : Option (List ℕ) → Option (List ℕ) → Result State TraceError → Type 0
ReadsThrough None rest r = IsNotWrite r
ReadsThrough (Some text) None r = ⊥
ReadsThrough (Some text) (Some rest) r = Through text rest r

-- the bytes left in the reader, and those in the writer
abbrev pub Leaves : Option (List ℕ) → Option (List ℕ) → Option (List ℕ) → Option (List ℕ)
    → Result (Unit {0}) TraceError → Type 0
Leaves text rest old new (Ok x) = (s : State) × ReadsThrough text rest (Ok s) × IsNodeInterface s
    × Appends old new (report_text s)
Leaves text rest old new (Err Write) = (s : State) × ReadsThrough text rest (Ok s) × IsNodeInterface s
Leaves text rest old new (Err e) = ReadsThrough text rest (Err e) × Keeps old new

-- ---- the interface of a trace, before any report

-- the success or the error, without the value
abbrev pub outcome : {A : Type 0} → Result A TraceError → Result (Unit {0}) TraceError
outcome (Ok x) = Ok tt
outcome (Err e) = Err e

-- The text is one of the legal interface that is returned. Or it is refused by its first line at fault, or memory ran
-- out when the text's interface was made, or the reader failed.
abbrev pub Understands : Option (List ℕ) → Result State TraceError → Type 0
Understands text (Ok s) = IsTextOf s text × IsNodeInterface s
Understands text (Err Write) = ⊥
Understands text (Err Read) = Unit {0}
Understands text (Err Memory) = HasBegin text
Understands text (Err e) = IsRefusedBy e text
