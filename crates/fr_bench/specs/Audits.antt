-- The result of `audit`, and the bytes that it reads.
use Rattle.std.specs.Prelude.{◌≡◌, ℕ, Bool, true, false, List, Option, Some, None, Result, Ok, Err, ◌⊎◌, IfSome}
use Rattle.std.specs.Io.KnownBytes.{Appends, Keeps}
use Rattle.fr_auditing.specs.LongStream.{long_bytes, LongBegins}
use Rattle.fr_auditing.specs.LongText.{long_text}
use Rattle.fr_bench.specs.LongStops.{Known, LongFails, LongStopsAtEnd}
use Rattle.fr_bench.specs.Versions.{is_later}
use Rattle.fr_files.specs.Outputs.{FallsShort}
use Rattle.fr_interface.specs.State.{State, IsLegalInterface, IsNodeInterface}
use Rattle.fr_trace.specs.Audit.{Audits, IsOfText, IsTextOf, StopsAt, StopsAtEnd}
use Rattle.fr_trace.specs.declared.error.TraceError.{TraceError}
use Rattle.fr_trace.specs.declared.error.TraceError.TheVariants.{Memory, Read, Write}
use Rattle.fr_trace.specs.ReportText.{report_text}
use Rattle.fr_trace.specs.Stream.{fresh, outcome_of}

-- ---- versions 1 to 3

-- The text is audited. If the writer fails, it has taken a front of the report, and at least one byte is missing.
abbrev pub FindsEarlier : Option (List ℕ) → Option (List ℕ) → Option (List ℕ) → Result (Unit {0}) TraceError → Type 0
FindsEarlier text old new (Err Write) =
    (s : State) × IsTextOf s text × IsNodeInterface s × FallsShort old new (report_text s)
FindsEarlier text old new r = Audits text old new r

-- the text is one of a legal interface
abbrev pub IsAccepted : List ℕ → Type 0
IsAccepted text = (s : State) × IsTextOf s (Some text) × IsNodeInterface s

-- It reads as an audit of the text alone. Memory may also run out for the report, once the whole text is accepted.
abbrev pub EndsEarlierAt : List ℕ → List ℕ → Result (Unit {0}) TraceError → Type 0
EndsEarlierAt text rest (Err Memory) = StopsAt text rest (Err Memory) ⊎ (StopsAtEnd text rest × IsAccepted text)
EndsEarlierAt text rest r = StopsAt text rest r

-- ---- version 4

-- the text is the one of this legal interface
abbrev pub IsLongTextOf : State → Option (List ℕ) → Type 0
IsLongTextOf s text = IfSome text (λ t. t ≡ long_text s) × IsLegalInterface s

-- the reader failed, or memory ran out at the line `begin`, or the text is refused by its first fault
abbrev pub IsLongFailure : TraceError → Option (List ℕ) → Type 0
IsLongFailure e text = (e ≡ Read) ⊎ (((e ≡ Memory) × IfSome text (LongBegins fresh))
    ⊎ (IsOfText e × IfSome text (λ t. outcome_of (long_bytes fresh t) ≡ Err e)))

-- An accepted text is the one of a legal interface, and its report is written. Otherwise nothing is written, unless the
-- writer fails: then it has taken a front of the report, and at least one byte is missing.
abbrev pub FindsLater : Option (List ℕ) → Option (List ℕ) → Option (List ℕ) → Result (Unit {0}) TraceError → Type 0
FindsLater text old new (Ok x) = (s : State) × IsLongTextOf s text × Appends old new (report_text s)
FindsLater text old new (Err e) = (IsLongFailure e text × Keeps old new)
    ⊎ (((e ≡ Memory) × ((s : State) × IsLongTextOf s text) × Keeps old new)
    ⊎ ((e ≡ Write) × ((s : State) × IsLongTextOf s text × FallsShort old new (report_text s))))

-- the text is accepted, and was read to its end
abbrev pub IsLongAccepted : List ℕ → List ℕ → Type 0
IsLongAccepted text rest = LongStopsAtEnd text rest × ((s : State) × IsLongTextOf s (Some text))

-- It reads up to the end of the piece that has the fault. Memory may also run out for the report, and the writer fail
-- at it, once the whole text is accepted.
abbrev pub EndsLaterAt : List ℕ → List ℕ → Result (Unit {0}) TraceError → Type 0
EndsLaterAt text rest (Ok x) = LongStopsAtEnd text rest
EndsLaterAt text rest (Err e) = LongFails e (Some text) (Some rest)
    ⊎ (((e ≡ Memory) ⊎ (e ≡ Write)) × IsLongAccepted text rest)

-- ---- all versions

-- a text of version 4, or another
abbrev pub FindsBy : Bool → Option (List ℕ) → Option (List ℕ) → Option (List ℕ) → Result (Unit {0}) TraceError → Type 0
FindsBy true text old new r = FindsLater text old new r
FindsBy false text old new r = FindsEarlier text old new r

abbrev pub Finds : Option (List ℕ) → Option (List ℕ) → Option (List ℕ) → Result (Unit {0}) TraceError → Type 0
Finds None old new r = FindsEarlier None old new r ⊎ FindsLater None old new r
Finds (Some text) old new r = FindsBy (is_later text) (Some text) old new r

abbrev pub EndsAt : Bool → List ℕ → List ℕ → Result (Unit {0}) TraceError → Type 0
EndsAt true text rest r = EndsLaterAt text rest r
EndsAt false text rest r = EndsEarlierAt text rest r

-- the same for a reader whose bytes are known
abbrev pub EndsBy : Bool → Option (List ℕ) → Option (List ℕ) → Result (Unit {0}) TraceError → Type 0
EndsBy later text rest r = Known text rest (λ t left. EndsAt later t left r)

abbrev pub Ends : Option (List ℕ) → Option (List ℕ) → Result (Unit {0}) TraceError → Type 0
Ends text rest r = Known text rest (λ t left. EndsAt (is_later t) t left r)
