-- The result of a command that explains why a text is refused, and of one that shows the observations before that fault
-- (project-defined).
use Rattle.std.specs.Prelude.{⊤, ◌≡◌, ℕ, ◌+◌, ◌≤◌, List, [], length, take, Option, Some, None, Result, Ok, Err, Vec}
use Rattle.std.specs.Prelude.{◌⊎◌}
use Rattle.std.specs.declared.alloc.Global.{Global}
use Rattle.std.specs.Io.KnownBytes.{Keeps, Appends}
use Rattle.fr_capture.specs.declared.form.Form.{Form}
use Rattle.fr_capture.specs.Shows.{text_of}
use Rattle.fr_files.specs.Outputs.{AppendsFront, FallsShort}
use Rattle.fr_interface.specs.State.{State, IsNodeInterface}
use Rattle.fr_trace.specs.declared.error.TraceError.{TraceError}
use Rattle.fr_trace.specs.declared.error.TraceError.TheVariants.{Read, Write, Memory}
use Rattle.fr_trace.specs.Refusals.{feed_count, longest_text}
use Rattle.fr_trace.specs.Stream.{fresh, take_bytes, outcome_of, longest_line}
use Rattle.fr_why.specs.declared.verdict.Verdict.{Verdict}
use Rattle.fr_why.specs.declared.verdict.Verdict.TheVariants.{Accepted, Refused}
use Rattle.fr_why.specs.Faults.{IsAtFault, state_at, window_count}
use Rattle.fr_why.specs.Reasons.{reason_for, IsReasonOf}
use Rattle.fr_why.specs.WhyText.{accepted_text, refused_text}

-- The number of bytes that are read of a text. A longer text is longer than each accepted text, and its line at fault
-- is within these bytes.
abbrev pub most_kept : ℕ
most_kept = longest_text + longest_line + 1

abbrev pub kept : List ℕ → List ℕ
kept text = take most_kept text

-- the bytes were read, or the reader failed or memory ran out
abbrev pub IsKept : List ℕ → Result (Vec ℕ Global) TraceError → Type 0
IsKept text (Ok bytes) = bytes.items ≡ kept text
IsKept text (Err Read) = ⊤
IsKept text (Err Memory) = ⊤
IsKept text (Err e) = ⊥

-- ---- the explanation

-- The text is accepted, and the words report this, with its lines and windows. Or it is refused, and the words describe
-- its line at fault, with the reason of the refusal.
abbrev pub IsExplained : List ℕ → Verdict → List ℕ → Type 0
IsExplained text Accepted words = (s : State) × (outcome_of (take_bytes fresh text) ≡ Ok s) × IsNodeInterface s
    × (length text ≤ longest_text) × (words ≡ accepted_text (feed_count text) (window_count s.entries))
IsExplained text Refused words = (e : TraceError) × (front : List ℕ) × (line : List ℕ) × (rest : List ℕ)
    × IsAtFault e text front line rest × IsReasonOf e (reason_for e (take_bytes fresh front) line)
    × (words ≡ refused_text e front line)

-- The explanation of the text is written; or nothing is written, since the reader failed or memory ran out; or the
-- writer failed, and has taken a front of the explanation.
abbrev pub Explains : List ℕ → Option (List ℕ) → Option (List ℕ) → Result Verdict TraceError → Type 0
Explains text old new (Ok verdict) = (words : List ℕ) × IsExplained text verdict words × Appends old new words
Explains text old new (Err Read) = Keeps old new
Explains text old new (Err Memory) = Keeps old new
Explains text old new (Err Write) = (verdict : Verdict) × (words : List ℕ) × IsExplained text verdict words
    × FallsShort old new words
Explains text old new (Err e) = ⊥

-- an accepted text was read whole
abbrev pub IsReadWhole : List ℕ → Result Verdict TraceError → Type 0
IsReadWhole text (Ok Accepted) = kept text ≡ text
IsReadWhole text (Ok Refused) = ⊤
IsReadWhole text (Err e) = ⊤

-- ---- the observations before the fault

-- the output of the lines, once the plan is complete
abbrev pub shown_so_far : Form → Option State → List ℕ
shown_so_far form None = []
shown_so_far form (Some s) = text_of form s

-- A front of the output is written: for an accepted text of the whole output, and for a refused text of that of the
-- lines before its line at fault.
abbrev pub ShowsFront : Form → List ℕ → Option (List ℕ) → Option (List ℕ) → Type 0
ShowsFront form text old new =
    ((s : State) × (outcome_of (take_bytes fresh text) ≡ Ok s) × IsNodeInterface s
    × AppendsFront old new (text_of form s))
    ⊎ ((e : TraceError) × (front : List ℕ) × (line : List ℕ) × (rest : List ℕ) × IsAtFault e text front line rest
    × AppendsFront old new (shown_so_far form (state_at (take_bytes fresh front))))

-- An accepted text is shown whole. For a refused text, the output of the lines before its line at fault is written, and
-- the result is the audit's. If the reader failed or memory ran out, nothing is written. If the writer failed, it has
-- taken a front of the output.
abbrev pub ShowsUntil : Form → List ℕ → Option (List ℕ) → Option (List ℕ) → Result (Unit {0}) TraceError → Type 0
ShowsUntil form text old new (Ok x) = (s : State) × (outcome_of (take_bytes fresh text) ≡ Ok s) × IsNodeInterface s
    × Appends old new (text_of form s)
ShowsUntil form text old new (Err Read) = Keeps old new
ShowsUntil form text old new (Err Memory) = Keeps old new
ShowsUntil form text old new (Err Write) = ShowsFront form text old new
ShowsUntil form text old new (Err e) = (front : List ℕ) × (line : List ℕ) × (rest : List ℕ)
    × IsAtFault e text front line rest × Appends old new (shown_so_far form (state_at (take_bytes fresh front)))
