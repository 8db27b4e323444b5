-- The effect of a call of an auditor.
use Rattle.std.specs.Prelude.{◌≡◌, ℕ, List, [], ◌∷◌, ◌++◌, ◌⊎◌, None, Result, Ok, Err}
use Rattle.fr_lines.specs.Spelling.{begin_line, end_line}
use Rattle.fr_slots.specs.Faults.{plan_fault}
use Rattle.fr_trace.specs.Stream.{Progress, Phase, reading, failed, lines, body, take_bytes, take_line, after_line}
use Rattle.fr_trace.specs.declared.error.TraceError.{TraceError}
use Rattle.fr_trace.specs.declared.error.TraceError.TheVariants.{Memory}

-- ---- lines at which memory is taken

-- the line is the `begin` of a plan without fault
abbrev pub IsBegin : Phase → List ℕ → Type 0
IsBegin (lines v p plan) line = (line ≡ begin_line) × (plan_fault p plan ≡ None)
IsBegin p line = ⊥

-- the line that is held is such a line, and its line feed comes next
abbrev pub IsAtBegin : Progress → Type 0
IsAtBegin (reading p line) = IsBegin p line
IsAtBegin (failed e) = ⊥

-- the line feed of such a line is among these bytes
abbrev pub Begins : Progress → List ℕ → Type 0
Begins old bytes = (front : List ℕ) × (rest : List ℕ) × (bytes ≡ front ++ 10 ∷ rest) × IsAtBegin (take_bytes old front)

-- ---- calls

-- the bytes have been read, or memory ran out when an interface was made
abbrev pub Reads : Progress → List ℕ → Progress → Type 0
Reads old bytes new = (new ≡ take_bytes old bytes) ⊎ ((new ≡ failed Memory) × Begins old bytes)

-- the same for the end of a line
abbrev pub EndsLine : Progress → Progress → Type 0
EndsLine (failed e) new = new ≡ failed e
EndsLine (reading p line) new = (new ≡ after_line (take_line p line)) ⊎ ((new ≡ failed Memory) × IsBegin p line)

-- the whole line gives this
abbrev pub GivesPhase : {X : Type 0} → (X → Phase) → Result X TraceError → Result Phase TraceError → Type 0
GivesPhase view (Ok x) read = read ≡ Ok (view x)
GivesPhase view (Err e) read = read ≡ Err e

-- the same, unless memory ran out; it can run out only under this condition
abbrev pub GivesUnless : {X : Type 0} → Type 0 → (X → Phase) → Result X TraceError → Result Phase TraceError → Type 0
GivesUnless may view (Ok x) read = read ≡ Ok (view x)
GivesUnless may view (Err e) read = (read ≡ Err e) ⊎ ((e ≡ Memory) × may)

-- ---- lines

-- no line of a journal is expected, or the line is `end`
abbrev pub IsNoEntry : Phase → List ℕ → Type 0
IsNoEntry (body v s) line = line ≡ end_line
IsNoEntry p line = Unit

-- the front of a line that isn't over
abbrev pub held : Progress → List ℕ
held (reading p line) = line
held (failed e) = []

-- the same progress, with this line held instead
abbrev pub with_line : Progress → List ℕ → Progress
with_line (reading p front) line = reading p line
with_line (failed e) line = failed e
