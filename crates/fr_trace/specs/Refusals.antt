-- A refusal of a trace names the line at fault, and no bytes that follow could make the trace legal.
use Rattle.std.specs.Prelude.{◌≡◌, ℕ, ◌+◌, ◌*◌, ◌≤◌, ◌==◌, List, [], ◌∷◌, ◌++◌, length, Option, Some, None, Result, Ok}
use Rattle.std.specs.Prelude.{Err, count_by, IfSome}
use Rattle.fr_interface.specs.State.{State, IsNodeInterface}
use Rattle.fr_slots.specs.Numbers.{most_lines, most_entries}
use Rattle.fr_trace.specs.Audit.{IsOfText, HasNoFault}
use Rattle.fr_trace.specs.declared.error.TraceError.{TraceError}
use Rattle.fr_trace.specs.declared.error.TraceError.TheVariants.{BadLine, LineTooLong, Refused, WrongAnswer}
use Rattle.fr_trace.specs.Stream.{failed, fresh, take_bytes, line_count, longest_line}
use Rattle.fr_trace.specs.TraceText.{IsTraceOf}

-- ---- the line

-- the line that the error names
abbrev pub line_of_error : TraceError → Option ℕ
line_of_error (BadLine n) = Some n
line_of_error (LineTooLong n) = Some n
line_of_error (Refused n) = Some n
line_of_error (WrongAnswer n) = Some n
line_of_error e = None

abbrev pub feed_count : List ℕ → ℕ
feed_count bytes = count_by (λ b. b == 10) bytes

-- The text's first fault is this one. It shows at this byte, whatever follows, and not in the bytes before it. Lines
-- are counted from 1, so the line of that byte is one more than the number of line feeds before it.
pub record IsFirstFault (e : TraceError) (text before : List ℕ) (b : ℕ) (after : List ℕ) : Type 0 where
  pub parts : text ≡ before ++ b ∷ after
  pub none_before : HasNoFault before
  pub shown : take_bytes fresh (before ++ b ∷ []) ≡ failed e
  pub line : IfSome (line_of_error e) (λ n. n ≡ feed_count before + 1)

-- if the error names a line, it is the line of the byte at which the first fault of the text shows
abbrev pub NamesItsLine : TraceError → List ℕ → Type 0
NamesItsLine e text = IfSome (line_of_error e) (λ n. (before : List ℕ) × (b : ℕ) × (after : List ℕ)
    × IsFirstFault e text before b after)

abbrev pub LineIsNamed : {A : Type 0} → Result A TraceError → List ℕ → Type 0
LineIsNamed (Ok x) text = Unit {0}
LineIsNamed (Err e) text = NamesItsLine e text

-- ---- no bytes that follow help

-- no text of a legal interface begins with these bytes
abbrev pub IsHopeless : List ℕ → Type 0
IsHopeless bytes = (rest : List ℕ) (s : State) → IsNodeInterface s → IsTraceOf s (bytes ++ rest) → ⊥

-- if the result is a fault of the text
abbrev pub HopelessIfRefused : {A : Type 0} → Result A TraceError → List ℕ → Type 0
HopelessIfRefused (Ok x) bytes = Unit {0}
HopelessIfRefused (Err e) bytes = IsOfText e → IsHopeless bytes

-- ---- the length of a text

-- A text has the magic line, the parameters, the plan's numbers, ownership lines, buffers and receive FIFO, `begin`,
-- the entries, and `end`. Each of these lines has at most as many bytes as the longest line, and a line feed.
abbrev pub longest_text : ℕ
longest_text = (3 + (most_lines + most_lines + 1) + 1 + most_entries + 1) * (longest_line + 1)

-- the limits of the lines of a plan and of a journal
abbrev pub HasFewLines : State → Type 0
HasFewLines s = line_count s.plan + length s.entries ≤ (most_lines + most_lines + 1) + most_entries

abbrev pub ShortIfTaken : {A : Type 0} → Result A TraceError → Option (List ℕ) → Type 0
ShortIfTaken (Ok x) None = Unit {0}
ShortIfTaken (Ok x) (Some text) = length text ≤ longest_text
ShortIfTaken (Err e) text = Unit {0}
