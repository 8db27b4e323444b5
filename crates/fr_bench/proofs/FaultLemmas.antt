-- A fault of a text is its own: never a failed allocation, nor an error of the reader or the writer.
use Rattle.std.proofs.Common.{ℕ, ◌==◌, Bool, true, false, List, [], ◌∷◌, Option, Some, None, inl, inr}
use Rattle.std.proofs.lemmas.Bool.{cases_Bool}
use Rattle.std.specs.Str.{bytes_eq}
use Rattle.fr_auditing.specs.LongStream.{node_by, line_by, byte_by, bytes_by}
use Rattle.fr_auditing.specs.LongText.{long_first_line}
use Rattle.fr_lines.specs.declared.versions.Version.{Version}
use Rattle.fr_slots.specs.Parameters.{Parameters}
use Rattle.fr_slots.specs.Plans.{Plan}
use Rattle.fr_text.specs.Spaces.{words_of}
use Rattle.fr_trace.proofs.FaultLemmas.{FailsByText, bytes_fault}
use Rattle.fr_trace.specs.Stream.{Phase, magic, params, node, lines, body, finished, Progress, reading, failed}
use Rattle.fr_trace.specs.Stream.{after_line, after_node}

node_fault : (v : Version) (p : Parameters) (o : Option Plan) → FailsByText (after_line (after_node v p o))
node_fault v p None = tt
node_fault v p (Some plan) = tt

line_fault : (later : Bool) (p : Phase) (line : List ℕ) → FailsByText (after_line (line_by later p line))
line_fault false magic line = bytes_fault (10 ∷ []) (reading magic line) tt
line_fault true magic line = elim (cases_Bool (bytes_eq line long_first_line)) [
  | inl pass ↦ rw pass tt
  | inr fail ↦ rw fail tt
]
line_fault later (params v) line = bytes_fault (10 ∷ []) (reading (params v) line) tt
line_fault later (node v p) line = node_fault v p (node_by later (words_of line))
line_fault later (lines v p plan) line = bytes_fault (10 ∷ []) (reading (lines v p plan) line) tt
line_fault later (body v s) line = bytes_fault (10 ∷ []) (reading (body v s) line) tt
line_fault later (finished v s) line = tt

byte_fault : (later : Bool) (s : Progress) (b : ℕ) → FailsByText s → FailsByText (byte_by later s b)
byte_fault later (failed e) b h = h
byte_fault later (reading p line) b h = elim (cases_Bool (b == 10)) [
  | inl feed ↦ rw feed (line_fault later p line)
  | inr other ↦ rw other (bytes_fault (b ∷ []) (reading p line) tt)
]

pub bytes_by_fault : (later : Bool) (bytes : List ℕ) (s : Progress) → FailsByText s
    → FailsByText (bytes_by later s bytes)
bytes_by_fault later [] s h = h
bytes_by_fault later (b ∷ bytes) s h = bytes_by_fault later bytes (byte_by later s b) (byte_fault later s b h)
