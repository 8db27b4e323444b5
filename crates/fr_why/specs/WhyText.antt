-- The text that is written about a text: it is accepted, or refused at a place and for a reason (project-defined).
use Rattle.std.specs.Prelude.{ℕ, ◌+◌, ◌==◌, nat_le, not, Bool, ◌&&◌, List, [], ◌∷◌, ◌++◌, codes, take, Option, Some}
use Rattle.std.specs.Prelude.{None, if◌then◌else◌}
use Rattle.std.specs.Fmt.{decimal}
use Rattle.std.specs.List.{flat_map}
use Rattle.fr_interface.specs.ErrorNames.{host_error_name, slot_error_name}
use Rattle.fr_lines.specs.declared.forms.WordPlace.{WordPlace}
use Rattle.fr_lines.specs.Spelling.{line_feed, line_text}
use Rattle.fr_slots.specs.Admission.{letter_of}
use Rattle.fr_slots.specs.declared.fault.PlanFault.{PlanFault}
use Rattle.fr_slots.specs.declared.fault.PlanFault.TheVariants as fault
use Rattle.fr_slots.specs.declared.params.RangeError.{RangeError}
use Rattle.fr_slots.specs.declared.params.RangeError.TheVariants as range
use Rattle.fr_slots.specs.Parameters.{name_of}
use Rattle.fr_text.specs.Spelling.{hex_text}
use Rattle.fr_trace.specs.declared.error.TraceError.{TraceError}
use Rattle.fr_trace.specs.ErrorNames.{trace_error_text}
use Rattle.fr_trace.specs.Refusals.{feed_count}
use Rattle.fr_trace.specs.Stream.{fresh, take_bytes, longest_line}
use Rattle.fr_trace.specs.TraceText.{entry_line}
use Rattle.fr_why.specs.declared.reason.Misfit.{Misfit}
use Rattle.fr_why.specs.declared.reason.Misfit.TheVariants.{Word, Form, Late, Full, After}
use Rattle.fr_why.specs.declared.reason.Reason.{Reason}
use Rattle.fr_why.specs.declared.reason.Reason.TheVariants.{Plain, Line, Feed, Params, Plan, Host, Slot, Due}
use Rattle.fr_why.specs.Faults.{state_at, windows_of}
use Rattle.fr_why.specs.Reasons.{reason_for}

-- ---- the refusal, as an audit prints it

abbrev pub refusal_line : TraceError → List ℕ
refusal_line e = codes "refused " ++ trace_error_text e ++ line_feed

-- ---- the text of a line

-- an ASCII byte that prints as itself, except the backslash
abbrev pub is_shown : ℕ → Bool
is_shown b = nat_le 32 b && nat_le b 126 && not (b == 92)

-- such a byte as it is, and any other as a backslash, `x` and its two hexadecimal digits
abbrev pub byte_text : ℕ → List ℕ
byte_text b = if is_shown b then b ∷ [] else 92 ∷ hex_text (b ∷ [])

-- a space and the bytes of a line, at most as many as a line may have; nothing for an empty line
abbrev pub after_space : List ℕ → List ℕ
after_space [] = []
after_space (b ∷ bytes) = 32 ∷ flat_map byte_text (take longest_line (b ∷ bytes))

abbrev pub place_text : ℕ → List ℕ → List ℕ
place_text number line = codes "line " ++ decimal number ++ after_space line ++ line_feed

-- ---- the reason of the refusal

abbrev pub range_words : RangeError → List (List ℕ)
range_words (range.OutOfRange key) = codes "OutOfRange" ∷ name_of key ∷ []
range_words range.CycleSum = codes "CycleSum" ∷ []

abbrev pub fault_words : PlanFault → List (List ℕ)
fault_words (fault.NotOwned buffer) = codes "NotOwned" ∷ decimal buffer ∷ []
fault_words (fault.DynamicBoth buffer) = codes "DynamicBoth" ∷ decimal buffer ∷ []
fault_words (fault.Overlap slot channel cycle) = codes "Overlap" ∷ decimal slot ∷ letter_of channel ∷ decimal cycle ∷ []
fault_words (fault.TooLong buffer) = codes "TooLong" ∷ decimal buffer ∷ []
fault_words fault.OutOfParams = codes "OutOfParams" ∷ []

abbrev pub misfit_word : Misfit → List ℕ
misfit_word Word = codes "Word"
misfit_word Form = codes "Form"
misfit_word Late = codes "Late"
misfit_word Full = codes "Full"
misfit_word After = codes "After"

-- the number of the wrong word, and its column
abbrev pub place_words : Option WordPlace → List (List ℕ)
place_words None = []
place_words (Some place) = decimal place.word ∷ decimal place.column ∷ []

-- the kind of the refusal, and its name; or the line of the entry that the call makes
abbrev pub reason_text : Reason → List ℕ
reason_text Plain = []
reason_text (Line misfit place) = line_text (codes "reason" ∷ codes "Line" ∷ misfit_word misfit ∷ place_words place)
reason_text Feed = line_text (codes "reason" ∷ codes "Feed" ∷ [])
reason_text (Params e) = line_text (codes "reason" ∷ codes "Params" ∷ range_words e)
reason_text (Plan e) = line_text (codes "reason" ∷ codes "Plan" ∷ fault_words e)
reason_text (Host e) = line_text (codes "reason" ∷ codes "Host" ∷ host_error_name e ∷ [])
reason_text (Slot e) = line_text (codes "reason" ∷ codes "Slot" ∷ slot_error_name e ∷ [])
reason_text (Due e) = codes "due " ++ entry_line e

-- ---- the whole text

-- the number of lines, and the number of windows that were fetched in them
abbrev pub count_text : ℕ → ℕ → List ℕ
count_text lines windows = line_text (codes "lines" ∷ decimal lines ∷ [])
    ++ line_text (codes "windows" ∷ decimal windows ∷ [])

abbrev pub accepted_text : ℕ → ℕ → List ℕ
accepted_text lines windows = line_text (codes "accepted" ∷ []) ++ count_text lines windows

-- the error, the line with its number, the reason of the refusal, and the counts of what stands before it
abbrev pub fault_text : TraceError → ℕ → List ℕ → Reason → ℕ → List ℕ
fault_text e before line reason windows =
    refusal_line e ++ (place_text (before + 1) line ++ (reason_text reason
    ++ count_text before windows))

-- the same for this line after these lines
abbrev pub refused_text : TraceError → List ℕ → List ℕ → List ℕ
refused_text e front line =
    fault_text e (feed_count front) line (reason_for e (take_bytes fresh front) line)
    (windows_of (state_at (take_bytes fresh front)))
