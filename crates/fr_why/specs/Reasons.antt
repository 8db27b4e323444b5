-- The reason of a line's refusal, by the state after the lines before it (project-defined).
use Rattle.std.specs.Prelude.{⊤, ℕ, ℤ, Bool, true, false, ◌||◌, List, [], ◌∷◌, codes, Option, Some, None, is_none}
use Rattle.std.specs.Prelude.{option_map, Result, Ok, Err, if◌then◌else◌}
use Rattle.std.specs.Str.{bytes_eq}
use Rattle.fr_interface.specs.State.{State, commit_refusal, withdraw_refusal, read_refusal, pop_refusal, fetch_refusal}
use Rattle.fr_interface.specs.State.{observe_refusal}
use Rattle.fr_journal.specs.Forms.{Entry}
use Rattle.fr_journal.specs.declared.entry.Entry.TheVariants as entry
use Rattle.fr_lines.specs.declared.forms.WordPlace.{WordPlace}
use Rattle.fr_lines.specs.declared.plan_lines.PlanLine.{PlanLine}
use Rattle.fr_lines.specs.declared.plan_lines.PlanLine.TheVariants as plan_line
use Rattle.fr_lines.specs.declared.versions.Version.{Version}
use Rattle.fr_lines.specs.declared.versions.Version.TheVariants.{Three}
use Rattle.fr_lines.specs.Forms.{wrong_in, place_in}
use Rattle.fr_lines.specs.Reading.{params_in, plan_line_in, entry_in}
use Rattle.fr_lines.specs.Spelling.{begin_line, end_line}
use Rattle.fr_slots.specs.declared.fault.PlanFault.{PlanFault}
use Rattle.fr_slots.specs.declared.params.RangeError.{RangeError}
use Rattle.fr_slots.specs.Faults.{plan_fault}
use Rattle.fr_slots.specs.Parameters.{Parameters, parameters_of}
use Rattle.fr_slots.specs.Plans.{Plan}
use Rattle.fr_text.specs.Spaces.{words_of}
use Rattle.fr_trace.specs.Answers.{made_by}
use Rattle.fr_trace.specs.declared.error.TraceError.{TraceError}
use Rattle.fr_trace.specs.declared.error.TraceError.TheVariants as refusal
use Rattle.fr_trace.specs.Stream.{Phase, magic, params, node, lines, body, finished, Progress, reading, failed}
use Rattle.fr_trace.specs.Stream.{has_owned_alone}
use Rattle.fr_why.specs.declared.reason.Misfit.{Misfit}
use Rattle.fr_why.specs.declared.reason.Misfit.TheVariants.{Word, Form, Late, Full, After}
use Rattle.fr_why.specs.declared.reason.Reason.{Reason}
use Rattle.fr_why.specs.declared.reason.Reason.TheVariants.{Plain, Line, Feed, Params, Host, Slot, Due}
use Rattle.fr_why.specs.declared.reason.Reason.TheVariants as reason

-- ---- lines that can't stand in their place

abbrev pub first_word : List (List ℕ) → List ℕ
first_word [] = []
first_word (word ∷ words) = word

-- the misfit of a line that isn't read
abbrev pub misfit_of : Bool → Misfit
misfit_of true = Form
misfit_of false = Word

-- the first words of the lines of a plan, and of those of a journal
abbrev pub is_of_plan : List ℕ → Bool
is_of_plan word = bytes_eq word (codes "own") || bytes_eq word (codes "tx") || bytes_eq word (codes "rx")
    || bytes_eq word (codes "queue") || bytes_eq word (codes "begin")

abbrev pub is_of_journal : List ℕ → Bool
is_of_journal word = bytes_eq word (codes "commit") || bytes_eq word (codes "withdraw") || bytes_eq word (codes "read")
    || bytes_eq word (codes "pop") || bytes_eq word (codes "fetch") || bytes_eq word (codes "see")
    || bytes_eq word (codes "end")

-- the misfit of a line that is one too many, or that stands after lines that it must stand before
abbrev pub misplaced : Bool → Misfit
misplaced true = Full
misplaced false = Late

abbrev pub misfit_in_plan : Plan → List ℕ → Option PlanLine → Misfit
misfit_in_plan plan word None = misfit_of (is_of_plan word)
misfit_in_plan plan word (Some (plan_line.Own o)) = misplaced (has_owned_alone plan)
misfit_in_plan plan word (Some (plan_line.Buffer b)) = misplaced (is_none plan.queue)
misfit_in_plan plan word (Some (plan_line.Queue q)) = Full

abbrev pub misfit_in : Phase → List (List ℕ) → Misfit
misfit_in magic words = Word
misfit_in (params v) words = misfit_of (bytes_eq (first_word words) (codes "params"))
misfit_in (node v p) words = misfit_of (bytes_eq (first_word words) (codes "node"))
misfit_in (lines v p plan) words = misfit_in_plan plan (first_word words) (plan_line_in v words)
misfit_in (body v s) words = misfit_of (is_of_journal (first_word words))
misfit_in (finished v s) words = After

-- the version of the lines, if it matters
abbrev pub told_version : Phase → Version
told_version magic = Three
told_version (params v) = v
told_version (node v p) = v
told_version (lines v p plan) = v
told_version (body v s) = v
told_version (finished v s) = Three

-- the first word, if no line that begins with it may stand there; for a line of another form the wrong word, if it is a
-- single one
abbrev pub place_of : Version → Misfit → List (List ℕ) → Option WordPlace
place_of v Word words = Some (place_in words 0)
place_of v Form words = option_map (place_in words) (wrong_in v words)
place_of v Late words = None
place_of v Full words = None
place_of v After words = None

abbrev pub reason_of_misfit : Version → Misfit → List (List ℕ) → Reason
reason_of_misfit v misfit words = Line misfit (place_of v misfit words)

-- ---- the end of the text

-- for a text that breaks off in this line: only its line feed is missing, or more
abbrev pub feed_in : Phase → List ℕ → Reason
feed_in magic line = Plain
feed_in (params v) line = Plain
feed_in (node v p) line = Plain
feed_in (lines v p plan) line = Plain
feed_in (body v s) line = if bytes_eq line end_line then Feed else Plain
feed_in (finished v s) line = Plain

abbrev pub feed_at : Progress → List ℕ → Reason
feed_at (reading p held) line = feed_in p line
feed_at (failed e) line = Plain

-- ---- parameters and plan

abbrev pub reason_of_range : Result Parameters RangeError → Reason
reason_of_range (Ok p) = Plain
reason_of_range (Err e) = Params e

abbrev pub reason_of_numbers : Option (List ℤ) → Reason
reason_of_numbers None = Plain
reason_of_numbers (Some numbers) = reason_of_range (parameters_of numbers)

abbrev pub reason_of_fault : Option PlanFault → Reason
reason_of_fault None = Plain
reason_of_fault (Some fault) = reason.Plan fault

-- ---- calls

-- the reason why the interface refuses the call of an entry, if it does
abbrev pub call_refusal : State → Entry → Option Reason
call_refusal s (entry.Commit task buffer payload) = option_map Host (commit_refusal s task buffer payload)
call_refusal s (entry.Withdraw task buffer of) = option_map Host (withdraw_refusal s task buffer)
call_refusal s (entry.Read task buffer from) = option_map Host (read_refusal s task buffer)
call_refusal s (entry.Pop task from) = option_map Host (pop_refusal s task)
call_refusal s (entry.Fetch window a b) = option_map Slot (fetch_refusal s window)
call_refusal s (entry.Observe window a b) = option_map Slot (observe_refusal s window)

-- the reason why the call is refused, or otherwise the entry that it makes
abbrev pub reason_of_call : Entry → Option Reason → Reason
reason_of_call made None = Due made
reason_of_call made (Some known) = known

abbrev pub reason_of_entry : State → Option Entry → Reason
reason_of_entry s None = Plain
reason_of_entry s (Some e) = reason_of_call (made_by s e) (call_refusal s e)

-- ---- a line

abbrev pub reason_in : Phase → List ℕ → Reason
reason_in magic line = Plain
reason_in (params v) line = reason_of_numbers (params_in (words_of line))
reason_in (node v p) line = Plain
reason_in (lines v p plan) line = if bytes_eq line begin_line then reason_of_fault (plan_fault p plan) else Plain
reason_in (body v s) line = reason_of_entry s (entry_in v (words_of line))
reason_in (finished v s) line = Plain

abbrev pub reason_at : Progress → List ℕ → Reason
reason_at (reading p held) line = reason_in p line
reason_at (failed e) line = Plain

abbrev pub misfit_at : Progress → List ℕ → Reason
misfit_at (reading p held) line = reason_of_misfit (told_version p) (misfit_in p (words_of line)) (words_of line)
misfit_at (failed e) line = Plain

-- the reason of this error of the line; only four errors have one
abbrev pub reason_for : TraceError → Progress → List ℕ → Reason
reason_for (refusal.BadLine n) before line = misfit_at before line
reason_for (refusal.Refused n) before line = reason_at before line
reason_for (refusal.WrongAnswer n) before line = reason_at before line
reason_for refusal.Truncated before line = feed_at before line
reason_for e before line = Plain

-- ---- completeness of the reasons

-- a refusal of a line or of a call is reported with its own reason, and a wrong answer with the entry that the call
-- makes
abbrev pub IsReasonOf : TraceError → Reason → Type 0
IsReasonOf (refusal.BadLine n) (Line misfit place) = ⊤
IsReasonOf (refusal.Refused n) (Params e) = ⊤
IsReasonOf (refusal.Refused n) (reason.Plan e) = ⊤
IsReasonOf (refusal.Refused n) (Host e) = ⊤
IsReasonOf (refusal.Refused n) (Slot e) = ⊤
IsReasonOf (refusal.WrongAnswer n) (Due made) = ⊤
IsReasonOf refusal.BadMagic Plain = ⊤
IsReasonOf (refusal.LineTooLong n) Plain = ⊤
IsReasonOf refusal.Truncated Plain = ⊤
IsReasonOf refusal.Truncated Feed = ⊤
IsReasonOf e r = ⊥
