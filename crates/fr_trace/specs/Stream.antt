-- The state of a trace after each byte. A line is examined when its line feed comes.
use Rattle.std.specs.Prelude.{ℕ, Bool, ◌+◌, ◌==◌, ◌&&◌, List, [], ◌∷◌, ◌++◌, length, ℤ, Option, Some, None, is_none}
use Rattle.std.specs.Prelude.{Result, Ok, Err, if◌then◌else◌}
use Rattle.std.specs.List.{fold}
use Rattle.std.specs.Str.{bytes_eq}
use Rattle.fr_journal.specs.Forms.{Entry}
use Rattle.fr_interface.specs.State.{State, with_entry}
use Rattle.fr_lines.specs.declared.versions.Version.{Version}
use Rattle.fr_lines.specs.Reading.{version_in, params_in, node_in, plan_line_in, entry_in}
use Rattle.fr_lines.specs.declared.plan_lines.PlanLine.{PlanLine}
use Rattle.fr_lines.specs.declared.plan_lines.PlanLine.TheVariants as plan_line
use Rattle.fr_lines.specs.Spelling.{begin_line, end_line}
use Rattle.fr_slots.specs.declared.params.RangeError.{RangeError}
use Rattle.fr_slots.specs.declared.plan.Buffer.{Buffer}
use Rattle.fr_slots.specs.declared.plan.Own.{Own}
use Rattle.fr_slots.specs.declared.plan.Queue.{Queue}
use Rattle.fr_slots.specs.Faults.{plan_fault}
use Rattle.fr_slots.specs.Parameters.{Parameters, parameters_of}
use Rattle.fr_slots.specs.Plans.{Plan, own_refusal, buffer_refusal, queue_refusal, with_own, with_buffer, with_queue}
use Rattle.fr_text.specs.Spaces.{words_of}
use Rattle.fr_trace.specs.Answers.{made_by, fault_of}
use Rattle.fr_trace.specs.declared.error.TraceError.{TraceError}
use Rattle.fr_trace.specs.declared.error.TraceError.TheVariants.{BadMagic, BadLine, LineTooLong, Refused, Truncated}

-- the kinds of line that may come next, in a text of the version that its first line names
pub data Phase : Type 0 where
  magic : Phase
  params : Version → Phase
  node : Version → Parameters → Phase
  lines : Version → Parameters → Plan → Phase
  body : Version → State → Phase
  finished : Version → State → Phase

-- the state of a text: whole lines and the front of the next, or a line at fault
pub data Progress : Type 0 where
  reading : Phase → List ℕ → Progress
  failed : TraceError → Progress

-- ---- line numbers, counted from 1

abbrev pub queue_count : Option Queue → ℕ
queue_count None = 0
queue_count (Some queue) = 1

-- ownership lines, buffers and receive FIFO
abbrev pub line_count : Plan → ℕ
line_count plan = length plan.owned + length plan.buffers + queue_count plan.queue

-- the number of the line that comes next
abbrev pub line_number : Phase → ℕ
line_number magic = 1
line_number (params v) = 2
line_number (node v p) = 3
line_number (lines v p plan) = line_count plan + 4
line_number (body v s) = line_count s.plan + length s.entries + 5
line_number (finished v s) = line_count s.plan + length s.entries + 6

-- ---- whole lines

abbrev pub after_magic : Option Version → Result Phase TraceError
after_magic None = Err BadMagic
after_magic (Some v) = Ok (params v)

abbrev pub after_parameters : Version → Result Parameters RangeError → Result Phase TraceError
after_parameters v (Err e) = Err (Refused 2)
after_parameters v (Ok p) = Ok (node v p)

abbrev pub after_numbers : Version → Option (List ℤ) → Result Phase TraceError
after_numbers v None = Err (BadLine 2)
after_numbers v (Some numbers) = after_parameters v (parameters_of numbers)

abbrev pub after_node : Version → Parameters → Option Plan → Result Phase TraceError
after_node v p None = Err (BadLine 3)
after_node v p (Some plan) = Ok (lines v p plan)

abbrev pub bad_line : Plan → Result Phase TraceError
bad_line plan = Err (BadLine (line_count plan + 4))

-- the receive FIFO stands after all other lines of the plan, and there is at most one
abbrev pub after_queue : Version → Parameters → Plan → Queue → Result Phase TraceError
after_queue v p plan q = if is_none (queue_refusal plan q) then Ok (lines v p (with_queue plan q)) else bad_line plan

-- buffers stand before the receive FIFO, and there is room for 64
abbrev pub after_buffer : Version → Parameters → Plan → Buffer → Result Phase TraceError
after_buffer v p plan b =
    if is_none plan.queue && is_none (buffer_refusal plan b) then Ok (lines v p (with_buffer plan b))
    else bad_line plan

-- ownership lines stand before the buffers and the receive FIFO, and there is room for 64
abbrev pub has_owned_alone : Plan → Bool
has_owned_alone plan = length plan.buffers == 0 && is_none plan.queue

abbrev pub after_own : Version → Parameters → Plan → Own → Result Phase TraceError
after_own v p plan o = if has_owned_alone plan && is_none (own_refusal plan o) then Ok (lines v p (with_own plan o))
    else bad_line plan

-- an ownership line, a buffer, the receive FIFO, or none of these
abbrev pub after_plan_line : Version → Parameters → Plan → Option PlanLine → Result Phase TraceError
after_plan_line v p plan None = bad_line plan
after_plan_line v p plan (Some (plan_line.Own o)) = after_own v p plan o
after_plan_line v p plan (Some (plan_line.Buffer b)) = after_buffer v p plan b
after_plan_line v p plan (Some (plan_line.Queue q)) = after_queue v p plan q

-- an interface is made if the plan has no fault
abbrev pub after_begin : Version → Parameters → Plan → Result Phase TraceError
after_begin v p plan =
    if is_none (plan_fault p plan) then Ok (body v (record { params = p; plan = plan; entries = [] }))
    else Err (Refused (line_count plan + 4))

abbrev pub after_fault : Version → State → Entry → Option TraceError → Result Phase TraceError
after_fault v s e None = Ok (body v (with_entry s (made_by s e)))
after_fault v s e (Some error) = Err error

-- the interface makes the call of the entry again
abbrev pub after_call : Version → State → Entry → Result Phase TraceError
after_call v s e = after_fault v s e (fault_of (line_number (body v s)) s e)

abbrev pub after_entry : Version → State → Option Entry → Result Phase TraceError
after_entry v s None = Err (BadLine (line_number (body v s)))
after_entry v s (Some e) = after_call v s e

-- the phase after a whole line
abbrev pub take_line : Phase → List ℕ → Result Phase TraceError
take_line magic line = after_magic (version_in line)
take_line (params v) line = after_numbers v (params_in (words_of line))
take_line (node v p) line = after_node v p (node_in (words_of line))
take_line (lines v p plan) line = if bytes_eq line begin_line then after_begin v p plan
    else after_plan_line v p plan (plan_line_in v (words_of line))
take_line (body v s) line = if bytes_eq line end_line then Ok (finished v s)
    else after_entry v s (entry_in v (words_of line))
take_line (finished v s) line = Err (BadLine (line_number (finished v s)))

-- ---- bytes

abbrev pub longest_line : ℕ
longest_line = 1200

abbrev pub too_long : Phase → TraceError
too_long magic = BadMagic
too_long p = LineTooLong (line_number p)

abbrev pub after_line : Result Phase TraceError → Progress
after_line (Ok p) = reading p []
after_line (Err e) = failed e

-- a byte in a line that isn't over
abbrev pub take_open : Phase → List ℕ → ℕ → Progress
take_open p line b =
    if b == 10 then after_line (take_line p line)
    else if length line == longest_line then failed (too_long p)
    else reading p (line ++ b ∷ [])

-- after the line `end` no byte may come
abbrev pub take_in : Phase → List ℕ → ℕ → Progress
take_in (finished v s) line b = failed (BadLine (line_number (finished v s)))
take_in p line b = take_open p line b

abbrev pub take_byte : Progress → ℕ → Progress
take_byte (failed e) b = failed e
take_byte (reading p line) b = take_in p line b

-- the state once these bytes have come too
abbrev pub take_bytes : Progress → List ℕ → Progress
take_bytes s bytes = fold take_byte s bytes

-- no byte has come
abbrev pub fresh : Progress
fresh = reading magic []

-- ---- answers

-- while bytes may come
abbrev pub answer_of : Progress → Result (Unit {0}) TraceError
answer_of (reading p line) = Ok tt
answer_of (failed e) = Err e

-- at the end
abbrev pub outcome_of : Progress → Result State TraceError
outcome_of (reading (finished v s) line) = Ok s
outcome_of (reading magic line) = Err BadMagic
outcome_of (reading p line) = Err Truncated
outcome_of (failed e) = Err e
