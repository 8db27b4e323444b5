-- An error that is the text's own is never a failed allocation, nor an error of the reader or the writer.
use Rattle.std.proofs.Common.{ℕ, ◌==◌, ◌&&◌, List, [], ◌∷◌, length, Option, Some, None, Result, Ok, Err, inl, inr}
use Rattle.std.specs.Prelude.{ℤ, is_none}
use Rattle.std.specs.Str.{bytes_eq}
use Rattle.std.proofs.lemmas.Bool.{cases_Bool}
use Rattle.fr_journal.specs.Forms.{Entry}
use Rattle.fr_interface.specs.State.{State}
use Rattle.fr_lines.specs.Reading.{version_in, params_in, node_in, plan_line_in, entry_in}
use Rattle.fr_lines.specs.declared.versions.Version.{Version}
use Rattle.fr_lines.specs.declared.plan_lines.PlanLine.{PlanLine}
use Rattle.fr_lines.specs.declared.plan_lines.PlanLine.TheVariants as plan_line
use Rattle.fr_lines.specs.Spelling.{begin_line, end_line}
use Rattle.fr_slots.specs.declared.params.RangeError.{RangeError}
use Rattle.fr_slots.specs.declared.plan.Buffer.{Buffer}
use Rattle.fr_slots.specs.Parameters.{Parameters, parameters_of}
use Rattle.fr_slots.specs.declared.plan.Own.{Own}
use Rattle.fr_slots.specs.declared.plan.Queue.{Queue}
use Rattle.fr_slots.specs.Faults.{plan_fault}
use Rattle.fr_slots.specs.Plans.{Plan, own_refusal, buffer_refusal, queue_refusal}
use Rattle.fr_text.specs.Spaces.{words_of}
use Rattle.fr_trace.specs.Answers.{is_refused, is_answered}
use Rattle.fr_trace.specs.Audit.{IsOfText}
use Rattle.fr_trace.specs.declared.error.TraceError.{TraceError}
use Rattle.fr_trace.specs.Stream.{Phase, magic, params, node, lines, body, finished, Progress, reading, failed}
use Rattle.fr_trace.specs.Stream.{after_magic, after_parameters, after_numbers, after_node, after_queue, after_buffer}
use Rattle.fr_trace.specs.Stream.{has_owned_alone, after_own, after_plan_line, after_begin, after_call, after_entry}
use Rattle.fr_trace.specs.Stream.{take_line, too_long, after_line, take_open, take_byte, take_bytes, longest_line}
use Rattle.fr_trace.specs.Stream.{outcome_of}

abbrev pub FaultOfText : {A : Type 0} → Result A TraceError → Type 0
FaultOfText (Ok x) = Unit {0}
FaultOfText (Err e) = IsOfText e

abbrev pub FailsByText : Progress → Type 0
FailsByText (reading p line) = Unit {0}
FailsByText (failed e) = IsOfText e

-- ---- whole lines

magic_fault : (o : Option Version) → FaultOfText (after_magic o)
magic_fault None = tt
magic_fault (Some v) = tt

parameters_fault : (v : Version) (r : Result Parameters RangeError) → FaultOfText (after_parameters v r)
parameters_fault v (Err e) = tt
parameters_fault v (Ok p) = tt

numbers_fault : (v : Version) (o : Option (List ℤ)) → FaultOfText (after_numbers v o)
numbers_fault v None = tt
numbers_fault v (Some numbers) = parameters_fault v (parameters_of numbers)

node_fault : (v : Version) (p : Parameters) (o : Option Plan) → FaultOfText (after_node v p o)
node_fault v p None = tt
node_fault v p (Some plan) = tt

queue_fault : (v : Version) (p : Parameters) (plan : Plan) (q : Queue) → FaultOfText (after_queue v p plan q)
queue_fault v p plan q = elim (cases_Bool (is_none (queue_refusal plan q))) [
  | inl taken ↦ rw taken tt
  | inr refused ↦ rw refused tt
]

buffer_fault : (v : Version) (p : Parameters) (plan : Plan) (b : Buffer) → FaultOfText (after_buffer v p plan b)
buffer_fault v p plan b = elim (cases_Bool (is_none plan.queue && is_none (buffer_refusal plan b))) [
  | inl taken ↦ rw taken tt
  | inr refused ↦ rw refused tt
]

own_fault : (v : Version) (p : Parameters) (plan : Plan) (o : Own) → FaultOfText (after_own v p plan o)
own_fault v p plan o = elim (cases_Bool (has_owned_alone plan && is_none (own_refusal plan o))) [
  | inl taken ↦ rw taken tt
  | inr refused ↦ rw refused tt
]

plan_line_fault : (v : Version) (p : Parameters) (plan : Plan) (o : Option PlanLine)
    → FaultOfText (after_plan_line v p plan o)
plan_line_fault v p plan None = tt
plan_line_fault v p plan (Some (plan_line.Own o)) = own_fault v p plan o
plan_line_fault v p plan (Some (plan_line.Buffer b)) = buffer_fault v p plan b
plan_line_fault v p plan (Some (plan_line.Queue q)) = queue_fault v p plan q

begin_fault : (v : Version) (p : Parameters) (plan : Plan) → FaultOfText (after_begin v p plan)
begin_fault v p plan = elim (cases_Bool (is_none (plan_fault p plan))) [
  | inl pass ↦ rw pass tt
  | inr fail ↦ rw fail tt
]

call_fault : (v : Version) (s : State) (e : Entry) → FaultOfText (after_call v s e)
call_fault v s e = elim (cases_Bool (is_refused s e)) [
  | inl refused ↦ rw refused tt
  | inr accepted ↦
      rw accepted
      (elim (cases_Bool (is_answered s e)) [
        | inl answered ↦ rw answered tt
        | inr wrong ↦ rw wrong tt
      ])
]

entry_fault : (v : Version) (s : State) (o : Option Entry) → FaultOfText (after_entry v s o)
entry_fault v s None = tt
entry_fault v s (Some e) = call_fault v s e

line_fault : (p : Phase) (line : List ℕ) → FaultOfText (take_line p line)
line_fault magic line = magic_fault (version_in line)
line_fault (params v) line = numbers_fault v (params_in (words_of line))
line_fault (node v p) line = node_fault v p (node_in (words_of line))
line_fault (lines v p plan) line = elim (cases_Bool (bytes_eq line begin_line)) [
  | inl pass ↦ rw pass (begin_fault v p plan)
  | inr fail ↦ rw fail (plan_line_fault v p plan (plan_line_in v (words_of line)))
]
line_fault (body v s) line = elim (cases_Bool (bytes_eq line end_line)) [
  | inl pass ↦ rw pass tt
  | inr fail ↦ rw fail (entry_fault v s (entry_in v (words_of line)))
]
line_fault (finished v s) line = tt

-- ---- bytes

after_line_fault : (r : Result Phase TraceError) → FaultOfText r → FailsByText (after_line r)
after_line_fault (Ok p) h = tt
after_line_fault (Err e) h = h

long_fault : (p : Phase) → IsOfText (too_long p)
long_fault magic = tt
long_fault (params v) = tt
long_fault (node v p) = tt
long_fault (lines v p plan) = tt
long_fault (body v s) = tt
long_fault (finished v s) = tt

open_fault : (p : Phase) (line : List ℕ) (b : ℕ) → FailsByText (take_open p line b)
open_fault p line b = elim (cases_Bool (b == 10)) [
  | inl feed ↦ rw feed (after_line_fault (take_line p line) (line_fault p line))
  | inr other ↦ rw other (elim (cases_Bool (length line == longest_line)) [
    | inl full ↦ rw full (long_fault p)
    | inr room ↦ rw room tt
  ])
]

byte_fault : (s : Progress) (b : ℕ) → FailsByText s → FailsByText (take_byte s b)
byte_fault (failed e) b h = h
byte_fault (reading magic line) b h = open_fault magic line b
byte_fault (reading (params v) line) b h = open_fault (params v) line b
byte_fault (reading (node v p) line) b h = open_fault (node v p) line b
byte_fault (reading (lines v p plan) line) b h = open_fault (lines v p plan) line b
byte_fault (reading (body v s) line) b h = open_fault (body v s) line b
byte_fault (reading (finished v s) line) b h = tt

pub bytes_fault : (bytes : List ℕ) (s : Progress) → FailsByText s → FailsByText (take_bytes s bytes)
bytes_fault [] s h = h
bytes_fault (b ∷ bytes) s h = bytes_fault bytes (take_byte s b) (byte_fault s b h)

pub outcome_fault : (s : Progress) → FailsByText s → FaultOfText (outcome_of s)
outcome_fault (failed e) h = h
outcome_fault (reading magic line) h = tt
outcome_fault (reading (params v) line) h = tt
outcome_fault (reading (node v p) line) h = tt
outcome_fault (reading (lines v p plan) line) h = tt
outcome_fault (reading (body v s) line) h = tt
outcome_fault (reading (finished v s) line) h = tt
