-- The state that is kept of the lines before follows from them, and gives their reasons.
use Rattle.std.proofs.Common.{◌≡◌, ℕ, List, [], Option, Some, None, Result, Ok, Err, inl, inr, refl, subst}
use Rattle.std.proofs.lemmas.Bool.{cases_Bool}
use Rattle.std.specs.Prelude.{ℤ, is_none}
use Rattle.std.specs.Str.{bytes_eq}
use Rattle.fr_interface.specs.State.{State}
use Rattle.fr_journal.specs.Forms.{Entry}
use Rattle.fr_lines.specs.declared.plan_lines.PlanLine.{PlanLine}
use Rattle.fr_lines.specs.declared.plan_lines.PlanLine.TheVariants as plan_line
use Rattle.fr_lines.specs.declared.versions.Version.{Version}
use Rattle.fr_lines.specs.Reading.{version_in, params_in, node_in, plan_line_in, entry_in}
use Rattle.fr_lines.specs.Spelling.{begin_line, end_line}
use Rattle.fr_slots.specs.declared.params.RangeError.{RangeError}
use Rattle.fr_slots.specs.declared.plan.Buffer.{Buffer}
use Rattle.fr_slots.specs.declared.plan.Own.{Own}
use Rattle.fr_slots.specs.declared.plan.Queue.{Queue}
use Rattle.fr_slots.specs.Faults.{plan_fault}
use Rattle.fr_slots.specs.Parameters.{Parameters, parameters_of}
use Rattle.fr_slots.specs.Plans.{Plan, own_refusal, buffer_refusal, queue_refusal}
use Rattle.fr_text.specs.Spaces.{words_of}
use Rattle.fr_trace.specs.Answers.{fault_of}
use Rattle.fr_trace.specs.declared.error.TraceError.{TraceError}
use Rattle.fr_trace.specs.declared.error.TraceError.TheVariants as refusal
use Rattle.fr_trace.specs.Stream.{Phase, magic, params, node, lines, body, finished, reading, after_magic}
use Rattle.fr_trace.specs.Stream.{after_parameters, after_plan_line, has_owned_alone, after_begin, after_own}
use Rattle.fr_trace.specs.Stream.{after_buffer, after_queue, after_fault, after_entry, take_line, line_number, fresh}
use Rattle.fr_trace.specs.Stream.{take_bytes}
use Rattle.fr_trace.specs.Stream as stream
use Rattle.fr_why.specs.Asking.{reason_asked}
use Rattle.fr_why.specs.declared.head.Head.{Head}
use Rattle.fr_why.specs.declared.head.Head.TheVariants as head
use Rattle.fr_why.specs.Faults.{state_at, state_in}
use Rattle.fr_why.specs.Heads.{head_of, next_head, after_version, after_range, after_numbers, after_node, with_line}
use Rattle.fr_why.specs.Reasons.{reason_for}

-- ---- a line that is taken leads both to the same state

abbrev Follows : Result Phase TraceError → Head → Type 0
Follows (Ok q) h = h ≡ head_of q
Follows (Err e) h = Unit {0}

version_follows : (o : Option Version) → Follows (after_magic o) (after_version o)
version_follows None = tt
version_follows (Some v) = refl

range_follows : (v : Version) (r : Result Parameters RangeError) → Follows (after_parameters v r) (after_range v r)
range_follows v (Err e) = tt
range_follows v (Ok p) = refl

numbers_follow : (v : Version) (o : Option (List ℤ)) → Follows (stream.after_numbers v o) (after_numbers v o)
numbers_follow v None = tt
numbers_follow v (Some numbers) = range_follows v (parameters_of numbers)

node_follows : (v : Version) (p : Parameters) (o : Option Plan) → Follows (stream.after_node v p o) (after_node v p o)
node_follows v p None = tt
node_follows v p (Some plan) = refl

begin_follows : (v : Version) (p : Parameters) (plan : Plan) → Follows (after_begin v p plan) (head.Body v)
begin_follows v p plan =
    elim (cases_Bool (is_none (plan_fault p plan))) [
      | inl pass ↦ rw pass refl
      | inr fail ↦ rw fail tt
    ]

own_follows : (v : Version) (p : Parameters) (plan : Plan) (o : Own)
    → Follows (after_own v p plan o) (head.Lines v p (with_line plan (Some (plan_line.Own o))))
own_follows v p plan o =
    elim (cases_Bool (has_owned_alone plan)) [
      | inl alone ↦ elim (cases_Bool (is_none (own_refusal plan o))) [
        | inl taken ↦ rw (alone, taken) refl
        | inr refused ↦ rw (alone, refused) tt
      ]
      | inr late ↦ rw late tt
    ]

buffer_follows : (v : Version) (p : Parameters) (plan : Plan) (b : Buffer)
    → Follows (after_buffer v p plan b) (head.Lines v p (with_line plan (Some (plan_line.Buffer b))))
buffer_follows v p plan b =
    elim (cases_Bool (is_none plan.queue)) [
      | inl early ↦ elim (cases_Bool (is_none (buffer_refusal plan b))) [
        | inl taken ↦ rw (early, taken) refl
        | inr refused ↦ rw (early, refused) tt
      ]
      | inr late ↦ rw late tt
    ]

queue_follows : (v : Version) (p : Parameters) (plan : Plan) (q : Queue)
    → Follows (after_queue v p plan q) (head.Lines v p (with_line plan (Some (plan_line.Queue q))))
queue_follows v p plan q =
    elim (cases_Bool (is_none (queue_refusal plan q))) [
      | inl taken ↦ rw taken refl
      | inr refused ↦ rw refused tt
    ]

plan_line_follows : (v : Version) (p : Parameters) (plan : Plan) (o : Option PlanLine)
    → Follows (after_plan_line v p plan o) (head.Lines v p (with_line plan o))
plan_line_follows v p plan None = tt
plan_line_follows v p plan (Some (plan_line.Own o)) = own_follows v p plan o
plan_line_follows v p plan (Some (plan_line.Buffer b)) = buffer_follows v p plan b
plan_line_follows v p plan (Some (plan_line.Queue q)) = queue_follows v p plan q

fault_follows : (v : Version) (s : State) (e : Entry) (o : Option TraceError)
    → Follows (after_fault v s e o) (head.Body v)
fault_follows v s e None = refl
fault_follows v s e (Some error) = tt

entry_follows : (v : Version) (s : State) (o : Option Entry) → Follows (after_entry v s o) (head.Body v)
entry_follows v s None = tt
entry_follows v s (Some e) = fault_follows v s e (fault_of (line_number (body v s)) s e)

line_follows : (p : Phase) (line : List ℕ) → Follows (take_line p line) (next_head (head_of p) line)
line_follows magic line = version_follows (version_in line)
line_follows (params v) line = numbers_follow v (params_in (words_of line))
line_follows (node v p) line = node_follows v p (node_in (words_of line))
line_follows (lines v p plan) line = elim (cases_Bool (bytes_eq line begin_line)) [
  | inl is ↦ rw is (begin_follows v p plan)
  | inr other ↦ rw other (plan_line_follows v p plan (plan_line_in v (words_of line)))
]
line_follows (body v s) line = elim (cases_Bool (bytes_eq line end_line)) [
  | inl is ↦ rw is refl
  | inr other ↦ rw other (entry_follows v s (entry_in v (words_of line)))
]
line_follows (finished v s) line = tt

-- the kept state after a line that is taken
pub followed : (p q : Phase) (line : List ℕ) → take_line p line ≡ Ok q → next_head (head_of p) line ≡ head_of q
followed p q line taken = subst (λ (r : Result Phase TraceError). Follows r (next_head (head_of p) line)) taken
    (line_follows p line)

-- ---- reasons

asked_in : (e : TraceError) (p : Phase) (held line : List ℕ)
    → reason_asked e (head_of p) (state_in p) line ≡ reason_for e (reading p held) line
asked_in (refusal.Refused n) magic held line = refl
asked_in (refusal.Refused n) (params v) held line = refl
asked_in (refusal.Refused n) (node v p) held line = refl
asked_in (refusal.Refused n) (lines v p plan) held line = refl
asked_in (refusal.Refused n) (body v s) held line = refl
asked_in (refusal.Refused n) (finished v s) held line = refl
asked_in (refusal.WrongAnswer n) magic held line = refl
asked_in (refusal.WrongAnswer n) (params v) held line = refl
asked_in (refusal.WrongAnswer n) (node v p) held line = refl
asked_in (refusal.WrongAnswer n) (lines v p plan) held line = refl
asked_in (refusal.WrongAnswer n) (body v s) held line = refl
asked_in (refusal.WrongAnswer n) (finished v s) held line = refl
asked_in refusal.BadMagic p held line = refl
asked_in (refusal.BadLine n) magic held line = refl
asked_in (refusal.BadLine n) (params v) held line = refl
asked_in (refusal.BadLine n) (node v p) held line = refl
asked_in (refusal.BadLine n) (lines v p plan) held line = refl
asked_in (refusal.BadLine n) (body v s) held line = refl
asked_in (refusal.BadLine n) (finished v s) held line = refl
asked_in (refusal.LineTooLong n) p held line = refl
asked_in refusal.Truncated magic held line = refl
asked_in refusal.Truncated (params v) held line = refl
asked_in refusal.Truncated (node v p) held line = refl
asked_in refusal.Truncated (lines v p plan) held line = refl
asked_in refusal.Truncated (body v s) held line = refl
asked_in refusal.Truncated (finished v s) held line = refl
asked_in refusal.Read p held line = refl
asked_in refusal.Write p held line = refl
asked_in refusal.Memory p held line = refl

-- the reason from the kept state is that of the lines before
pub reason_told : (e : TraceError) (front line : List ℕ) (h : Head) (p : Phase) → take_bytes fresh front ≡ reading p []
    → h ≡ head_of p
    → reason_asked e h (state_at (take_bytes fresh front)) line ≡ reason_for e (take_bytes fresh front) line
reason_told e front line h p came told = rw (came, told) (asked_in e p [] line)
