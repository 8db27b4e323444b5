-- A version has a line for each ownership and each entry that is read in a text of it.
use Rattle.std.proofs.Common.{◌≡◌, ℕ, ◌==◌, ◌&&◌, true, List, [], ◌∷◌, ◌++◌, length, Option, Some, None, Result, Ok}
use Rattle.std.proofs.Common.{Err, inl, inr, refl, sym, subst}
use Rattle.std.specs.Prelude.{ℤ, is_none}
use Rattle.std.specs.Str.{bytes_eq}
use Rattle.std.proofs.lemmas.Bool.{cases_Bool}
use Rattle.fr_journal.specs.Forms.{Entry}
use Rattle.fr_interface.specs.State.{State}
use Rattle.fr_lines.proofs.EntryLemmas.{entry_told}
use Rattle.fr_lines.proofs.NodeLemmas.{node_no_lines}
use Rattle.fr_lines.proofs.OwnLemmas.{own_line_told}
use Rattle.fr_lines.proofs.PlanLineLemmas.{told_read}
use Rattle.fr_lines.specs.declared.plan_lines.PlanLine.{PlanLine}
use Rattle.fr_lines.specs.declared.plan_lines.PlanLine.TheVariants as plan_line
use Rattle.fr_lines.specs.declared.versions.Version.{Version}
use Rattle.fr_lines.specs.Reading.{version_in, params_in, node_in, plan_line_in, entry_in}
use Rattle.fr_lines.specs.Spelling.{begin_line, end_line}
use Rattle.fr_lines.specs.Versions.{tells, tells_own}
use Rattle.fr_slots.specs.declared.params.RangeError.{RangeError}
use Rattle.fr_slots.specs.declared.plan.Buffer.{Buffer}
use Rattle.fr_slots.specs.declared.plan.Own.{Own}
use Rattle.fr_slots.specs.declared.plan.Queue.{Queue}
use Rattle.fr_slots.specs.Faults.{plan_fault}
use Rattle.fr_slots.specs.Parameters.{Parameters, parameters_of}
use Rattle.fr_slots.specs.Plans.{Plan, Each, own_refusal, buffer_refusal, queue_refusal}
use Rattle.fr_text.specs.Spaces.{words_of}
use Rattle.fr_trace.specs.Answers.{fault_of, made_by}
use Rattle.fr_trace.specs.declared.error.TraceError.{TraceError}
use Rattle.fr_trace.specs.Stream.{Phase, magic, params, node, lines, body, finished, Progress, reading, failed}
use Rattle.fr_trace.specs.Stream.{line_number, after_magic, after_parameters, after_numbers, after_node, after_queue}
use Rattle.fr_trace.specs.Stream.{after_buffer, has_owned_alone, after_own, after_plan_line, after_begin, after_fault}
use Rattle.fr_trace.specs.Stream.{after_entry, take_line, after_line, take_open, take_byte, take_bytes, longest_line}
use Rattle.fr_trace.specs.Stream.{fresh}
use Rattle.fr_trace.specs.TraceText.{AreOwnedTold, AreTold}
use Rattle.fr_trace.proofs.AnswerLemmas.{made-answered}
use Rattle.fr_trace.proofs.TextLemmas.{fault_none}

abbrev pub IsTold : Phase → Type 0
IsTold (lines v p plan) = AreOwnedTold v plan.owned
IsTold (body v s) = AreOwnedTold v s.plan.owned × AreTold v s.entries
IsTold (finished v s) = AreOwnedTold v s.plan.owned × AreTold v s.entries
IsTold p = Unit {0}

abbrev IsToldNext : Result Phase TraceError → Type 0
IsToldNext (Ok p) = IsTold p
IsToldNext (Err e) = Unit {0}

abbrev pub IsToldSoFar : Progress → Type 0
IsToldSoFar (reading p line) = IsTold p
IsToldSoFar (failed e) = Unit {0}

each_more : {X : Type 0} (P : X → Type 0) (xs : List X) (x : X) → Each P xs → P x → Each P (xs ++ x ∷ [])
each_more P [] x all one = (one, tt)
each_more P (y ∷ xs) x all one = (all.0, each_more P xs x all.1 one)

-- ---- lines before the entries

magic_told : (o : Option Version) → IsToldNext (after_magic o)
magic_told None = tt
magic_told (Some v) = tt

parameters_told : (v : Version) (r : Result Parameters RangeError) → IsToldNext (after_parameters v r)
parameters_told v (Err e) = tt
parameters_told v (Ok p) = tt

numbers_told : (v : Version) (o : Option (List ℤ)) → IsToldNext (after_numbers v o)
numbers_told v None = tt
numbers_told v (Some numbers) = parameters_told v (parameters_of numbers)

node_told : (v : Version) (p : Parameters) (words : List (List ℕ)) (o : Option Plan) → node_in words ≡ o
    → IsToldNext (after_node v p o)
node_told v p words None read = tt
node_told v p words (Some plan) read = subst (AreOwnedTold v) (sym (node_no_lines words plan read).0) tt

queue_told : (v : Version) (p : Parameters) (plan : Plan) (q : Queue) → AreOwnedTold v plan.owned
    → IsToldNext (after_queue v p plan q)
queue_told v p plan q told = elim (cases_Bool (is_none (queue_refusal plan q))) [
  | inl taken ↦ rw taken told
  | inr refused ↦ rw refused tt
]

buffer_told : (v : Version) (p : Parameters) (plan : Plan) (b : Buffer) → AreOwnedTold v plan.owned
    → IsToldNext (after_buffer v p plan b)
buffer_told v p plan b told = elim (cases_Bool (is_none plan.queue && is_none (buffer_refusal plan b))) [
  | inl taken ↦ rw taken told
  | inr refused ↦ rw refused tt
]

own_told : (v : Version) (p : Parameters) (plan : Plan) (o : Own) → AreOwnedTold v plan.owned → tells_own v o ≡ true
    → IsToldNext (after_own v p plan o)
own_told v p plan o told one = elim (cases_Bool (has_owned_alone plan && is_none (own_refusal plan o))) [
  | inl taken ↦ rw taken (each_more (λ (x : Own). tells_own v x ≡ true) plan.owned o told one)
  | inr refused ↦ rw refused tt
]

plan_line_told : (v : Version) (p : Parameters) (plan : Plan) (words : List (List ℕ)) (o : Option PlanLine)
    → plan_line_in v words ≡ o → AreOwnedTold v plan.owned
    → IsToldNext (after_plan_line v p plan o)
plan_line_told v p plan words None read told = tt
plan_line_told v p plan words (Some (plan_line.Own o)) read told =
    own_told v p plan o told (own_line_told v words o (told_read v words (plan_line.Own o) read))
plan_line_told v p plan words (Some (plan_line.Buffer b)) read told = buffer_told v p plan b told
plan_line_told v p plan words (Some (plan_line.Queue q)) read told = queue_told v p plan q told

begin_told : (v : Version) (p : Parameters) (plan : Plan) → AreOwnedTold v plan.owned
    → IsToldNext (after_begin v p plan)
begin_told v p plan told = elim (cases_Bool (is_none (plan_fault p plan))) [
  | inl pass ↦ rw pass (told, tt)
  | inr fail ↦ rw fail tt
]

-- ---- entries

fault_told : (v : Version) (s : State) (e : Entry) (o : Option TraceError) → fault_of (line_number (body v s)) s e ≡ o
    → IsTold (body v s) → tells v e ≡ true
    → IsToldNext (after_fault v s e o)
fault_told v s e (Some f) is told one = tt
fault_told v s e None is told one =
    let made : made_by s e ≡ e = made-answered s e (fault_none (line_number (body v s)) s e is) in
    let more : AreTold v (s.entries ++ e ∷ []) = each_more (λ (x : Entry). tells v x ≡ true) s.entries e told.1 one in
    (told.0, subst (λ (x : Entry). AreTold v (s.entries ++ x ∷ [])) (sym made) more)

entry_told_next : (v : Version) (s : State) (words : List (List ℕ)) (o : Option Entry) → entry_in v words ≡ o
    → IsTold (body v s) → IsToldNext (after_entry v s o)
entry_told_next v s words None read told = tt
entry_told_next v s words (Some e) read told = fault_told v s e (fault_of (line_number (body v s)) s e) refl told
    (entry_told v words e read)

-- ---- whole lines

line_told : (p : Phase) (line : List ℕ) → IsTold p → IsToldNext (take_line p line)
line_told magic line told = magic_told (version_in line)
line_told (params v) line told = numbers_told v (params_in (words_of line))
line_told (node v p) line told = node_told v p (words_of line) (node_in (words_of line)) refl
line_told (lines v p plan) line told = elim (cases_Bool (bytes_eq line begin_line)) [
  | inl pass ↦ rw pass (begin_told v p plan told)
  | inr fail ↦ rw fail (plan_line_told v p plan (words_of line) (plan_line_in v (words_of line)) refl told)
]
line_told (body v s) line told = elim (cases_Bool (bytes_eq line end_line)) [
  | inl pass ↦ rw pass told
  | inr fail ↦ rw fail (entry_told_next v s (words_of line) (entry_in v (words_of line)) refl told)
]
line_told (finished v s) line told = tt

-- ---- bytes

after_line_told : (r : Result Phase TraceError) → IsToldNext r → IsToldSoFar (after_line r)
after_line_told (Ok p) h = h
after_line_told (Err e) h = tt

open_told : (p : Phase) (line : List ℕ) (b : ℕ) → IsTold p → IsToldSoFar (take_open p line b)
open_told p line b told = elim (cases_Bool (b == 10)) [
  | inl feed ↦ rw feed (after_line_told (take_line p line) (line_told p line told))
  | inr other ↦ rw other (elim (cases_Bool (length line == longest_line)) [
    | inl full ↦ rw full tt
    | inr room ↦ rw room told
  ])
]

byte_told : (s : Progress) (b : ℕ) → IsToldSoFar s → IsToldSoFar (take_byte s b)
byte_told (failed e) b told = tt
byte_told (reading magic line) b told = open_told magic line b told
byte_told (reading (params v) line) b told = open_told (params v) line b told
byte_told (reading (node v p) line) b told = open_told (node v p) line b told
byte_told (reading (lines v p plan) line) b told = open_told (lines v p plan) line b told
byte_told (reading (body v s) line) b told = open_told (body v s) line b told
byte_told (reading (finished v s) line) b told = tt

bytes_told : (bytes : List ℕ) (s : Progress) → IsToldSoFar s → IsToldSoFar (take_bytes s bytes)
bytes_told [] s told = told
bytes_told (b ∷ bytes) s told = bytes_told bytes (take_byte s b) (byte_told s b told)

-- the ownerships and entries of a text have a line in its version
pub text_told : (text : List ℕ) → IsToldSoFar (take_bytes fresh text)
text_told text = bytes_told text fresh tt
