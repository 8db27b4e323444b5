-- An accepted text of versions 1 to 3 is a text of a node's legal interface.
use Rattle.std.proofs.Common.{◌≡◌, ℕ, ◌≤◌, ◌==◌, ◌&&◌, List, [], ◌∷◌, length, Option, Some, None}
use Rattle.std.proofs.Common.{Result, Ok, Err, inl, inr, refl, sym, ap, subst, ◌∙◌, false}
use Rattle.std.proofs.lemmas.Bool.{cases_Bool}
use Rattle.std.specs.Prelude.{ℤ, is_none, IfOk}
use Rattle.std.specs.Str.{bytes_eq}
use Rattle.fr_auditing.proofs.StreamLemmas.{earlier_bytes}
use Rattle.fr_auditing.specs.LongStream.{bytes_by}
use Rattle.fr_auditing.specs.Tracking.{IsEarlierText}
use Rattle.fr_interface.specs.State.{State, IsLegalInterface}
use Rattle.fr_journal.specs.Forms.{Entry}
use Rattle.fr_lines.proofs.NodeLemmas.{node_fits}
use Rattle.fr_lines.specs.declared.plan_lines.PlanLine.{PlanLine}
use Rattle.fr_lines.specs.declared.plan_lines.PlanLine.TheVariants as plan_line
use Rattle.fr_lines.specs.declared.versions.Version.{Version}
use Rattle.fr_lines.specs.Reading.{version_in, params_in, node_in, plan_line_in, entry_in}
use Rattle.fr_lines.specs.Spelling.{begin_line, end_line}
use Rattle.fr_slots.specs.declared.params.RangeError.{RangeError}
use Rattle.fr_slots.specs.declared.plan.Buffer.{Buffer}
use Rattle.fr_slots.specs.declared.plan.Own.{Own}
use Rattle.fr_slots.specs.declared.plan.Queue.{Queue}
use Rattle.fr_slots.specs.Faults.{plan_fault}
use Rattle.fr_slots.specs.Numbers.{most_host_entries, most_slot_entries}
use Rattle.fr_slots.specs.Parameters.{Parameters, parameters_of}
use Rattle.fr_slots.specs.Plans.{Plan, IsNodePlan, own_refusal, buffer_refusal, queue_refusal}
use Rattle.fr_text.specs.Spaces.{words_of}
use Rattle.fr_trace.proofs.OutcomeLemmas.{accepted_text}
use Rattle.fr_trace.specs.Answers.{fault_of}
use Rattle.fr_trace.specs.declared.error.TraceError.{TraceError}
use Rattle.fr_trace.specs.Stream.{Phase, magic, params, node, lines, body, finished, Progress, reading, failed}
use Rattle.fr_trace.specs.Stream.{line_number, after_magic, after_parameters, after_numbers, after_node, after_queue}
use Rattle.fr_trace.specs.Stream.{after_buffer, has_owned_alone, after_own, after_plan_line, after_begin, after_fault}
use Rattle.fr_trace.specs.Stream.{after_entry, take_line, after_line, take_open, take_byte, take_bytes, longest_line}
use Rattle.fr_trace.specs.Stream.{fresh, outcome_of}

-- ---- the room of a plan is that of a node's journal

abbrev HasNodeRoom : Plan → Type 0
HasNodeRoom plan = (plan.host_entries ≤ most_host_entries) × (plan.slot_entries ≤ most_slot_entries)

abbrev HasRoom : Phase → Type 0
HasRoom (lines v p plan) = HasNodeRoom plan
HasRoom (body v s) = HasNodeRoom s.plan
HasRoom (finished v s) = HasNodeRoom s.plan
HasRoom p = Unit {0}

abbrev HasRoomNext : Result Phase TraceError → Type 0
HasRoomNext (Ok p) = HasRoom p
HasRoomNext (Err e) = Unit {0}

abbrev HasRoomSoFar : Progress → Type 0
HasRoomSoFar (reading p line) = HasRoom p
HasRoomSoFar (failed e) = Unit {0}

-- ---- lines

magic_room : (o : Option Version) → HasRoomNext (after_magic o)
magic_room None = tt
magic_room (Some v) = tt

parameters_room : (v : Version) (r : Result Parameters RangeError) → HasRoomNext (after_parameters v r)
parameters_room v (Err e) = tt
parameters_room v (Ok p) = tt

numbers_room : (v : Version) (o : Option (List ℤ)) → HasRoomNext (after_numbers v o)
numbers_room v None = tt
numbers_room v (Some numbers) = parameters_room v (parameters_of numbers)

node_room : (v : Version) (p : Parameters) (words : List (List ℕ)) (o : Option Plan) → node_in words ≡ o
    → HasRoomNext (after_node v p o)
node_room v p words None read = tt
node_room v p words (Some plan) read =
    let fits : IsNodePlan plan = node_fits words plan read in (fits.few_host_entries, fits.few_slot_entries)

queue_room : (v : Version) (p : Parameters) (plan : Plan) (q : Queue) → HasNodeRoom plan
    → HasRoomNext (after_queue v p plan q)
queue_room v p plan q room = elim (cases_Bool (is_none (queue_refusal plan q))) [
  | inl taken ↦ rw taken room
  | inr refused ↦ rw refused tt
]

buffer_room : (v : Version) (p : Parameters) (plan : Plan) (b : Buffer) → HasNodeRoom plan
    → HasRoomNext (after_buffer v p plan b)
buffer_room v p plan b room = elim (cases_Bool (is_none plan.queue && is_none (buffer_refusal plan b))) [
  | inl taken ↦ rw taken room
  | inr refused ↦ rw refused tt
]

own_room : (v : Version) (p : Parameters) (plan : Plan) (o : Own) → HasNodeRoom plan
    → HasRoomNext (after_own v p plan o)
own_room v p plan o room = elim (cases_Bool (has_owned_alone plan && is_none (own_refusal plan o))) [
  | inl taken ↦ rw taken room
  | inr refused ↦ rw refused tt
]

plan_line_room : (v : Version) (p : Parameters) (plan : Plan) (o : Option PlanLine) → HasNodeRoom plan
    → HasRoomNext (after_plan_line v p plan o)
plan_line_room v p plan None room = tt
plan_line_room v p plan (Some (plan_line.Own o)) room = own_room v p plan o room
plan_line_room v p plan (Some (plan_line.Buffer b)) room = buffer_room v p plan b room
plan_line_room v p plan (Some (plan_line.Queue q)) room = queue_room v p plan q room

begin_room : (v : Version) (p : Parameters) (plan : Plan) → HasNodeRoom plan → HasRoomNext (after_begin v p plan)
begin_room v p plan room = elim (cases_Bool (is_none (plan_fault p plan))) [
  | inl pass ↦ rw pass room
  | inr fail ↦ rw fail tt
]

fault_room : (v : Version) (s : State) (e : Entry) (o : Option TraceError) → HasNodeRoom s.plan
    → HasRoomNext (after_fault v s e o)
fault_room v s e (Some f) room = tt
fault_room v s e None room = room

entry_room : (v : Version) (s : State) (o : Option Entry) → HasNodeRoom s.plan → HasRoomNext (after_entry v s o)
entry_room v s None room = tt
entry_room v s (Some e) room = fault_room v s e (fault_of (line_number (body v s)) s e) room

line_room : (p : Phase) (line : List ℕ) → HasRoom p → HasRoomNext (take_line p line)
line_room magic line room = magic_room (version_in line)
line_room (params v) line room = numbers_room v (params_in (words_of line))
line_room (node v p) line room = node_room v p (words_of line) (node_in (words_of line)) refl
line_room (lines v p plan) line room = elim (cases_Bool (bytes_eq line begin_line)) [
  | inl pass ↦ rw pass (begin_room v p plan room)
  | inr fail ↦ rw fail (plan_line_room v p plan (plan_line_in v (words_of line)) room)
]
line_room (body v s) line room = elim (cases_Bool (bytes_eq line end_line)) [
  | inl pass ↦ rw pass room
  | inr fail ↦ rw fail (entry_room v s (entry_in v (words_of line)) room)
]
line_room (finished v s) line room = tt

-- ---- bytes

after_line_room : (r : Result Phase TraceError) → HasRoomNext r → HasRoomSoFar (after_line r)
after_line_room (Ok p) h = h
after_line_room (Err e) h = tt

open_room : (p : Phase) (line : List ℕ) (b : ℕ) → HasRoom p → HasRoomSoFar (take_open p line b)
open_room p line b room = elim (cases_Bool (b == 10)) [
  | inl feed ↦ rw feed (after_line_room (take_line p line) (line_room p line room))
  | inr other ↦ rw other (elim (cases_Bool (length line == longest_line)) [
    | inl full ↦ rw full tt
    | inr left ↦ rw left room
  ])
]

byte_room : (s : Progress) (b : ℕ) → HasRoomSoFar s → HasRoomSoFar (take_byte s b)
byte_room (failed e) b room = tt
byte_room (reading magic line) b room = open_room magic line b room
byte_room (reading (params v) line) b room = open_room (params v) line b room
byte_room (reading (node v p) line) b room = open_room (node v p) line b room
byte_room (reading (lines v p plan) line) b room = open_room (lines v p plan) line b room
byte_room (reading (body v s) line) b room = open_room (body v s) line b room
byte_room (reading (finished v s) line) b room = tt

bytes_room : (bytes : List ℕ) (s : Progress) → HasRoomSoFar s → HasRoomSoFar (take_bytes s bytes)
bytes_room [] s room = room
bytes_room (b ∷ bytes) s room = bytes_room bytes (take_byte s b) (byte_room s b room)

-- ---- the interface that a text leaves

room_in : (s : Progress) (t : State) → HasRoomSoFar s → outcome_of s ≡ Ok t → HasNodeRoom t.plan
room_in (failed e) t room is = cc is
room_in (reading magic line) t room is = cc is
room_in (reading (params v) line) t room is = cc is
room_in (reading (node v p) line) t room is = cc is
room_in (reading (lines v p plan) line) t room is = cc is
room_in (reading (body v s) line) t room is = cc is
room_in (reading (finished v s) line) t room is =
    let same : s ≡ t = cc is in subst (λ (x : State). HasNodeRoom x.plan) same room

pub earlier_found : (r : Result State TraceError) (text : List ℕ) → r ≡ outcome_of (bytes_by false fresh text)
    → IfOk r IsLegalInterface → IfOk r (λ s. IsEarlierText s text)
earlier_found (Err e) text is legal = tt
earlier_found (Ok t) text is legal =
    let read : outcome_of (take_bytes fresh text) ≡ Ok t = ap outcome_of (sym (earlier_bytes text fresh)) ∙ sym is in
    let room = room_in (take_bytes fresh text) t (bytes_room text fresh tt) read in (
      read,
      accepted_text text t read,
      record {
        legal = legal;
        node_plan = record { plan_is = legal.plan_is; few_host_entries = room.0; few_slot_entries = room.1 };
      },
    )
