-- The line that an error names; no bytes after a fault help; the length of a text.
use Rattle.std.proofs.Common.{◌≡◌, ℕ, ◌+◌, ◌*◌, ◌≤◌, ◌==◌, ◌&&◌, Bool, true, List, [], ◌∷◌, ◌++◌, length}
use Rattle.std.proofs.Common.{Option, Some, None, Result, Ok, Err, inl, inr, refl, sym, ap, subst, ◌∙◌, arith, cond}
use Rattle.std.proofs.Common.{length-append, zero-add, eq-eqb}
use Rattle.std.specs.Prelude.{ℤ, is_none, IfSome}
use Rattle.std.specs.Str.{bytes_eq}
use Rattle.std.proofs.lemmas.Bool.{cases_Bool}
use Rattle.std.proofs.lemmas.List.Sums.{fold-append, sum_by-cons}
use Rattle.std.proofs.lemmas.List.Folds.{fold_stays}
use Rattle.fr_journal.specs.Forms.{Entry}
use Rattle.fr_interface.specs.State.{State}
use Rattle.fr_lines.proofs.NodeLemmas.{node_no_lines}
use Rattle.fr_lines.specs.Reading.{version_in, params_in, node_in, plan_line_in, entry_in}
use Rattle.fr_lines.specs.declared.versions.Version.{Version}
use Rattle.fr_lines.specs.declared.plan_lines.PlanLine.{PlanLine}
use Rattle.fr_lines.specs.declared.plan_lines.PlanLine.TheVariants as plan_line
use Rattle.fr_lines.specs.Spelling.{begin_line, end_line}
use Rattle.fr_slots.specs.declared.params.RangeError.{RangeError}
use Rattle.fr_slots.specs.declared.plan.Buffer.{Buffer}
use Rattle.fr_slots.specs.declared.plan.Own.{Own}
use Rattle.fr_slots.specs.declared.plan.Queue.{Queue}
use Rattle.fr_slots.specs.Faults.{plan_fault}
use Rattle.fr_slots.specs.Parameters.{Parameters, parameters_of}
use Rattle.fr_slots.specs.Plans.{Plan, own_refusal, buffer_refusal, queue_refusal}
use Rattle.fr_text.specs.Spaces.{words_of}
use Rattle.fr_trace.specs.Answers.{fault_of, made_by, is_answered, is_refused}
use Rattle.fr_trace.specs.Audit.{ReadsThrough, Audits, outcome}
use Rattle.fr_trace.specs.declared.error.TraceError.{TraceError}
use Rattle.fr_trace.specs.declared.error.TraceError.TheVariants.{BadMagic, BadLine, LineTooLong, Refused, WrongAnswer}
use Rattle.fr_trace.specs.declared.error.TraceError.TheVariants.{Truncated, Read, Write, Memory}
use Rattle.fr_trace.specs.Feeds.{Reads}
use Rattle.fr_trace.specs.Refusals.{line_of_error, feed_count, IsFirstFault, NamesItsLine, LineIsNamed, IsHopeless}
use Rattle.fr_trace.specs.Refusals.{HopelessIfRefused, HasFewLines, ShortIfTaken, longest_text}
use Rattle.fr_trace.specs.Stream.{Phase, magic, params, node, lines, body, finished, Progress, reading, failed}
use Rattle.fr_trace.specs.Stream.{line_count, line_number, after_magic, after_parameters, after_numbers, after_node}
use Rattle.fr_trace.specs.Stream.{after_queue, after_buffer, has_owned_alone, after_own, after_plan_line, after_begin}
use Rattle.fr_trace.specs.Stream.{after_fault, after_entry, take_line, too_long, after_line, take_open, take_in}
use Rattle.fr_trace.specs.Stream.{take_byte, take_bytes, fresh, longest_line, answer_of, outcome_of}
use Rattle.fr_trace.proofs.OutcomeLemmas.{legal_outcome}
use Rattle.fr_trace.proofs.PlanLemmas.{no_queue_yet}
use Rattle.fr_trace.proofs.TextLemmas.{is_open, take_in-open, text_spelled, Spelled}

-- ---- whole lines: the next one has the next number, and a fault names this one

abbrev pub GivesNext : ℕ → Result Phase TraceError → Type 0
GivesNext n (Ok q) = line_number q ≡ n + 1
GivesNext n (Err e) = IfSome (line_of_error e) (λ m. m ≡ n)

magic_next : (o : Option Version) → GivesNext 1 (after_magic o)
magic_next None = tt
magic_next (Some v) = refl

parameters_next : (v : Version) (r : Result Parameters RangeError) → GivesNext 2 (after_parameters v r)
parameters_next v (Err e) = refl
parameters_next v (Ok p) = refl

numbers_next : (v : Version) (o : Option (List ℤ)) → GivesNext 2 (after_numbers v o)
numbers_next v None = refl
numbers_next v (Some numbers) = parameters_next v (parameters_of numbers)

bare_count : (plan : Plan) → plan.owned ≡ [] → plan.buffers ≡ [] → plan.queue ≡ None → line_count plan + 4 ≡ 3 + 1
bare_count plan no_own no_buffer no_queue = rw (no_own, no_buffer, no_queue) refl

node_next : (v : Version) (p : Parameters) (words : List (List ℕ)) (o : Option Plan) → node_in words ≡ o
    → GivesNext 3 (after_node v p o)
node_next v p words None read = refl
node_next v p words (Some plan) read = let bare = node_no_lines words plan read in bare_count plan bare.0 bare.1 bare.2

queue_next : (v : Version) (p : Parameters) (plan : Plan) (q : Queue)
    → GivesNext (line_count plan + 4) (after_queue v p plan q)
queue_next v p plan q =
    elim (cases_Bool (is_none (queue_refusal plan q))) [
      | inl taken ↦ rw taken (let none = no_queue_yet plan q taken in rw none (omega arith))
      | inr refused ↦ rw refused refl
    ]

buffer_next : (v : Version) (p : Parameters) (plan : Plan) (b : Buffer)
    → GivesNext (line_count plan + 4) (after_buffer v p plan b)
buffer_next v p plan b =
    elim (cases_Bool (is_none plan.queue && is_none (buffer_refusal plan b))) [
      | inl taken ↦ rw taken (omega (arith, length-append plan.buffers (b ∷ [])))
      | inr refused ↦ rw refused refl
    ]

own_next : (v : Version) (p : Parameters) (plan : Plan) (o : Own)
    → GivesNext (line_count plan + 4) (after_own v p plan o)
own_next v p plan o =
    elim (cases_Bool (has_owned_alone plan && is_none (own_refusal plan o))) [
      | inl taken ↦ rw taken (omega (arith, length-append plan.owned (o ∷ [])))
      | inr refused ↦ rw refused refl
    ]

plan_line_next : (v : Version) (p : Parameters) (plan : Plan) (o : Option PlanLine)
    → GivesNext (line_count plan + 4) (after_plan_line v p plan o)
plan_line_next v p plan None = refl
plan_line_next v p plan (Some (plan_line.Own o)) = own_next v p plan o
plan_line_next v p plan (Some (plan_line.Buffer b)) = buffer_next v p plan b
plan_line_next v p plan (Some (plan_line.Queue q)) = queue_next v p plan q

begin_next : (v : Version) (p : Parameters) (plan : Plan) → GivesNext (line_count plan + 4) (after_begin v p plan)
begin_next v p plan =
    elim (cases_Bool (is_none (plan_fault p plan))) [
      | inl pass ↦ rw pass (omega arith)
      | inr fail ↦ rw fail refl
    ]

fault_named : (n : ℕ) (s : State) (e : Entry) → IfSome (fault_of n s e)
    (λ error. IfSome (line_of_error error) (λ m. m ≡ n))
fault_named n s e =
    elim (cases_Bool (is_refused s e)) [
      | inl refused ↦ rw refused refl
      | inr accepted ↦ rw accepted (elim (cases_Bool (is_answered s e)) [
        | inl answered ↦ rw answered tt
        | inr wrong ↦ rw wrong refl
      ])
    ]

fault_next : (v : Version) (s : State) (e : Entry) (o : Option TraceError)
    → IfSome o (λ error. IfSome (line_of_error error) (λ m. m ≡ line_number (body v s)))
    → GivesNext (line_number (body v s)) (after_fault v s e o)
fault_next v s e None named = omega (arith, length-append s.entries (made_by s e ∷ []))
fault_next v s e (Some error) named = named

entry_next : (v : Version) (s : State) (o : Option Entry) → GivesNext (line_number (body v s)) (after_entry v s o)
entry_next v s None = refl
entry_next v s (Some e) = fault_next v s e (fault_of (line_number (body v s)) s e)
    (fault_named (line_number (body v s)) s e)

pub line_next : (p : Phase) (line : List ℕ) → GivesNext (line_number p) (take_line p line)
line_next magic line = magic_next (version_in line)
line_next (params v) line = numbers_next v (params_in (words_of line))
line_next (node v p) line = node_next v p (words_of line) (node_in (words_of line)) refl
line_next (lines v p plan) line = elim (cases_Bool (bytes_eq line begin_line)) [
  | inl is ↦ rw is (begin_next v p plan)
  | inr other ↦ rw other (plan_line_next v p plan (plan_line_in v (words_of line)))
]
line_next (body v s) line = elim (cases_Bool (bytes_eq line end_line)) [
  | inl is ↦ rw is (omega arith)
  | inr other ↦ rw other (entry_next v s (entry_in v (words_of line)))
]
line_next (finished v s) line = refl

-- ---- bytes: the line after a line feed has the next number, and a fault names the line of its byte

abbrev pub StepsTo : ℕ → Bool → Progress → Type 0
StepsTo n feed (reading q l) = line_number q ≡ n + cond feed 1 0
StepsTo n feed (failed e) = IfSome (line_of_error e) (λ m. m ≡ n)

long_named : (p : Phase) → IfSome (line_of_error (too_long p)) (λ m. m ≡ line_number p)
long_named magic = tt
long_named (params v) = refl
long_named (node v p) = refl
long_named (lines v p plan) = refl
long_named (body v s) = refl
long_named (finished v s) = refl

after_line_steps : (n : ℕ) (r : Result Phase TraceError) → GivesNext n r → StepsTo n true (after_line r)
after_line_steps n (Ok q) h = h
after_line_steps n (Err e) h = h

open_steps : (p : Phase) (line : List ℕ) (b : ℕ) → StepsTo (line_number p) (b == 10) (take_open p line b)
open_steps p line b =
    elim (cases_Bool (b == 10)) [
      | inl feed ↦ rw feed (after_line_steps (line_number p) (take_line p line) (line_next p line))
      | inr other ↦ rw other (elim (cases_Bool (length line == longest_line)) [
        | inl full ↦ rw full (long_named p)
        | inr room ↦ rw room (omega arith)
      ])
    ]

steps_in : (p : Phase) (line : List ℕ) (b : ℕ) → is_open p ≡ true → StepsTo (line_number p) (b == 10) (take_in p line b)
steps_in p line b opened = subst (λ s. StepsTo (line_number p) (b == 10) s) (sym (take_in-open p line b opened))
    (open_steps p line b)

pub steps : (p : Phase) (line : List ℕ) (b : ℕ) → StepsTo (line_number p) (b == 10) (take_in p line b)
steps magic line b = steps_in magic line b refl
steps (params v) line b = steps_in (params v) line b refl
steps (node v p) line b = steps_in (node v p) line b refl
steps (lines v p plan) line b = steps_in (lines v p plan) line b refl
steps (body v s) line b = steps_in (body v s) line b refl
steps (finished v s) line b = refl

-- ---- texts

-- from the line of this number on
abbrev pub WalksTo : ℕ → Progress → List ℕ → Progress → Type 0
WalksTo n start bytes (reading q l) = line_number q ≡ n + feed_count bytes
WalksTo n start bytes (failed e) =
    (before : List ℕ) × (b : ℕ) × (after : List ℕ) × (bytes ≡ before ++ b ∷ after) ×
    (answer_of (take_bytes start before) ≡ Ok tt) × (take_bytes start (before ++ b ∷ []) ≡ failed e)
    × IfSome (line_of_error e) (λ m. m ≡ n + feed_count before)

feed_count-cons : (b : ℕ) (bytes : List ℕ) → feed_count (b ∷ bytes) ≡ cond (b == 10) 1 0 + feed_count bytes
feed_count-cons b bytes = sum_by-cons (λ x. cond (x == 10) 1 0) b bytes

longer : (bytes : List ℕ) (b : ℕ) (p : Phase) (l : List ℕ) (q : Phase) (m : List ℕ) (s : Progress)
    → take_in p l b ≡ reading q m → line_number q ≡ line_number p + cond (b == 10) 1 0
    → WalksTo (line_number q) (reading q m) bytes s → WalksTo (line_number p) (reading p l) (b ∷ bytes) s
longer bytes b p l q m (reading r k) is step walked = omega (arith, step, walked, feed_count-cons b bytes)
longer bytes b p l q m (failed e) is step walked =
    let (before, c, after, parts, none, shown, line) = walked in
    let lines : line_number q + feed_count before ≡ line_number p + feed_count (b ∷ before) =
    omega (arith, step, feed_count-cons b before) in (
      b ∷ before,
      c,
      after,
      ap (λ t. b ∷ t) parts,
      ap (λ s. answer_of (take_bytes s before)) is ∙ none,
      ap (λ s. take_bytes s (before ++ c ∷ [])) is ∙ shown,
      subst (λ k. IfSome (line_of_error e) (λ n. n ≡ k)) lines line,
    )

after_byte : (bytes : List ℕ) (b : ℕ) (p : Phase) (l : List ℕ) (s : Progress) → take_in p l b ≡ s
    → StepsTo (line_number p) (b == 10) s
    → ((q : Phase) (m : List ℕ) → WalksTo (line_number q) (reading q m) bytes (take_bytes (reading q m) bytes))
    → WalksTo (line_number p) (reading p l) (b ∷ bytes) (take_bytes s bytes)
after_byte bytes b p l (reading q m) is step walks = longer bytes b p l q m (take_bytes (reading q m) bytes) is step
    (walks q m)
after_byte bytes b p l (failed e) is step walks =
    let same : line_number p ≡ line_number p + 0 = omega arith in
    subst (λ s. WalksTo (line_number p) (reading p l) (b ∷ bytes) s)
    (sym (fold_stays take_byte (failed e) (λ c. refl) bytes))
    ([], b, bytes, refl, refl, is, subst (λ k. IfSome (line_of_error e) (λ n. n ≡ k)) same step)

pub walk : (bytes : List ℕ) (p : Phase) (l : List ℕ) → WalksTo (line_number p) (reading p l) bytes
    (take_bytes (reading p l) bytes)
walk [] p l = omega arith
walk (b ∷ bytes) p l = after_byte bytes b p l (take_in p l b) refl (steps p l b) (λ q m. walk bytes q m)

always : {P : Type 0} (o : Option ℕ) → P → IfSome o (λ n. P)
always None h = tt
always (Some n) h = h

first_fault : (text : List ℕ) (e : TraceError) → take_bytes fresh text ≡ failed e → NamesItsLine e text
first_fault text e is =
    let walked : WalksTo 1 fresh text (failed e) = subst (λ s. WalksTo 1 fresh text s) is (walk text magic []) in
    let (before, b, after, parts, none, shown, line) = walked in
    let next : 1 + feed_count before ≡ feed_count before + 1 = omega arith in
    let fault : IsFirstFault e text before b after =
    record {
      parts = parts;
      none_before = none;
      shown = shown;
      line =
          subst (λ k. IfSome (line_of_error e) (λ n. n ≡ k)) next line;
    } in
    always (line_of_error e) (before, b, after, fault)

outcome_named_in : (s : Progress) (text : List ℕ) → take_bytes fresh text ≡ s → LineIsNamed (outcome_of s) text
outcome_named_in (failed e) text is = first_fault text e is
outcome_named_in (reading magic l) text is = tt
outcome_named_in (reading (params v) l) text is = tt
outcome_named_in (reading (node v p) l) text is = tt
outcome_named_in (reading (lines v p plan) l) text is = tt
outcome_named_in (reading (body v t) l) text is = tt
outcome_named_in (reading (finished v t) l) text is = tt

-- the refusal of a whole text names its line
pub outcome_named : (text : List ℕ) → LineIsNamed (outcome_of (take_bytes fresh text)) text
outcome_named text = outcome_named_in (take_bytes fresh text) text refl

answer_named_in : (s : Progress) (text : List ℕ) → take_bytes fresh text ≡ s → LineIsNamed (answer_of s) text
answer_named_in (failed e) text is = first_fault text e is
answer_named_in (reading p l) text is = tt

-- and so does an answer while bytes come
pub answer_named : (text : List ℕ) → LineIsNamed (answer_of (take_bytes fresh text)) text
answer_named text = answer_named_in (take_bytes fresh text) text refl

-- ---- no bytes after a fault help

pub hopeless : (bytes : List ℕ) (e : TraceError) → take_bytes fresh bytes ≡ failed e → IsHopeless bytes
hopeless bytes e is rest s legal same =
    let all : take_bytes fresh (bytes ++ rest) ≡ failed e =
    fold-append take_byte fresh bytes rest ∙ (ap (λ t. take_bytes t rest) is ∙ fold_stays take_byte (failed e)
    (λ b. refl) rest) in
    let taken : outcome_of (take_bytes fresh (bytes ++ rest)) ≡ Ok s = legal_outcome (bytes ++ rest) s legal same in
    cc (sym taken ∙ ap outcome_of all)

answer_hopeless_in : (s : Progress) (bytes : List ℕ) → take_bytes fresh bytes ≡ s
    → HopelessIfRefused (answer_of s) bytes
answer_hopeless_in (failed e) bytes is = λ of_text. hopeless bytes e is
answer_hopeless_in (reading p l) bytes is = tt

pub answer_hopeless : (bytes : List ℕ) → HopelessIfRefused (answer_of (take_bytes fresh bytes)) bytes
answer_hopeless bytes = answer_hopeless_in (take_bytes fresh bytes) bytes refl

-- ---- a piece, after bytes that an auditor has read

read_on : (front piece : List ℕ) (old new : Progress) → old ≡ take_bytes fresh front → new ≡ take_bytes old piece
    → new ≡ take_bytes fresh (front ++ piece)
read_on front piece old new so_far read = read ∙ (ap (λ s. take_bytes s piece) so_far ∙ sym
    (fold-append take_byte fresh front piece))

pub piece_named : (front piece : List ℕ) (old new : Progress) → Reads old piece new → old ≡ take_bytes fresh front
    → LineIsNamed (answer_of new) (front ++ piece)
piece_named front piece old new (inl read) so_far =
    subst (λ s. LineIsNamed (answer_of s) (front ++ piece)) (sym (read_on front piece old new so_far read))
    (answer_named (front ++ piece))
piece_named front piece old new (inr out) so_far = subst (λ s. LineIsNamed (answer_of s) (front ++ piece)) (sym out.0)
    tt

pub piece_hopeless : (front piece : List ℕ) (old new : Progress) → Reads old piece new → old ≡ take_bytes fresh front
    → HopelessIfRefused (answer_of new) (front ++ piece)
piece_hopeless front piece old new (inl read) so_far =
    subst (λ s. HopelessIfRefused (answer_of s) (front ++ piece)) (sym (read_on front piece old new so_far read))
    (answer_hopeless (front ++ piece))
piece_hopeless front piece old new (inr out) so_far =
    subst (λ s. HopelessIfRefused (answer_of s) (front ++ piece)) (sym out.0) (λ of_text. absurd of_text)

-- ---- the length of a text

-- after `n` bytes: each line that is over has at most as many bytes as the longest line, and a line feed
abbrev IsShort : ℕ → Progress → Type 0
IsShort n (reading p l) = (n + 1201 ≤ 1201 * line_number p + length l) × (length l ≤ 1200)
IsShort n (failed e) = Unit {0}

line_short : (n : ℕ) (p : Phase) (l : List ℕ) (r : Result Phase TraceError) → IsShort n (reading p l)
    → GivesNext (line_number p) r → IsShort (n + 1) (after_line r)
line_short n p l (Ok q) short next = (omega (arith, short.0, short.1, next), omega arith)
line_short n p l (Err e) short next = tt

open_short : (n : ℕ) (p : Phase) (l : List ℕ) (b : ℕ) → IsShort n (reading p l) → IsShort (n + 1) (take_open p l b)
open_short n p l b short =
    elim (cases_Bool (b == 10)) [
      | inl feed ↦ rw feed (line_short n p l (take_line p l) short (line_next p l))
      | inr other ↦ rw other (elim (cases_Bool (length l == longest_line)) [
        | inl full ↦ rw full tt
        | inr room ↦
            let left : length l ≡ 1200 → ⊥ = λ h. cc (sym (eq-eqb (length l) 1200 h) ∙ room) in
            let len = length-append l (b ∷ []) in
            rw room (omega (arith, short.0, len), omega (arith, short.1, left, len))
      ])
    ]

short_in : (n : ℕ) (p : Phase) (l : List ℕ) (b : ℕ) → is_open p ≡ true → IsShort n (reading p l)
    → IsShort (n + 1) (take_in p l b)
short_in n p l b opened short = subst (λ s. IsShort (n + 1) s) (sym (take_in-open p l b opened))
    (open_short n p l b short)

byte_short : (n : ℕ) (s : Progress) (b : ℕ) → IsShort n s → IsShort (n + 1) (take_byte s b)
byte_short n (failed e) b short = tt
byte_short n (reading magic l) b short = short_in n magic l b refl short
byte_short n (reading (params v) l) b short = short_in n (params v) l b refl short
byte_short n (reading (node v p) l) b short = short_in n (node v p) l b refl short
byte_short n (reading (lines v p plan) l) b short = short_in n (lines v p plan) l b refl short
byte_short n (reading (body v s) l) b short = short_in n (body v s) l b refl short
byte_short n (reading (finished v s) l) b short = tt

bytes_short : (bytes : List ℕ) (n : ℕ) (s : Progress) → IsShort n s → IsShort (n + length bytes) (take_bytes s bytes)
bytes_short [] n s short = let same : n ≡ n + 0 = omega arith in subst (λ k. IsShort k s) same short
bytes_short (b ∷ bytes) n s short =
    let same : (n + 1) + length bytes ≡ n + length (b ∷ bytes) = omega arith in
    subst (λ k. IsShort k (take_bytes (take_byte s b) bytes)) same
    (bytes_short bytes (n + 1) (take_byte s b) (byte_short n s b short))

whole_short : (p : Progress) (text : List ℕ) (s : State) → IsShort (length text) p → Spelled p text
    → outcome_of p ≡ Ok s → HasFewLines s → length text ≤ longest_text
whole_short (failed e) text s short spelled h few = cc h
whole_short (reading magic l) text s short spelled h few = cc h
whole_short (reading (params v) l) text s short spelled h few = cc h
whole_short (reading (node v p) l) text s short spelled h few = cc h
whole_short (reading (lines v p plan) l) text s short spelled h few = cc h
whole_short (reading (body v t) l) text s short spelled h few = cc h
whole_short (reading (finished v t) l) text s short spelled h few =
    let same : t ≡ s = cc h in
    let few' : HasFewLines t = subst HasFewLines (sym same) few in
    omega (arith, short.0, few', ap length spelled.1)

-- a text that is accepted is no longer than the longest one
pub short_text : (text : List ℕ) (s : State) → outcome_of (take_bytes fresh text) ≡ Ok s → HasFewLines s
    → length text ≤ longest_text
short_text text s h few =
    let start : IsShort 0 fresh = (omega arith, omega arith) in
    let short : IsShort (length text) (take_bytes fresh text) =
    subst (λ k. IsShort k (take_bytes fresh text)) (zero-add (length text)) (bytes_short text 0 fresh start) in
    whole_short (take_bytes fresh text) text s short (text_spelled text) h few

-- ---- an audit

pub through_short : (text rest : Option (List ℕ)) (s : State) (r : Result (Unit {0}) TraceError)
    → ReadsThrough text rest (Ok s) → HasFewLines s → ShortIfTaken r text
through_short None rest s (Ok x) through few = tt
through_short None rest s (Err e) through few = tt
through_short (Some text) None s r through few = absurd through
through_short (Some text) (Some rest) s (Ok x) through few = short_text text s through.1 few
through_short (Some text) (Some rest) s (Err e) through few = tt

pub audited_named : (text old new : Option (List ℕ)) (r : Result (Unit {0}) TraceError) → Audits text old new r
    → IfSome text (λ t. LineIsNamed r t)
audited_named None old new r audits = tt
audited_named (Some text) old new (Ok x) audits = tt
audited_named (Some text) old new (Err BadMagic) audits = tt
audited_named (Some text) old new (Err (BadLine n)) audits =
    subst (λ (r : Result State TraceError). LineIsNamed r text) audits.0 (outcome_named text)
audited_named (Some text) old new (Err (LineTooLong n)) audits =
    subst (λ (r : Result State TraceError). LineIsNamed r text) audits.0 (outcome_named text)
audited_named (Some text) old new (Err (Refused n)) audits =
    subst (λ (r : Result State TraceError). LineIsNamed r text) audits.0 (outcome_named text)
audited_named (Some text) old new (Err (WrongAnswer n)) audits =
    subst (λ (r : Result State TraceError). LineIsNamed r text) audits.0 (outcome_named text)
audited_named (Some text) old new (Err Truncated) audits = tt
audited_named (Some text) old new (Err Read) audits = tt
audited_named (Some text) old new (Err Write) audits = tt
audited_named (Some text) old new (Err Memory) audits = tt

pub named_alike : (text : Option (List ℕ)) (r : Result State TraceError) → IfSome text (λ t. LineIsNamed (outcome r) t)
    → IfSome text (λ t. LineIsNamed r t)
named_alike None r h = tt
named_alike (Some text) (Ok s) h = tt
named_alike (Some text) (Err e) h = h

-- the longest text has this number of bytes
pub longest_text_is : longest_text ≡ 98546854
longest_text_is = refl
