-- The bytes that are kept of a text decide its audit: a text that is longer is refused within them.
use Rattle.std.proofs.Common.{◌≡◌, ℕ, ◌+◌, ◌*◌, ◌≤◌, ◌<◌, ◌==◌, ◌&&◌, Bool, true, false, not, cond, leb, List, [], ◌∷◌}
use Rattle.std.proofs.Common.{◌++◌, length, take, drop, Option, Some, None, Result, Ok, Err, inl, inr, refl, sym, ap}
use Rattle.std.proofs.Common.{subst, ◌∙◌, arith, length-append, zero-add, eq-eqb, take_all, length-take-le}
use Rattle.std.proofs.Common.{take-append-drop}
use Rattle.std.specs.Prelude.{ℤ, is_none, is_some, count_by}
use Rattle.std.specs.Option.{option_and_then, option_or}
use Rattle.std.specs.Str.{bytes_eq}
use Rattle.std.proofs.lemmas.Bool.{cases_Bool, and_parts, leb-false, leb-true}
use Rattle.std.proofs.lemmas.List.Sums.{fold-append, sum_by-append}
use Rattle.std.proofs.lemmas.List.Folds.{fold_stays}
use Rattle.fr_interface.specs.State.{State, with_entry, is_host_full, has_words, unless_transmit, unless_sending}
use Rattle.fr_interface.specs.State.{unless_receive, unless_queued, unless_open, commit_refusal, withdraw_refusal}
use Rattle.fr_interface.specs.State.{read_refusal, pop_refusal, fetch_refusal, observe_refusal}
use Rattle.fr_interface.proofs.TestLemmas.{fetchable, none_from_test}
use Rattle.fr_journal.specs.Entries.{is_host, is_slot}
use Rattle.fr_journal.specs.Forms.{Entry}
use Rattle.fr_journal.specs.declared.entry.Entry.TheVariants.{Commit, Withdraw, Read, Pop, Fetch, Observe}
use Rattle.fr_journal.specs.OpenWindow.{open_window, window_mark}
use Rattle.fr_journal.proofs.KindLemmas.{kinds_fill}
use Rattle.fr_journal.proofs.OpenWindowLemmas.{open_window-snoc}
use Rattle.fr_lines.proofs.NodeLemmas.{node_no_lines, node_fits}
use Rattle.fr_lines.specs.Reading.{version_in, params_in, node_in, plan_line_in, entry_in}
use Rattle.fr_lines.specs.declared.versions.Version.{Version}
use Rattle.fr_lines.specs.declared.plan_lines.PlanLine.{PlanLine}
use Rattle.fr_lines.specs.declared.plan_lines.PlanLine.TheVariants as plan_line
use Rattle.fr_lines.specs.Spelling.{begin_line, end_line}
use Rattle.fr_slots.specs.declared.params.RangeError.{RangeError}
use Rattle.fr_slots.specs.declared.plan.Buffer.{Buffer}
use Rattle.fr_slots.specs.declared.plan.Own.{Own}
use Rattle.fr_slots.specs.declared.plan.Queue.{Queue}
use Rattle.fr_slots.specs.Faults.{plan_fault}
use Rattle.fr_slots.specs.History.{last_after}
use Rattle.fr_slots.specs.Parameters.{Parameters, parameters_of}
use Rattle.fr_slots.specs.Plans.{Plan, own_fits, buffer_fits, own_refusal, buffer_refusal, queue_refusal, is_receive}
use Rattle.fr_slots.specs.Plans.{with_own, with_buffer, with_queue}
use Rattle.fr_slots.specs.Windows.{Opportunity}
use Rattle.fr_text.specs.Spaces.{words_of}
use Rattle.fr_trace.specs.Answers.{is_refused, is_answered, made_by}
use Rattle.fr_trace.specs.declared.error.TraceError.{TraceError}
use Rattle.fr_trace.specs.Refusals.{longest_text}
use Rattle.fr_trace.specs.Stream.{Phase, magic, params, node, lines, body, finished, Progress, reading, failed}
use Rattle.fr_trace.specs.Stream.{queue_count, line_count, line_number, after_magic, after_parameters, after_numbers}
use Rattle.fr_trace.specs.Stream.{after_node, after_queue, after_buffer, has_owned_alone, after_own, after_plan_line}
use Rattle.fr_trace.specs.Stream.{after_begin, after_entry, take_line, after_line, take_open, take_in, take_byte}
use Rattle.fr_trace.specs.Stream.{take_bytes, fresh, longest_line, outcome_of}
use Rattle.fr_trace.proofs.PlanLemmas.{no_queue_yet}
use Rattle.fr_trace.proofs.TextLemmas.{is_open, take_in-open}
use Rattle.fr_why.specs.Explains.{most_kept, kept}

-- ---- the lines of a plan and the entries of a journal are few

record IsSmall (plan : Plan) : Type 0 where
  few_owned : length plan.owned ≤ 64
  few_buffers : length plan.buffers ≤ 64
  few_host_entries : plan.host_entries ≤ 16384
  few_slot_entries : plan.slot_entries ≤ 65536

abbrev open_one : List Entry → ℕ
open_one entries = cond (is_some (open_window entries)) 1 0

-- there is room for the entries, and for the observe of an open window
record HasRoom (plan : Plan) (entries : List Entry) : Type 0 where
  host : count_by is_host entries ≤ plan.host_entries
  slot : count_by is_slot entries + open_one entries ≤ plan.slot_entries

record IsJournal (plan : Plan) (entries : List Entry) : Type 0 where
  small : IsSmall plan
  room : HasRoom plan entries

abbrev Fits : Phase → Type 0
Fits magic = Unit {0}
Fits (params v) = Unit {0}
Fits (node v p) = Unit {0}
Fits (lines v p plan) = IsSmall plan
Fits (body v s) = IsJournal s.plan s.entries
Fits (finished v s) = IsJournal s.plan s.entries

-- ---- an accepted call leaves room

last_test : {E : Type 0} (p : Bool) (x : E) (o : Option E) → cond p (Some x) o ≡ None → o ≡ None
last_test true x o h = cc h
last_test false x o h = h

is_false : {E : Type 0} (p : Bool) (x : E) → cond p (Some x) None ≡ None → p ≡ false
is_false true x h = cc h
is_false false x h = refl

not_full : (s : State) → is_host_full s ≡ false → count_by is_host s.entries < s.plan.host_entries
not_full s h = leb-false s.plan.host_entries (count_by is_host s.entries) h

host_one : (e : Entry) (xs : List Entry) → is_host e ≡ true → count_by is_host (xs ++ e ∷ []) ≡ count_by is_host xs + 1
host_one e xs host =
    let one : cond {A = ℕ} (is_host e) 1 0 ≡ 1 = ap (λ (b : Bool). cond {A = ℕ} b 1 0) host in
    omega (arith, sum_by-append (λ x. cond (is_host x) 1 0) xs (e ∷ []), one)

host_none : (e : Entry) (xs : List Entry) → is_host e ≡ false → count_by is_host (xs ++ e ∷ []) ≡ count_by is_host xs
host_none e xs other =
    let none : cond {A = ℕ} (is_host e) 1 0 ≡ 0 = ap (λ (b : Bool). cond {A = ℕ} b 1 0) other in
    omega (arith, sum_by-append (λ x. cond (is_host x) 1 0) xs (e ∷ []), none)

slot_one : (e : Entry) (xs : List Entry) → is_slot e ≡ true → count_by is_slot (xs ++ e ∷ []) ≡ count_by is_slot xs + 1
slot_one e xs slot =
    let one : cond {A = ℕ} (is_slot e) 1 0 ≡ 1 = ap (λ (b : Bool). cond {A = ℕ} b 1 0) slot in
    omega (arith, sum_by-append (λ x. cond (is_slot x) 1 0) xs (e ∷ []), one)

slot_none : (e : Entry) (xs : List Entry) → is_slot e ≡ false → count_by is_slot (xs ++ e ∷ []) ≡ count_by is_slot xs
slot_none e xs other =
    let none : cond {A = ℕ} (is_slot e) 1 0 ≡ 0 = ap (λ (b : Bool). cond {A = ℕ} b 1 0) other in
    omega (arith, sum_by-append (λ x. cond (is_slot x) 1 0) xs (e ∷ []), none)

open_same : (e : Entry) (xs : List Entry) → window_mark xs e ≡ None → open_one (xs ++ e ∷ []) ≡ open_one xs
open_same e xs unmarked =
    ap (λ (o : Option Opportunity). cond {A = ℕ} (is_some o) 1 0) (open_window-snoc xs e
    ∙ ap (λ (m : Option (Option Opportunity)). option_and_then (λ w. w) (option_or m (last_after window_mark [] xs)))
    unmarked)

host_room : (s : State) (e : Entry) → is_host e ≡ true → is_slot e ≡ false → window_mark s.entries e ≡ None
    → is_host_full s ≡ false → HasRoom s.plan s.entries → HasRoom s.plan (s.entries ++ e ∷ [])
host_room s e host slot unmarked free room =
    let less = not_full s free in
    record {
      host = omega (arith, less, host_one e s.entries host);
      slot = omega (arith, room.slot, slot_none e s.entries slot, open_same e s.entries unmarked);
    }

commit_free : (s : State) (payload : List ℕ) (o : Option Buffer) → unless_transmit s payload o ≡ None
    → is_host_full s ≡ false
commit_free s payload None h = cc h
commit_free s payload (Some b) h =
    is_false (is_host_full s) _
    (last_test (not (has_words s.params b payload)) _ _ (last_test (is_receive b.mode) _ _ h))

sending_free : (s : State) (o : Option Buffer) → unless_sending s o ≡ None → is_host_full s ≡ false
sending_free s None h = cc h
sending_free s (Some b) h = is_false (is_host_full s) _ (last_test (is_receive b.mode) _ _ h)

receive_free : (s : State) (o : Option Buffer) → unless_receive s o ≡ None → is_host_full s ≡ false
receive_free s None h = cc h
receive_free s (Some b) h = is_false (is_host_full s) _ (last_test (not (is_receive b.mode)) _ _ h)

queued_free : (s : State) (o : Option Queue) → unless_queued s o ≡ None → is_host_full s ≡ false
queued_free s None h = cc h
queued_free s (Some q) h = is_false (is_host_full s) _ h

opened : (number : ℕ) (o : Option Opportunity) → unless_open number o ≡ None → cond {A = ℕ} (is_some o) 1 0 ≡ 1
opened number None h = cc h
opened number (Some w) h = refl

call_room : (s : State) (e : Entry) → is_refused s e ≡ false → HasRoom s.plan s.entries
    → HasRoom s.plan (s.entries ++ made_by s e ∷ [])
call_room s (Commit task buffer payload) accepted room =
    let none = none_from_test _ (commit_refusal s task buffer payload) refl accepted in
    host_room s (made_by s (Commit task buffer payload)) refl refl refl (commit_free s payload _ (last_test _ _ _ none))
    room
call_room s (Withdraw task buffer of) accepted room =
    let none = none_from_test _ (withdraw_refusal s task buffer) refl accepted in
    host_room s (made_by s (Withdraw task buffer of)) refl refl refl (sending_free s _ (last_test _ _ _ none)) room
call_room s (Read task buffer from) accepted room =
    let none = none_from_test _ (read_refusal s task buffer) refl accepted in
    host_room s (made_by s (Read task buffer from)) refl refl refl (receive_free s _ (last_test _ _ _ none)) room
call_room s (Pop task from) accepted room =
    let none = none_from_test _ (pop_refusal s task) refl accepted in
    host_room s (made_by s (Pop task from)) refl refl refl (queued_free s _ (last_test _ _ _ none)) room
call_room s (Fetch window a b) accepted room =
    let e = made_by s (Fetch window a b) in
    let facts = fetchable s window (none_from_test _ (fetch_refusal s window) refl accepted) in
    let one : open_one (s.entries ++ e ∷ []) ≤ 1 =
    subst (λ (o : Option Opportunity). cond {A = ℕ} (is_some o) 1 0 ≤ 1) (sym (open_window-snoc s.entries e))
    (omega arith) in
    record {
      host = omega (arith, room.host, host_none e s.entries refl);
      slot = omega (arith, facts.room, slot_one e s.entries refl, one);
    }
call_room s (Observe window a b) accepted room =
    let e = made_by s (Observe window a b) in
    let was : open_one s.entries ≡ 1 =
    opened window (open_window s.entries) (none_from_test _ (observe_refusal s window) refl accepted) in
    let is : open_one (s.entries ++ e ∷ []) ≡ 0 =
    ap (λ (o : Option Opportunity). cond {A = ℕ} (is_some o) 1 0) (open_window-snoc s.entries e) in
    record {
      host = omega (arith, room.host, host_none e s.entries refl);
      slot = omega (arith, room.slot, was, slot_one e s.entries refl, is);
    }

-- ---- whole lines: the next one has the next number, and its phase fits

abbrev Gives : ℕ → Result Phase TraceError → Type 0
Gives n (Ok q) = (line_number q ≡ n + 1) × Fits q
Gives n (Err e) = Unit {0}

magic_gives : (o : Option Version) → Gives 1 (after_magic o)
magic_gives None = tt
magic_gives (Some v) = (refl, tt)

parameters_give : (v : Version) (r : Result Parameters RangeError) → Gives 2 (after_parameters v r)
parameters_give v (Err e) = tt
parameters_give v (Ok p) = (refl, tt)

numbers_give : (v : Version) (o : Option (List ℤ)) → Gives 2 (after_numbers v o)
numbers_give v None = tt
numbers_give v (Some numbers) = parameters_give v (parameters_of numbers)

bare_count : (plan : Plan) → plan.owned ≡ [] → plan.buffers ≡ [] → plan.queue ≡ None → line_count plan + 4 ≡ 3 + 1
bare_count plan no_own no_buffer no_queue = rw (no_own, no_buffer, no_queue) refl

node_gives : (v : Version) (p : Parameters) (words : List (List ℕ)) (o : Option Plan) → node_in words ≡ o
    → Gives 3 (after_node v p o)
node_gives v p words None read = tt
node_gives v p words (Some plan) read =
    let bare = node_no_lines words plan read in
    let fits = node_fits words plan read in
    let small : IsSmall plan = record {
      few_owned = fits.plan_is.few_owned;
      few_buffers = fits.plan_is.few_buffers;
      few_host_entries = fits.few_host_entries;
      few_slot_entries = fits.few_slot_entries;
    } in (bare_count plan bare.0 bare.1 bare.2, small)

queue_gives : (v : Version) (p : Parameters) (plan : Plan) (q : Queue) → IsSmall plan
    → Gives (line_count plan + 4) (after_queue v p plan q)
queue_gives v p plan q small =
    elim (cases_Bool (is_none (queue_refusal plan q))) [
      | inl taken ↦
          let none = no_queue_yet plan q taken in
          let next : line_count (with_queue plan q) + 4 ≡ line_count plan + 4 + 1 = rw none (omega arith) in
          let still : IsSmall (with_queue plan q) = record {
            few_owned = small.few_owned;
            few_buffers = small.few_buffers;
            few_host_entries = small.few_host_entries;
            few_slot_entries = small.few_slot_entries;
          } in rw taken (next, still)
      | inr refused ↦ rw refused tt
    ]

fewer : (p : Bool) {E : Type 0} (x y : E) (r : Bool) → is_none (cond p (Some x) (cond r (Some y) None)) ≡ true
    → r ≡ false
fewer true x y r h = cc h
fewer false x y true h = cc h
fewer false x y false h = refl

buffer_gives : (v : Version) (p : Parameters) (plan : Plan) (b : Buffer) → IsSmall plan
    → Gives (line_count plan + 4) (after_buffer v p plan b)
buffer_gives v p plan b small =
    elim (cases_Bool (is_none plan.queue && is_none (buffer_refusal plan b))) [
      | inl taken ↦
          let free = (and_parts (is_none plan.queue) (is_none (buffer_refusal plan b)) taken).1 in
          let less = leb-false 64 (length plan.buffers) (fewer (not (buffer_fits b)) _ _ _ free) in
          let longer = length-append plan.buffers (b ∷ []) in
          let still : IsSmall (with_buffer plan b) = record {
            few_owned = small.few_owned;
            few_buffers = omega (arith, less, longer);
            few_host_entries = small.few_host_entries;
            few_slot_entries = small.few_slot_entries;
          } in rw taken (omega (arith, longer), still)
      | inr refused ↦ rw refused tt
    ]

own_gives : (v : Version) (p : Parameters) (plan : Plan) (o : Own) → IsSmall plan
    → Gives (line_count plan + 4) (after_own v p plan o)
own_gives v p plan o small =
    elim (cases_Bool (has_owned_alone plan && is_none (own_refusal plan o))) [
      | inl taken ↦
          let free = (and_parts (has_owned_alone plan) (is_none (own_refusal plan o)) taken).1 in
          let less = leb-false 64 (length plan.owned) (fewer (not (own_fits o)) _ _ _ free) in
          let longer = length-append plan.owned (o ∷ []) in
          let still : IsSmall (with_own plan o) = record {
            few_owned = omega (arith, less, longer);
            few_buffers = small.few_buffers;
            few_host_entries = small.few_host_entries;
            few_slot_entries = small.few_slot_entries;
          } in rw taken (omega (arith, longer), still)
      | inr refused ↦ rw refused tt
    ]

plan_line_gives : (v : Version) (p : Parameters) (plan : Plan) (o : Option PlanLine) → IsSmall plan
    → Gives (line_count plan + 4) (after_plan_line v p plan o)
plan_line_gives v p plan None small = tt
plan_line_gives v p plan (Some (plan_line.Own o)) small = own_gives v p plan o small
plan_line_gives v p plan (Some (plan_line.Buffer b)) small = buffer_gives v p plan b small
plan_line_gives v p plan (Some (plan_line.Queue q)) small = queue_gives v p plan q small

none_open : open_one [] ≡ 0
unfolding last_after
none_open = refl

begin_gives : (v : Version) (p : Parameters) (plan : Plan) → IsSmall plan
    → Gives (line_count plan + 4) (after_begin v p plan)
begin_gives v p plan small =
    elim (cases_Bool (is_none (plan_fault p plan))) [
      | inl pass ↦
          let room : HasRoom plan [] = record { host = omega arith; slot = omega (arith, none_open) } in
          rw pass (omega arith, record { small = small; room = room })
      | inr fail ↦ rw fail tt
    ]

entry_gives : (v : Version) (s : State) (o : Option Entry) → Fits (body v s)
    → Gives (line_number (body v s)) (after_entry v s o)
entry_gives v s None fits = tt
entry_gives v s (Some e) fits =
    elim (cases_Bool (is_refused s e)) [
      | inl refused ↦ rw refused tt
      | inr accepted ↦ rw accepted (elim (cases_Bool (is_answered s e)) [
        | inl answered ↦
            let room : HasRoom s.plan (s.entries ++ made_by s e ∷ []) = call_room s e accepted fits.room in
            let longer = length-append s.entries (made_by s e ∷ []) in
            rw answered (omega (arith, longer), record { small = fits.small; room = room })
        | inr wrong ↦ rw wrong tt
      ])
    ]

line_gives : (p : Phase) (line : List ℕ) → Fits p → Gives (line_number p) (take_line p line)
line_gives magic line fits = magic_gives (version_in line)
line_gives (params v) line fits = numbers_give v (params_in (words_of line))
line_gives (node v p) line fits = node_gives v p (words_of line) (node_in (words_of line)) refl
line_gives (lines v p plan) line fits = elim (cases_Bool (bytes_eq line begin_line)) [
  | inl is ↦ rw is (begin_gives v p plan fits)
  | inr other ↦ rw other (plan_line_gives v p plan (plan_line_in v (words_of line)) fits)
]
line_gives (body v s) line fits = elim (cases_Bool (bytes_eq line end_line)) [
  | inl is ↦ rw is (omega arith, fits)
  | inr other ↦ rw other (entry_gives v s (entry_in v (words_of line)) fits)
]
line_gives (finished v s) line fits = tt

-- ---- bytes: after `n` of them each line that is over has at most as many as the longest line, and a line feed

record IsShortLine (n : ℕ) (p : Phase) (l : List ℕ) : Type 0 where
  whole : n + 1201 ≤ 1201 * line_number p + length l
  line : length l ≤ 1200
  fits : Fits p

abbrev IsShort : ℕ → Progress → Type 0
IsShort n (reading p l) = IsShortLine n p l
IsShort n (failed e) = Unit {0}

line_short : (n : ℕ) (p : Phase) (l : List ℕ) (r : Result Phase TraceError) → IsShort n (reading p l)
    → Gives (line_number p) r → IsShort (n + 1) (after_line r)
line_short n p l (Ok q) short next =
    record { whole = omega (arith, short.whole, short.line, next.0); line = omega arith; fits = next.1 }
line_short n p l (Err e) short next = tt

open_short : (n : ℕ) (p : Phase) (l : List ℕ) (b : ℕ) → IsShort n (reading p l) → IsShort (n + 1) (take_open p l b)
open_short n p l b short =
    elim (cases_Bool (b == 10)) [
      | inl feed ↦ rw feed (line_short n p l (take_line p l) short (line_gives p l short.fits))
      | inr other ↦ rw other (elim (cases_Bool (length l == longest_line)) [
        | inl full ↦ rw full tt
        | inr room ↦
            let left : length l ≡ 1200 → ⊥ = λ h. cc (sym (eq-eqb (length l) 1200 h) ∙ room) in
            let len = length-append l (b ∷ []) in
            let longer : IsShortLine (n + 1) p (l ++ b ∷ []) = record {
              whole = omega (arith, short.whole, len);
              line = omega (arith, short.line, left, len);
              fits = short.fits;
            } in rw room longer
      ])
    ]

short_in : (n : ℕ) (p : Phase) (l : List ℕ) (b : ℕ) → is_open p ≡ true → IsShort n (reading p l)
    → IsShort (n + 1) (take_in p l b)
short_in n p l b opened short = subst (λ s. IsShort (n + 1) s) (sym (take_in-open p l b opened))
    (open_short n p l b short)

byte_short : (n : ℕ) (s : Progress) (b : ℕ) → IsShort n s → IsShort (n + 1) (take_byte s b)
byte_short n (failed e) b short = tt
byte_short n (reading magic l) b short = short_in n magic l b refl short
byte_short n (reading (params v) l) b short = short_in n (params v) l b refl short
byte_short n (reading (node v p) l) b short = short_in n (node v p) l b refl short
byte_short n (reading (lines v p plan) l) b short = short_in n (lines v p plan) l b refl short
byte_short n (reading (body v s) l) b short = short_in n (body v s) l b refl short
byte_short n (reading (finished v s) l) b short = tt

bytes_short : (bytes : List ℕ) (n : ℕ) (s : Progress) → IsShort n s → IsShort (n + length bytes) (take_bytes s bytes)
bytes_short [] n s short = let same : n ≡ n + 0 = omega arith in subst (λ k. IsShort k s) same short
bytes_short (b ∷ bytes) n s short =
    let same : (n + 1) + length bytes ≡ n + length (b ∷ bytes) = omega arith in
    subst (λ k. IsShort k (take_bytes (take_byte s b) bytes)) same
    (bytes_short bytes (n + 1) (take_byte s b) (byte_short n s b short))

one_queue : (q : Option Queue) → queue_count q ≤ 1
one_queue None = omega arith
one_queue (Some q) = omega arith

few_kinds : (s : State) → IsJournal s.plan s.entries → line_count s.plan ≤ 129
few_kinds s fits = omega (arith, fits.small.few_owned, fits.small.few_buffers, one_queue s.plan.queue)

few_entries : (s : State) → IsJournal s.plan s.entries → length s.entries ≤ 81920
few_entries s fits =
    omega (
      arith,
      fits.small.few_host_entries,
      fits.small.few_slot_entries,
      fits.room.host,
      fits.room.slot,
      kinds_fill s.entries,
    )

few_lines : (p : Phase) → Fits p → line_number p ≤ 82055
few_lines magic fits = omega arith
few_lines (params v) fits = omega arith
few_lines (node v p) fits = omega arith
few_lines (lines v p plan) fits = omega (arith, fits.few_owned, fits.few_buffers, one_queue plan.queue)
few_lines (body v s) fits = omega (arith, few_entries s fits, few_kinds s fits)
few_lines (finished v s) fits = omega (arith, few_entries s fits, few_kinds s fits)

shown_in : (bytes : List ℕ) (s : Progress) → IsShort (length bytes) s → most_kept ≤ length bytes
    → (e : TraceError) × (s ≡ failed e)
shown_in bytes (failed e) short long = (e, refl)
shown_in bytes (reading p l) short long =
    let none : ⊥ = omega (arith, short.whole, short.line, few_lines p short.fits, long) in absurd none

-- A front of this length is refused.
shown : (bytes : List ℕ) → most_kept ≤ length bytes → (e : TraceError) × (take_bytes fresh bytes ≡ failed e)
shown bytes long =
    let start : IsShort 0 fresh = record { whole = omega arith; line = omega arith; fits = tt } in
    let short : IsShort (length bytes) (take_bytes fresh bytes) =
    subst (λ k. IsShort k (take_bytes fresh bytes)) (zero-add (length bytes)) (bytes_short bytes 0 fresh start) in
    shown_in bytes (take_bytes fresh bytes) short long

-- ---- the laws

-- A text that is longer than what is kept of it is refused by a fault that shows in what is kept, whatever follows.
pub shown_when_cut : (text : List ℕ) → most_kept ≤ length text
    → (e : TraceError) × (take_bytes fresh (kept text) ≡ failed e) × (outcome_of (take_bytes fresh text) ≡ Err e)
shown_when_cut text long =
    let size : most_kept ≤ length (kept text) = omega (arith, length-take-le most_kept text long) in
    let (e, is) = shown (kept text) size in
    let all : take_bytes fresh text ≡ failed e =
    sym (ap (take_bytes fresh) (take-append-drop most_kept text))
    ∙ (fold-append take_byte fresh (kept text) (drop most_kept text)
    ∙ (ap (λ t. take_bytes t (drop most_kept text)) is
    ∙ fold_stays take_byte (failed e) (λ b. refl) (drop most_kept text))) in
    (e, is, ap outcome_of all)

-- What is kept of a text has the outcome of the whole text.
pub kept_outcome : (text : List ℕ) → outcome_of (take_bytes fresh (kept text)) ≡ outcome_of (take_bytes fresh text)
kept_outcome text =
    elim (cases_Bool (leb most_kept (length text))) [
      | inl long ↦
          let (e, is, whole) = shown_when_cut text (leb-true most_kept (length text) long) in
          ap outcome_of is ∙ sym whole
      | inr short ↦
          ap (λ (t : List ℕ). outcome_of (take_bytes fresh t))
          (take_all most_kept text (omega (arith, leb-false most_kept (length text) short)))
    ]
