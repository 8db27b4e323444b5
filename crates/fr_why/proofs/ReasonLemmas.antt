-- The refusal of a line or of a call is reported with its own reason, and a wrong answer with the entry of the call.
use Rattle.std.proofs.Common.{◌≡◌, ℕ, ◌+◌, Bool, true, false, List, [], ◌∷◌, ◌++◌, length, Option, Some, None, Result}
use Rattle.std.proofs.Common.{Ok, Err, inl, inr, refl, sym, ap, ◌∙◌, subst, arith, is_some}
use Rattle.std.proofs.lemmas.Bool.{cases_Bool, cases_lt}
use Rattle.std.proofs.lemmas.List.Sums.{fold-append}
use Rattle.std.specs.Prelude.{⊤, ℤ, is_none, option_map, ◌&&◌, if◌then◌else◌}
use Rattle.std.specs.Str.{bytes_eq}
use Rattle.fr_interface.specs.declared.errors.HostError.{HostError}
use Rattle.fr_interface.specs.declared.errors.SlotError.{SlotError}
use Rattle.fr_interface.specs.State.{State, commit_refusal, withdraw_refusal, read_refusal, pop_refusal, fetch_refusal}
use Rattle.fr_interface.specs.State.{observe_refusal}
use Rattle.fr_journal.specs.Forms.{Entry}
use Rattle.fr_journal.specs.declared.entry.Entry.TheVariants as entries
use Rattle.fr_lines.specs.declared.plan_lines.PlanLine.{PlanLine}
use Rattle.fr_lines.specs.declared.plan_lines.PlanLine.TheVariants as plan_line
use Rattle.fr_lines.specs.declared.versions.Version.{Version}
use Rattle.fr_lines.specs.Reading.{version_in, params_in, node_in, plan_line_in, entry_in}
use Rattle.fr_lines.specs.Spelling.{begin_line, end_line}
use Rattle.fr_slots.specs.declared.fault.PlanFault.{PlanFault}
use Rattle.fr_slots.specs.declared.params.RangeError.{RangeError}
use Rattle.fr_slots.specs.Faults.{plan_fault}
use Rattle.fr_slots.specs.Parameters.{Parameters, parameters_of}
use Rattle.fr_slots.specs.Plans.{Plan, own_refusal, buffer_refusal, queue_refusal}
use Rattle.fr_text.specs.Plain.{has_no_feed}
use Rattle.fr_text.specs.Spaces.{words_of}
use Rattle.fr_trace.specs.Answers.{is_answered, made_by}
use Rattle.fr_trace.specs.Audit.{IsOfText}
use Rattle.fr_trace.specs.declared.error.TraceError.{TraceError}
use Rattle.fr_trace.specs.declared.error.TraceError.TheVariants as refusal
use Rattle.fr_trace.specs.Feeds.{held}
use Rattle.fr_trace.specs.Stream.{Phase, magic, params, node, lines, body, finished, Progress, reading, failed, fresh}
use Rattle.fr_trace.specs.Stream.{after_magic, after_parameters, after_numbers, after_node, after_plan_line}
use Rattle.fr_trace.specs.Stream.{after_fault, after_entry, has_owned_alone, line_count, take_line, take_byte}
use Rattle.fr_trace.specs.Stream.{take_bytes, after_line, answer_of, outcome_of, too_long, line_number}
use Rattle.fr_trace.proofs.CutLemmas.{overflow, stays_failed}
use Rattle.fr_trace.proofs.LineLemmas.{fill}
use Rattle.fr_trace.proofs.TextLemmas.{is_open, take_in-open}
use Rattle.fr_why.specs.declared.reason.Reason.{Reason}
use Rattle.fr_why.specs.declared.reason.Reason.TheVariants as reason
use Rattle.fr_why.specs.Faults.{IsAtFault, ShowsIn}
use Rattle.fr_why.specs.Reasons.{reason_of_range, reason_of_numbers, reason_of_fault, reason_of_call, reason_of_entry}
use Rattle.fr_why.specs.Reasons.{reason_in, reason_for, feed_in, IsReasonOf}

-- ---- the errors that have a reason of their own

abbrev IsCall : TraceError → Type 0
IsCall (refusal.Refused n) = ⊤
IsCall (refusal.WrongAnswer n) = ⊤
IsCall e = ⊥

abbrev Told : Result Phase TraceError → Reason → Type 0
Told (Ok q) r = Unit {0}
Told (Err e) r = IsCall e → IsReasonOf e r

version_told : (o : Option Version) → Told (after_magic o) reason.Plain
version_told None = λ is. absurd is
version_told (Some v) = tt

range_told : (v : Version) (r : Result Parameters RangeError) → Told (after_parameters v r) (reason_of_range r)
range_told v (Err e) = λ is. tt
range_told v (Ok p) = tt

numbers_told : (v : Version) (o : Option (List ℤ)) → Told (after_numbers v o) (reason_of_numbers o)
numbers_told v None = λ is. absurd is
numbers_told v (Some numbers) = range_told v (parameters_of numbers)

node_told : (v : Version) (p : Parameters) (o : Option Plan) → Told (after_node v p o) reason.Plain
node_told v p None = λ is. absurd is
node_told v p (Some plan) = tt

fault_told : (v : Version) (s : State) (n : ℕ) (o : Option PlanFault)
    → Told (if is_none o then Ok (body v s) else Err (refusal.Refused n)) (reason_of_fault o)
fault_told v s n None = tt
fault_told v s n (Some f) = λ is. tt

own_told : (v : Version) (p : Parameters) (plan : Plan) (ok : Bool) (next : Phase) (n : ℕ)
    → Told (if ok then Ok next else Err (refusal.BadLine n)) reason.Plain
own_told v p plan true next n = tt
own_told v p plan false next n = λ is. absurd is

plan_line_told : (v : Version) (p : Parameters) (plan : Plan) (o : Option PlanLine)
    → Told (after_plan_line v p plan o) reason.Plain
plan_line_told v p plan None = λ is. absurd is
plan_line_told v p plan (Some (plan_line.Own o)) = own_told v p plan
    (has_owned_alone plan && is_none (own_refusal plan o)) _ _
plan_line_told v p plan (Some (plan_line.Buffer b)) = own_told v p plan
    (is_none plan.queue && is_none (buffer_refusal plan b)) _ _
plan_line_told v p plan (Some (plan_line.Queue q)) = own_told v p plan (is_none (queue_refusal plan q)) _ _

-- ---- calls

abbrev fault_by : ℕ → Bool → Bool → Option TraceError
fault_by n refused answered = if refused then Some (refusal.Refused n) else if answered then None
    else Some (refusal.WrongAnswer n)

host_told : (v : Version) (s : State) (e made : Entry) (n : ℕ) (o : Option HostError) (answered : Bool)
    → Told (after_fault v s e (fault_by n (is_some o) answered)) (reason_of_call made (option_map reason.Host o))
host_told v s e made n None true = tt
host_told v s e made n None false = λ is. tt
host_told v s e made n (Some h) answered = λ is. tt

slot_told : (v : Version) (s : State) (e made : Entry) (n : ℕ) (o : Option SlotError) (answered : Bool)
    → Told (after_fault v s e (fault_by n (is_some o) answered)) (reason_of_call made (option_map reason.Slot o))
slot_told v s e made n None true = tt
slot_told v s e made n None false = λ is. tt
slot_told v s e made n (Some h) answered = λ is. tt

entry_told : (v : Version) (s : State) (o : Option Entry) → Told (after_entry v s o) (reason_of_entry s o)
entry_told v s None = λ is. absurd is
entry_told v s (Some (entries.Commit task buffer payload)) = let e =
    entries.Commit task buffer payload in host_told v s e (made_by s e) (line_number (body v s))
    (commit_refusal s task buffer payload) (is_answered s e)
entry_told v s (Some (entries.Withdraw task buffer of)) = let e =
    entries.Withdraw task buffer of in host_told v s e (made_by s e) (line_number (body v s))
    (withdraw_refusal s task buffer) (is_answered s e)
entry_told v s (Some (entries.Read task buffer from)) = let e =
    entries.Read task buffer from in host_told v s e (made_by s e) (line_number (body v s)) (read_refusal s task buffer)
    (is_answered s e)
entry_told v s (Some (entries.Pop task from)) = let e = entries.Pop task from in host_told v s e (made_by s e)
    (line_number (body v s)) (pop_refusal s task) (is_answered s e)
entry_told v s (Some (entries.Fetch window a b)) = let e = entries.Fetch window a b in slot_told v s e (made_by s e)
    (line_number (body v s)) (fetch_refusal s window) (is_answered s e)
entry_told v s (Some (entries.Observe window a b)) = let e =
    entries.Observe window a b in slot_told v s e (made_by s e) (line_number (body v s)) (observe_refusal s window)
    (is_answered s e)

line_told : (p : Phase) (line : List ℕ) → Told (take_line p line) (reason_in p line)
line_told magic line = version_told (version_in line)
line_told (params v) line = numbers_told v (params_in (words_of line))
line_told (node v p) line = node_told v p (node_in (words_of line))
line_told (lines v p plan) line = elim (cases_Bool (bytes_eq line begin_line)) [
  | inl is ↦ rw is (fault_told v (record { params = p; plan = plan; entries = [] }) (line_count plan + 4)
      (plan_fault p plan))
  | inr other ↦ rw other (plan_line_told v p plan (plan_line_in v (words_of line)))
]
line_told (body v s) line = elim (cases_Bool (bytes_eq line end_line)) [
  | inl is ↦ rw is tt
  | inr other ↦ rw other (entry_told v s (entry_in v (words_of line)))
]
line_told (finished v s) line = λ is. absurd is

-- ---- the places where such an error shows

not_long : (p : Phase) → IsCall (too_long p) → ⊥
not_long magic is = is
not_long (params v) is = is
not_long (node v p) is = is
not_long (lines v p plan) is = is
not_long (body v s) is = is
not_long (finished v s) is = is

by_line : (r : Result Phase TraceError) (x : Reason) (e : TraceError) → Told r x → after_line r ≡ failed e → IsCall e
    → IsReasonOf e x
by_line (Ok q) x e told is call = cc is
by_line (Err f) x e told is call =
    let same : f ≡ e = cc is in
    subst (λ (g : TraceError). IsReasonOf g x) same (told (subst IsCall (sym same) call))

-- at the line feed
open_fails : (p : Phase) (line : List ℕ) (e : TraceError) → is_open p ≡ true → has_no_feed line ≡ true
    → take_bytes (reading p []) (line ++ 10 ∷ []) ≡ failed e → IsCall e → IsReasonOf e (reason_in p line)
open_fails p line e opened plain fails call =
    let split : take_bytes (reading p []) (line ++ 10 ∷ []) ≡ take_bytes (take_bytes (reading p []) line) (10 ∷ []) =
    fold-append take_byte (reading p []) line (10 ∷ []) in
    elim (cases_lt 1200 (length line)) [
      | inl long ↦
          let over : take_bytes (reading p []) line ≡ failed (too_long p) =
          overflow p [] line opened plain (omega arith) (omega (arith, long)) in
          let same : too_long p ≡ e = cc (sym (ap (λ (s : Progress). take_bytes s (10 ∷ [])) over) ∙ sym split ∙ fails)
          in
          absurd (not_long p (subst IsCall (sym same) call))
      | inr short ↦
          let filled : take_bytes (reading p []) line ≡ reading p line =
          fill p line [] opened plain (omega (arith, short)) in
          let ended : take_bytes (reading p line) (10 ∷ []) ≡ after_line (take_line p line) =
          take_in-open p line 10 opened in
          let all : take_bytes (reading p []) (line ++ 10 ∷ []) ≡ after_line (take_line p line) =
          split ∙ (ap (λ (s : Progress). take_bytes s (10 ∷ [])) filled ∙ ended) in
          by_line (take_line p line) (reason_in p line) e (line_told p line) (sym all ∙ fails) call
    ]

over_fails : (v : Version) (s : State) (line : List ℕ) (e : TraceError)
    → take_bytes (reading (finished v s) []) (line ++ 10 ∷ []) ≡ failed e → IsCall e → ⊥
over_fails v s [] e fails call = let same : refusal.BadLine (line_number (finished v s)) ≡ e =
    cc fails in subst IsCall (sym same) call
over_fails v s (b ∷ line) e fails call =
    let same : refusal.BadLine (line_number (finished v s)) ≡ e =
    cc (sym (stays_failed (refusal.BadLine (line_number (finished v s))) (line ++ 10 ∷ [])) ∙ fails) in
    subst IsCall (sym same) call

feed_fails : (p : Phase) (line : List ℕ) (e : TraceError) → has_no_feed line ≡ true
    → take_bytes (reading p []) (line ++ 10 ∷ []) ≡ failed e → IsCall e → IsReasonOf e (reason_in p line)
feed_fails magic line e plain fails call = open_fails magic line e refl plain fails call
feed_fails (params v) line e plain fails call = open_fails (params v) line e refl plain fails call
feed_fails (node v p) line e plain fails call = open_fails (node v p) line e refl plain fails call
feed_fails (lines v p plan) line e plain fails call = open_fails (lines v p plan) line e refl plain fails call
feed_fails (body v s) line e plain fails call = open_fails (body v s) line e refl plain fails call
feed_fails (finished v s) line e plain fails call = absurd (over_fails v s line e fails call)

-- never at the end of the text
not_last : (p : Phase) (line : List ℕ) (e : TraceError) → outcome_of (reading p line) ≡ Err e → IsCall e → ⊥
not_last magic line e is call = let same : refusal.BadMagic ≡ e = cc is in subst IsCall (sym same) call
not_last (params v) line e is call = let same : refusal.Truncated ≡ e = cc is in subst IsCall (sym same) call
not_last (node v p) line e is call = let same : refusal.Truncated ≡ e = cc is in subst IsCall (sym same) call
not_last (lines v p plan) line e is call = let same : refusal.Truncated ≡ e = cc is in subst IsCall (sym same) call
not_last (body v s) line e is call = let same : refusal.Truncated ≡ e = cc is in subst IsCall (sym same) call
not_last (finished v s) line e is call = cc is

open_ends : (p : Phase) (line : List ℕ) (e : TraceError) → is_open p ≡ true → has_no_feed line ≡ true
    → outcome_of (take_bytes (reading p []) line) ≡ Err e → IsCall e → ⊥
open_ends p line e opened plain fails call =
    elim (cases_lt 1200 (length line)) [
      | inl long ↦
          let over : take_bytes (reading p []) line ≡ failed (too_long p) =
          overflow p [] line opened plain (omega arith) (omega (arith, long)) in
          let same : too_long p ≡ e = cc (sym (ap outcome_of over) ∙ fails) in
          not_long p (subst IsCall (sym same) call)
      | inr short ↦
          let filled : take_bytes (reading p []) line ≡ reading p line =
          fill p line [] opened plain (omega (arith, short)) in
          not_last p line e (sym (ap outcome_of filled) ∙ fails) call
    ]

over_ends : (v : Version) (s : State) (line : List ℕ) (e : TraceError)
    → outcome_of (take_bytes (reading (finished v s) []) line) ≡ Err e → IsCall e → ⊥
over_ends v s [] e fails call = cc fails
over_ends v s (b ∷ line) e fails call =
    let same : refusal.BadLine (line_number (finished v s)) ≡ e =
    cc (sym (ap outcome_of (stays_failed (refusal.BadLine (line_number (finished v s))) line)) ∙ fails) in
    subst IsCall (sym same) call

end_fails : (p : Phase) (line : List ℕ) (e : TraceError) → has_no_feed line ≡ true
    → outcome_of (take_bytes (reading p []) line) ≡ Err e → IsCall e → ⊥
end_fails magic line e plain fails call = open_ends magic line e refl plain fails call
end_fails (params v) line e plain fails call = open_ends (params v) line e refl plain fails call
end_fails (node v p) line e plain fails call = open_ends (node v p) line e refl plain fails call
end_fails (lines v p plan) line e plain fails call = open_ends (lines v p plan) line e refl plain fails call
end_fails (body v s) line e plain fails call = open_ends (body v s) line e refl plain fails call
end_fails (finished v s) line e plain fails call = over_ends v s line e fails call

-- ---- together

-- whole lines lead to a phase
abbrev pub Comes : List ℕ → Type 0
Comes front = (p : Phase) × (take_bytes fresh front ≡ reading p [])

comes_in : (front : List ℕ) (s : Progress) → take_bytes fresh front ≡ s → answer_of s ≡ Ok tt → held s ≡ []
    → Comes front
comes_in front (reading p l) is fine whole = (p, is ∙ ap (reading p) whole)
comes_in front (failed e) is fine whole = cc fine

call_named : (e : TraceError) (front line rest : List ℕ) (p : Phase) → take_bytes fresh front ≡ reading p []
    → has_no_feed line ≡ true → ShowsIn e front line rest → IsCall e → IsReasonOf e (reason_in p line)
call_named e front line [] p came plain shows call =
    absurd (end_fails p line e plain (sym (ap outcome_of
    (fold-append take_byte fresh front line ∙ ap (λ (s : Progress). take_bytes s line) came)) ∙ shows) call)
call_named e front line (b ∷ rest) p came plain (is, shown) call =
    let feed : take_bytes fresh (front ++ (line ++ 10 ∷ [])) ≡ failed e =
    subst (λ (c : ℕ). take_bytes fresh (front ++ (line ++ c ∷ [])) ≡ failed e) is shown in
    feed_fails p line e plain (sym (fold-append take_byte fresh front (line ++ 10 ∷ []) ∙ ap
    (λ (s : Progress). take_bytes s (line ++ 10 ∷ [])) came) ∙ feed) call

-- the reason for a text that breaks off is at most that its line feed is missing
end_told : (p : Phase) (line : List ℕ) → IsReasonOf refusal.Truncated (feed_in p line)
end_told magic line = tt
end_told (params v) line = tt
end_told (node v p) line = tt
end_told (lines v p plan) line = tt
end_told (body v s) line = elim (cases_Bool (bytes_eq line end_line)) [
  | inl is ↦ rw is tt
  | inr other ↦ rw other tt
]
end_told (finished v s) line = tt

named_in : (e : TraceError) (front line rest : List ℕ) (p : Phase) → take_bytes fresh front ≡ reading p []
    → has_no_feed line ≡ true → ShowsIn e front line rest → IsOfText e
    → IsReasonOf e (reason_for e (reading p []) line)
named_in refusal.BadMagic front line rest p came plain shows of_text = tt
named_in (refusal.BadLine n) front line rest p came plain shows of_text = tt
named_in (refusal.LineTooLong n) front line rest p came plain shows of_text = tt
named_in (refusal.Refused n) front line rest p came plain shows of_text =
    call_named (refusal.Refused n) front line rest p came plain shows tt
named_in (refusal.WrongAnswer n) front line rest p came plain shows of_text =
    call_named (refusal.WrongAnswer n) front line rest p came plain shows tt
named_in refusal.Truncated front line rest p came plain shows of_text = end_told p line
named_in refusal.Read front line rest p came plain shows of_text = absurd of_text
named_in refusal.Write front line rest p came plain shows of_text = absurd of_text
named_in refusal.Memory front line rest p came plain shows of_text = absurd of_text

pub reason_named : (e : TraceError) (text front line rest : List ℕ) → IsOfText e → IsAtFault e text front line rest
    → IsReasonOf e (reason_for e (take_bytes fresh front) line)
reason_named e text front line rest of_text fault =
    let (p, came) = comes_in front (take_bytes fresh front) refl fault.before fault.whole in
    subst (λ (s : Progress). IsReasonOf e (reason_for e s line)) (sym came)
    (named_in e front line rest p came fault.plain fault.shows of_text)
