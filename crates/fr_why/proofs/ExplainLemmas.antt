-- The bytes that are kept of a text, and the explanation of its line at fault.
use Rattle.std.proofs.Common.{◌≡◌, ℕ, ◌<◌, ◌≤◌, List, [], ◌++◌, length, take, Option, Some, None, Ok, Err, IfSome, inl}
use Rattle.std.proofs.Common.{Result, OnOk, IfErr, sym, ◌⊎◌, inr, ap, ◌∙◌, subst, arith, lit<}
use Rattle.std.proofs.lemmas.Bool.{cases_lt}
use Rattle.std.proofs.lemmas.List.{length-take-le, take_all}
use Rattle.std.specs.Io.KnownBytes.{Appends}
use Rattle.std.proofs.KnownBytes.{Keeps-refl}
use Rattle.std.specs.Prelude.{option_map}
use Rattle.fr_capture.specs.declared.form.Form.{Form}
use Rattle.fr_capture.specs.Shows.{text_of, IsUnwritten}
use Rattle.fr_interface.specs.State.{State, IsNodeInterface}
use Rattle.fr_trace.specs.Audit.{IsOfText}
use Rattle.fr_trace.specs.declared.error.TraceError.{TraceError}
use Rattle.fr_trace.specs.declared.error.TraceError.TheVariants as refusal
use Rattle.fr_trace.specs.Refusals.{feed_count}
use Rattle.fr_trace.specs.Stream.{fresh, take_bytes, outcome_of}
use Rattle.fr_why.specs.Asking.{reason_asked}
use Rattle.fr_why.specs.declared.head.Head.{Head}
use Rattle.fr_why.specs.declared.reason.Reason.{Reason}
use Rattle.fr_why.specs.declared.verdict.Verdict.{Verdict}
use Rattle.fr_why.specs.declared.verdict.Verdict.TheVariants.{Accepted, Refused}
use Rattle.fr_why.specs.Explains.{kept, Explains, IsExplained, IsReadWhole, shown_so_far, ShowsUntil}
use Rattle.fr_why.specs.Faults.{IsAtFault, state_at, windows_of}
use Rattle.fr_why.specs.Heads.{Tells}
use Rattle.fr_why.specs.Reasons.{reason_for}
use Rattle.fr_why.specs.WhyText.{fault_text, refused_text}
use Rattle.fr_why.proofs.HeadLemmas.{reason_told}

-- all bytes up to the limit are kept
pub all_kept : (known : Option (List ℕ)) (limit : ℕ) (old new : List ℕ) → limit ≡ 98548055 → old ≡ []
    → IfSome (option_map (take limit) known) (λ xs. new ≡ old ++ xs) → IfSome known (λ text. new ≡ kept text)
all_kept None limit old new most nothing read = tt
all_kept (Some text) limit old new most nothing read =
    read ∙ (ap (λ (t : List ℕ). t ++ take limit text) nothing ∙ ap (λ (n : ℕ). take n text) most)

-- the answers from the kept state of the lines before are those of the lines themselves
pub refused_is : (e : TraceError) (front line words old : List ℕ) (before : ℕ) (h : Head) (o : Option State)
    (r : Reason) (w : ℕ) → Tells front h → old ≡ [] → words ≡ old ++ fault_text e before line r w
    → before ≡ feed_count front → o ≡ state_at (take_bytes fresh front) → r ≡ reason_asked e h o line → w ≡ windows_of o
    → words ≡ refused_text e front line
refused_is e front line words old before h o r w (p, came, told) nothing is count left reason windows =
    let asked : r ≡ reason_for e (take_bytes fresh front) line =
    reason ∙ (ap (λ (x : Option State). reason_asked e h x line) left ∙ reason_told e front line h p came told) in
    is
    ∙ (ap (λ (t : List ℕ). t ++ fault_text e before line r w) nothing
    ∙ (ap (λ (n : ℕ). fault_text e n line r w) count
    ∙ (ap (λ (x : Reason). fault_text e (feed_count front) line x w) asked
    ∙ ap (λ (n : ℕ). fault_text e (feed_count front) line (reason_for e (take_bytes fresh front) line) n)
    (windows ∙ ap windows_of left))))

-- ---- an accepted text is kept whole

short_front : (n m : ℕ) (text : List ℕ) → length (take n text) ≤ m → m < n → take n text ≡ text
short_front n m text few less =
    elim (cases_lt n (length text)) [
      | inl long ↦ let cut = length-take-le n text (omega (arith, long)) in absurd (omega (arith, cut, few, less))
      | inr short ↦ take_all n text (omega (arith, short))
    ]

whole_by : (text bytes words : List ℕ) (v : Verdict) → bytes ≡ kept text → IsExplained bytes v words
    → IsReadWhole text (Ok v)
whole_by text bytes words Accepted is explained =
    let few : length bytes ≤ 98546854 = explained.3 in
    short_front 98548055 98546854 text (subst (λ (t : List ℕ). length t ≤ 98546854) is few) (lit< tt)
whole_by text bytes words Refused is explained = tt

pub read_whole : (known : Option (List ℕ)) (bytes words : List ℕ) (v : Verdict)
    → IfSome known (λ text. bytes ≡ kept text) → IsExplained bytes v words
    → IfSome known (λ text. IsReadWhole text (Ok v))
read_whole None bytes words v read explained = tt
read_whole (Some text) bytes words v read explained = whole_by text bytes words v read explained

-- ---- the explanation is handed to the writer

-- nothing was written, since the reader failed or memory ran out
pub explains_none : (text : List ℕ) (old : Option (List ℕ)) (e : TraceError)
    → (e ≡ refusal.Read) ⊎ (e ≡ refusal.Memory) → Explains text old old (Err e)
explains_none text old e (inl read) =
    subst (λ (x : TraceError). Explains text old old (Err x)) (sym read) (Keeps-refl old)
explains_none text old e (inr memory) =
    subst (λ (x : TraceError). Explains text old old (Err x)) (sym memory) (Keeps-refl old)

-- for a reader whose bytes are known, the same holds of the bytes that are kept
pub explains_known : (known : Option (List ℕ)) (bytes : List ℕ) (old new : Option (List ℕ))
    (r : Result Verdict TraceError) → IfSome known (λ text. bytes ≡ kept text) → Explains bytes old new r
    → IfSome known (λ text. Explains (kept text) old new r)
explains_known None bytes old new r is explained = tt
explains_known (Some text) bytes old new r is explained =
    subst (λ (t : List ℕ). Explains t old new r) is explained

-- ---- until the fault

pub shows_none : (form : Form) (text : List ℕ) (old : Option (List ℕ)) (e : TraceError)
    → (e ≡ refusal.Read) ⊎ (e ≡ refusal.Memory) → ShowsUntil form text old old (Err e)
shows_none form text old e (inl read) =
    subst (λ (x : TraceError). ShowsUntil form text old old (Err x)) (sym read) (Keeps-refl old)
shows_none form text old e (inr memory) =
    subst (λ (x : TraceError). ShowsUntil form text old old (Err x)) (sym memory) (Keeps-refl old)

-- the output of the lines before the line at fault isn't written whole
pub shows_part : (form : Form) (text front line rest : List ℕ) (old new : Option (List ℕ)) (e f : TraceError)
    → IsAtFault f text front line rest
    → IsUnwritten (shown_so_far form (state_at (take_bytes fresh front))) old new e
    → ShowsUntil form text old new (Err e)
shows_part form text front line rest old new e f fault (inl (write, part)) =
    subst (λ (x : TraceError). ShowsUntil form text old new (Err x)) (sym write)
    (inr (f, front, line, rest, fault, part))
shows_part form text front line rest old new e f fault (inr (memory, keeps)) =
    subst (λ (x : TraceError). ShowsUntil form text old new (Err x)) (sym memory) keeps

pub shows_fault : (form : Form) (text front line rest : List ℕ) (old new : Option (List ℕ)) (e : TraceError)
    → IsOfText e → IsAtFault e text front line rest
    → Appends old new (shown_so_far form (state_at (take_bytes fresh front))) → ShowsUntil form text old new (Err e)
shows_fault form text front line rest old new refusal.BadMagic is fault shown = (front, line, rest, fault, shown)
shows_fault form text front line rest old new (refusal.BadLine n) is fault shown = (front, line, rest, fault, shown)
shows_fault form text front line rest old new (refusal.LineTooLong n) is fault shown = (front, line, rest, fault, shown)
shows_fault form text front line rest old new (refusal.Refused n) is fault shown = (front, line, rest, fault, shown)
shows_fault form text front line rest old new (refusal.WrongAnswer n) is fault shown = (front, line, rest, fault, shown)
shows_fault form text front line rest old new refusal.Truncated is fault shown = (front, line, rest, fault, shown)
shows_fault form text front line rest old new refusal.Read is fault shown = absurd is
shows_fault form text front line rest old new refusal.Write is fault shown = absurd is
shows_fault form text front line rest old new refusal.Memory is fault shown = absurd is

-- the output of an accepted text is written, or the writer or an allocation fails
pub shows_accepted : (form : Form) (text : List ℕ) (old new : Option (List ℕ)) (s : State)
    (r : Result (Unit {0}) TraceError) → outcome_of (take_bytes fresh text) ≡ Ok s → IsNodeInterface s
    → OnOk r (Appends old new (text_of form s))
    → IfErr r (IsUnwritten (text_of form s) old new) → ShowsUntil form text old new r
shows_accepted form text old new s (Ok x) is legal shown failed = (s, is, legal, shown)
shows_accepted form text old new s (Err e) is legal shown (inl (write, part)) =
    subst (λ (d : TraceError). ShowsUntil form text old new (Err d)) (sym write) (inl (s, is, legal, part))
shows_accepted form text old new s (Err e) is legal shown (inr (memory, keeps)) =
    subst (λ (d : TraceError). ShowsUntil form text old new (Err d)) (sym memory) keeps

-- for a reader whose bytes are known, the same holds of the bytes that are kept
pub shows_known : (form : Form) (known : Option (List ℕ)) (bytes : List ℕ) (old new : Option (List ℕ))
    (r : Result (Unit {0}) TraceError) → IfSome known (λ text. bytes ≡ kept text) → ShowsUntil form bytes old new r
    → IfSome known (λ text. ShowsUntil form (kept text) old new r)
shows_known form None bytes old new r is shown = tt
shows_known form (Some text) bytes old new r is shown =
    subst (λ (t : List ℕ). ShowsUntil form t old new r) is shown
