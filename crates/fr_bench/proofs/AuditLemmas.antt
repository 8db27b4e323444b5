-- The result of an audit, from the parts of its reading and its report.
use Rattle.std.proofs.Common.{◌≡◌, ℕ, Bool, true, false, List, ◌++◌, Option, Some, None, Result, Ok, Err, inl, inr}
use Rattle.std.proofs.Common.{refl}
use Rattle.std.proofs.Common.{sym, ap, subst, ◌∙◌}
use Rattle.std.specs.Io.KnownBytes.{Keeps}
use Rattle.std.specs.Prelude.{IfSome, IsSomeAnd}
use Rattle.fr_auditing.proofs.LongAgainLemmas.{legal_accepted}
use Rattle.fr_auditing.proofs.StreamLemmas.{begins_before_by, begins_behind_by}
use Rattle.fr_auditing.specs.LongStream.{long_bytes, LongBegins}
use Rattle.fr_auditing.specs.LongText.{long_text}
use Rattle.fr_bench.proofs.VersionLemmas.{earlier_version, later_version}
use Rattle.fr_bench.specs.Audits.{Ends, EndsAt, EndsBy, Finds, FindsBy, FindsEarlier, FindsLater, IsLongFailure}
use Rattle.fr_bench.specs.Audits.{IsLongTextOf}
use Rattle.fr_bench.specs.LongStops.{Known, IsReadAs, LongBeginsIn, LongFails, LongRefuses, LongStopsEarly, LongStopsIn}
use Rattle.fr_bench.specs.Reading.{ReadsBy, Reports}
use Rattle.fr_bench.specs.Versions.{is_later}
use Rattle.fr_interface.specs.State.{State, IsLegalInterface, IsNodeInterface}
use Rattle.fr_trace.proofs.OutcomeLemmas.{accepted_begins, accepted_text, leaves_audited, leaves_stopped, not_refused}
use Rattle.fr_trace.specs.Audit.{Audits, IsNotRefused, IsOfText, IsTextOf, Leaves, ReadsThrough, Stops}
use Rattle.fr_trace.specs.Audit.{StopsEarly}
use Rattle.fr_trace.specs.declared.error.TraceError.{TraceError}
use Rattle.fr_trace.specs.declared.error.TraceError.TheVariants.{BadMagic, BadLine, LineTooLong, Refused, WrongAnswer}
use Rattle.fr_trace.specs.declared.error.TraceError.TheVariants.{Truncated, Read, Write, Memory}
use Rattle.fr_trace.specs.ReportText.{report_text}
use Rattle.fr_trace.specs.Stream.{fresh, outcome_of}
use Rattle.fr_trace.specs.TraceText.{IsTraceOf}

-- both parts of a result
abbrev pub Earlier : Option (List ℕ) → Option (List ℕ) → Option (List ℕ) → Option (List ℕ)
    → Result (Unit {0}) TraceError → Type 0
Earlier text rest old new r = FindsEarlier text old new r × EndsBy false text rest r

abbrev pub Later : Option (List ℕ) → Option (List ℕ) → Option (List ℕ) → Option (List ℕ)
    → Result (Unit {0}) TraceError → Type 0
Later text rest old new r = FindsLater text old new r × EndsBy true text rest r

-- ---- versions 1 to 3

no_write : (text rest : Option (List ℕ)) → ReadsThrough text rest (Err Write) → ⊥
no_write None rest h = h
no_write (Some text) None h = h
no_write (Some text) (Some rest) h = h

-- an error of the text, or of the reader
plain_ends : (text rest : Option (List ℕ)) (e : TraceError) → Stops text rest (Err e) → EndsBy false text rest (Err e)
plain_ends None rest e h = tt
plain_ends (Some text) None e h = absurd h
plain_ends (Some text) (Some rest) BadMagic h = h
plain_ends (Some text) (Some rest) (BadLine n) h = h
plain_ends (Some text) (Some rest) (LineTooLong n) h = h
plain_ends (Some text) (Some rest) (Refused n) h = h
plain_ends (Some text) (Some rest) (WrongAnswer n) h = h
plain_ends (Some text) (Some rest) Truncated h = h
plain_ends (Some text) (Some rest) Read h = h
plain_ends (Some text) (Some rest) Write h = h
plain_ends (Some text) (Some rest) Memory h = inl h

refused_leaves : (text rest old new : Option (List ℕ)) (e : TraceError) → ReadsThrough text rest (Err e)
    → Keeps old new → Leaves text rest old new (Err e)
refused_leaves text rest old new BadMagic h kept = (h, kept)
refused_leaves text rest old new (BadLine n) h kept = (h, kept)
refused_leaves text rest old new (LineTooLong n) h kept = (h, kept)
refused_leaves text rest old new (Refused n) h kept = (h, kept)
refused_leaves text rest old new (WrongAnswer n) h kept = (h, kept)
refused_leaves text rest old new Truncated h kept = (h, kept)
refused_leaves text rest old new Read h kept = (h, kept)
refused_leaves text rest old new Write h kept = absurd (no_write text rest h)
refused_leaves text rest old new Memory h kept = (h, kept)

refused_found : (text rest old new : Option (List ℕ)) (e : TraceError) → ReadsThrough text rest (Err e)
    → Audits text old new (Err e) → FindsEarlier text old new (Err e)
refused_found text rest old new BadMagic h audited = audited
refused_found text rest old new (BadLine n) h audited = audited
refused_found text rest old new (LineTooLong n) h audited = audited
refused_found text rest old new (Refused n) h audited = audited
refused_found text rest old new (WrongAnswer n) h audited = audited
refused_found text rest old new Truncated h audited = audited
refused_found text rest old new Read h audited = audited
refused_found text rest old new Write h audited = absurd (no_write text rest h)
refused_found text rest old new Memory h audited = audited

pub earlier_refused : (text rest old new : Option (List ℕ)) (e : TraceError) → ReadsThrough text rest (Err e)
    → Keeps old new → Earlier text rest old new (Err e)
earlier_refused text rest old new e h kept =
    let left = refused_leaves text rest old new e h kept in (
      refused_found text rest old new e h (leaves_audited text rest old new (Err e) left),
      plain_ends text rest e (leaves_stopped text rest old new (Err e) left),
    )

text_of : (text rest : Option (List ℕ)) (s : State) → ReadsThrough text rest (Ok s) → IsNodeInterface s
    → (t : State) × IsTextOf t text × IsNodeInterface t
text_of text rest s h legal = leaves_audited text rest None None (Err Write) (s, h, legal)

-- the report of an accepted text wasn't written whole
accepted_ends : (text rest : Option (List ℕ)) (s : State) → ReadsThrough text rest (Ok s) → IsNodeInterface s
    → EndsBy false text rest (Err Memory) × EndsBy false text rest (Err Write)
accepted_ends None rest s h legal = (tt, tt)
accepted_ends (Some text) None s h legal = absurd h
accepted_ends (Some text) (Some rest) s h legal =
    (inr (h.0, text_of (Some text) (Some rest) s h legal), h.0)

done_ends : (text rest : Option (List ℕ)) (s : State) → ReadsThrough text rest (Ok s) → EndsBy false text rest (Ok tt)
done_ends None rest s h = tt
done_ends (Some text) None s h = absurd h
done_ends (Some text) (Some rest) s h = h.0

pub text_same : (text rest : Option (List ℕ)) (s : State) → ReadsThrough text rest (Ok s) → IsNodeInterface s
    → IsTextOf s text
text_same None rest s h legal = tt
text_same (Some text) None s h legal = absurd h
text_same (Some text) (Some rest) s h legal = accepted_text text s h.1

pub earlier_reported : (text rest old new : Option (List ℕ)) (s : State) (r : Result (Unit {0}) TraceError)
    → ReadsThrough text rest (Ok s) → IsNodeInterface s → Reports (report_text s) old new r
    → Earlier text rest old new r
earlier_reported text rest old new s (Ok x) h legal written =
    ((s, text_same text rest s h legal, legal, written), done_ends text rest s h)
earlier_reported text rest old new s (Err Memory) h legal kept = (
  (accepted_begins text s legal (text_same text rest s h legal), kept),
  (accepted_ends text rest s h legal).0,
)
earlier_reported text rest old new s (Err Write) h legal cut =
    ((s, text_same text rest s h legal, legal, cut), (accepted_ends text rest s h legal).1)
earlier_reported text rest old new s (Err BadMagic) h legal none = absurd none
earlier_reported text rest old new s (Err (BadLine n)) h legal none = absurd none
earlier_reported text rest old new s (Err (LineTooLong n)) h legal none = absurd none
earlier_reported text rest old new s (Err (Refused n)) h legal none = absurd none
earlier_reported text rest old new s (Err (WrongAnswer n)) h legal none = absurd none
earlier_reported text rest old new s (Err Truncated) h legal none = absurd none
earlier_reported text rest old new s (Err Read) h legal none = absurd none

-- ---- version 4

known_some : (text rest : Option (List ℕ)) (P : List ℕ → List ℕ → Type 0) (Q : List ℕ → Type 0)
    → ((t r : List ℕ) → P t r → Q t) → Known text rest P → IfSome text Q
known_some None rest P Q f h = tt
known_some (Some text) None P Q f h = absurd h
known_some (Some text) (Some rest) P Q f h = f text rest h

begins_in : (text rest : List ℕ) → LongStopsIn LongBeginsIn text rest → LongBegins fresh text
begins_in text rest h =
    let (front, piece, is, short, faultless, begins) = h in
    subst (LongBegins fresh) (sym is) (begins_behind_by true fresh front (piece ++ rest)
    (begins_before_by true (long_bytes fresh front) piece rest begins))

failure_of : (text rest : Option (List ℕ)) (e : TraceError) → LongFails e text rest → IsLongFailure e text
failure_of text rest e (inl read) = inl read.0
failure_of text rest e (inr (inl out)) =
    inr (inl (out.0, known_some text rest (LongStopsIn LongBeginsIn) (LongBegins fresh) begins_in out.1))
failure_of text rest e (inr (inr fault)) =
    inr (inr (
      fault.0,
      known_some text rest (LongRefuses e) (λ t. outcome_of (long_bytes fresh t) ≡ Err e) (λ t r h. h.0) fault.1,
    ))

failed_ends : (text rest : Option (List ℕ)) (e : TraceError) → LongFails e text rest → EndsBy true text rest (Err e)
failed_ends None rest e h = tt
failed_ends (Some text) None e (inl read) = absurd read.1
failed_ends (Some text) None e (inr (inl out)) = absurd out.1
failed_ends (Some text) None e (inr (inr fault)) = absurd fault.1
failed_ends (Some text) (Some rest) e h = inl h

pub later_refused : (text rest old new : Option (List ℕ)) (e : TraceError) → LongFails e text rest → Keeps old new
    → Later text rest old new (Err e)
later_refused text rest old new e h kept = (inl (failure_of text rest e h, kept), failed_ends text rest e h)

module _ (text rest : Option (List ℕ)) (s : State) (legal : IsLegalInterface s) (h : Known text rest (IsReadAs s)) where
  long_of : IsLongTextOf s text
  long_of = (known_some text rest (IsReadAs s) (λ t. t ≡ long_text s) (λ t r is. is.0) h, legal)

  long_ends : EndsBy true text rest (Ok tt) × EndsBy true text rest (Err Memory) × EndsBy true text rest (Err Write)
  long_ends = by_bytes text rest h
    where
      by_bytes : (t r : Option (List ℕ)) → Known t r (IsReadAs s)
          → EndsBy true t r (Ok tt) × EndsBy true t r (Err Memory) × EndsBy true t r (Err Write)
      by_bytes None r h = (tt, tt, tt)
      by_bytes (Some t) None h = absurd h
      by_bytes (Some t) (Some r) h = (
        h.1,
        inr (inl refl, (h.1, (s, (h.0, legal)))),
        inr (inr refl, (h.1, (s, (h.0, legal)))),
      )

  pub later_reported : (old new : Option (List ℕ)) (r : Result (Unit {0}) TraceError)
      → Reports (report_text s) old new r → Later text rest old new r
  later_reported old new (Ok x) written = ((s, long_of, written), long_ends.0)
  later_reported old new (Err Memory) kept = (inr (inl (refl, (s, long_of), kept)), long_ends.1)
  later_reported old new (Err Write) cut = (inr (inr (refl, (s, long_of, cut))), long_ends.2)
  later_reported old new (Err BadMagic) none = absurd none
  later_reported old new (Err (BadLine n)) none = absurd none
  later_reported old new (Err (LineTooLong n)) none = absurd none
  later_reported old new (Err (Refused n)) none = absurd none
  later_reported old new (Err (WrongAnswer n)) none = absurd none
  later_reported old new (Err Truncated) none = absurd none
  later_reported old new (Err Read) none = absurd none

-- ---- all versions

-- both parts of a result, of a text of version 4 or of another
abbrev pub Both : Bool → Option (List ℕ) → Option (List ℕ) → Option (List ℕ) → Option (List ℕ)
    → Result (Unit {0}) TraceError → Type 0
Both later text rest old new r = FindsBy later text old new r × EndsBy later text rest r

pub by_refused : (later : Bool) (text rest old new : Option (List ℕ)) (e : TraceError)
    → ReadsBy later text rest (Err e) → Keeps old new → Both later text rest old new (Err e)
by_refused true text rest old new e h kept = later_refused text rest old new e h kept
by_refused false text rest old new e h kept = earlier_refused text rest old new e h kept

pub by_reported : (later : Bool) (text rest old new : Option (List ℕ)) (s : State) (r : Result (Unit {0}) TraceError)
    → ReadsBy later text rest (Ok s) → Reports (report_text s) old new r → Both later text rest old new r
by_reported true text rest old new s r reads written = later_reported text rest s reads.0 reads.1 old new r written
by_reported false text rest old new s r reads written = earlier_reported text rest old new s r reads.1 reads.0 written

pub found_by : (text old new : Option (List ℕ)) (head : List ℕ) (later : Bool) (r : Result (Unit {0}) TraceError)
    → IfSome text (λ t. is_later t ≡ is_later head) → is_later head ≡ later → FindsBy later text old new r
    → Finds text old new r
found_by None old new head true r same is h = inr h
found_by None old new head false r same is h = inl h
found_by (Some text) old new head later r same is h =
    subst (λ (b : Bool). FindsBy b (Some text) old new r) (sym (same ∙ is)) h

pub ends_by : (text rest : Option (List ℕ)) (head : List ℕ) (later : Bool) (r : Result (Unit {0}) TraceError)
    → IfSome text (λ t. is_later t ≡ is_later head) → is_later head ≡ later → EndsBy later text rest r
    → Ends text rest r
ends_by None rest head later r same is h = tt
ends_by (Some text) None head later r same is h = absurd h
ends_by (Some text) (Some rest) head later r same is h =
    subst (λ (b : Bool). EndsAt b text rest r) (sym (same ∙ is)) h

-- the reader failed before the version was known
pub found_none : (text old new : Option (List ℕ)) → Keeps old new → Finds text old new (Err Read)
found_none None old new kept = inl kept
found_none (Some text) old new kept = by_version (is_later text)
  where
    by_version : (b : Bool) → FindsBy b (Some text) old new (Err Read)
    by_version true = inl (inl refl, kept)
    by_version false = kept

pub ends_none : (text rest : Option (List ℕ)) → Known text rest StopsEarly → Known text rest LongStopsEarly
    → Ends text rest (Err Read)
ends_none None rest earlier later = tt
ends_none (Some text) None earlier later = absurd earlier
ends_none (Some text) (Some rest) earlier later = by_version (is_later text)
  where
    by_version : (b : Bool) → EndsAt b text rest (Err Read)
    by_version true = inl (inl (refl, later))
    by_version false = earlier

-- ---- texts of legal interfaces

earlier_only : (text : List ℕ) (old new : Option (List ℕ)) (r : Result (Unit {0}) TraceError) (s : State)
    → FindsEarlier (Some text) old new r → IsNodeInterface s → IsTraceOf s text → IsNotRefused r
earlier_only text old new (Ok x) s h is trace = tt
earlier_only text old new (Err Write) s h is trace = λ none. none
earlier_only text old new (Err BadMagic) s h is trace = not_refused (Some text) old new (Err BadMagic) s h is trace
earlier_only text old new (Err (BadLine n)) s h is trace =
    not_refused (Some text) old new (Err (BadLine n)) s h is trace
earlier_only text old new (Err (LineTooLong n)) s h is trace =
    not_refused (Some text) old new (Err (LineTooLong n)) s h is trace
earlier_only text old new (Err (Refused n)) s h is trace =
    not_refused (Some text) old new (Err (Refused n)) s h is trace
earlier_only text old new (Err (WrongAnswer n)) s h is trace =
    not_refused (Some text) old new (Err (WrongAnswer n)) s h is trace
earlier_only text old new (Err Truncated) s h is trace = not_refused (Some text) old new (Err Truncated) s h is trace
earlier_only text old new (Err Read) s h is trace = λ none. none
earlier_only text old new (Err Memory) s h is trace = λ none. none

pub accepts_earlier : (text old new : Option (List ℕ)) (r : Result (Unit {0}) TraceError) (s : State)
    → Finds text old new r → IsNodeInterface s → IsSomeAnd text (λ t. IsTraceOf s t) → IsNotRefused r
accepts_earlier None old new r s h is trace = absurd trace
accepts_earlier (Some text) old new r s h is trace =
    earlier_only text old new r s
    (subst (λ (b : Bool). FindsBy b (Some text) old new r) (earlier_version text s is trace) h) is trace

later_only : (text : List ℕ) (old new : Option (List ℕ)) (r : Result (Unit {0}) TraceError) (s : State)
    → FindsLater (Some text) old new r → IsLegalInterface s → text ≡ long_text s → IsNotRefused r
later_only text old new (Ok x) s h is same = tt
later_only text old new (Err e) s (inl (inl read, kept)) is same = λ of_text. subst IsOfText read of_text
later_only text old new (Err e) s (inl (inr (inl out), kept)) is same = λ of_text. subst IsOfText out.0 of_text
later_only text old new (Err e) s (inl (inr (inr fault), kept)) is same =
    λ of_text. cc (sym (ap (λ (t : List ℕ). outcome_of (long_bytes fresh t)) same ∙ legal_accepted s is) ∙ fault.1)
later_only text old new (Err e) s (inr (inl out)) is same = λ of_text. subst IsOfText out.0 of_text
later_only text old new (Err e) s (inr (inr cut)) is same = λ of_text. subst IsOfText cut.0 of_text

pub accepts_later : (text old new : Option (List ℕ)) (r : Result (Unit {0}) TraceError) (s : State)
    → Finds text old new r → IsLegalInterface s → IsSomeAnd text (λ t. t ≡ long_text s) → IsNotRefused r
accepts_later None old new r s h is same = absurd same
accepts_later (Some text) old new r s h is same =
    later_only text old new r s
    (subst (λ (b : Bool). FindsBy b (Some text) old new r) (later_version text s same) h) is same
