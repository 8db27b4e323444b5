-- An accepted text is the text of an interface, and the text of a legal interface is accepted.
use Rattle.std.proofs.Common.{◌≡◌, ℕ, true}
use Rattle.std.proofs.Common.{List, [], ◌∷◌, ◌++◌, Option, Some, None, Result, Ok, Err, refl, sym, ap, subst, ◌∙◌}
use Rattle.std.proofs.lemmas.List.{append-nil}
use Rattle.fr_journal.specs.Forms.{Entry}
use Rattle.fr_journal.specs.declared.entry.Entry.TheVariants as entries
use Rattle.fr_interface.specs.State.{State, IsNodeInterface}
use Rattle.fr_lines.specs.declared.versions.Version.TheVariants.{Three}
use Rattle.fr_lines.specs.Versions.{tells}
use Rattle.fr_slots.specs.declared.plan.Own.{Own}
use Rattle.fr_trace.specs.Audit.{IsTextOf, IsRefusedBy, HasBegin, Leaves, Audits, Stops, StopsIn, BeginsIn}
use Rattle.fr_trace.specs.Audit.{ReadsThrough, IsNotRefused, IsOfText, Understands, outcome}
use Rattle.std.specs.Prelude.{IfOk, IsSomeAnd}
use Rattle.fr_trace.specs.Feeds.{Begins}
use Rattle.fr_trace.specs.declared.error.TraceError.{TraceError}
use Rattle.fr_trace.specs.declared.error.TraceError.TheVariants.{BadMagic, BadLine, LineTooLong, Refused, WrongAnswer}
use Rattle.fr_trace.specs.declared.error.TraceError.TheVariants.{Truncated, Read, Write, Memory}
use Rattle.fr_trace.specs.Stream.{Progress, magic, params, node, lines, body, finished, reading, failed, fresh}
use Rattle.fr_trace.specs.Stream.{take_bytes, outcome_of}
use Rattle.fr_trace.specs.TraceText.{trace_text, AreOwnedTold, AreTold, IsTraceOf}
use Rattle.fr_trace.proofs.AgainLemmas.{text_again, text_begins}
use Rattle.fr_trace.proofs.FeedLemmas.{begins_before, begins_behind}
use Rattle.fr_trace.proofs.TextLemmas.{Spelled, text_spelled}
use Rattle.fr_trace.proofs.ToldLemmas.{IsToldSoFar, text_told}

found_in : (p : Progress) (text : List ℕ) (s : State) → Spelled p text → IsToldSoFar p → outcome_of p ≡ Ok s
    → IsTraceOf s text
found_in (failed e) text s spelled told h = cc h
found_in (reading magic line) text s spelled told h = cc h
found_in (reading (params v) line) text s spelled told h = cc h
found_in (reading (node v p) line) text s spelled told h = cc h
found_in (reading (lines v p plan) line) text s spelled told h = cc h
found_in (reading (body v t) line) text s spelled told h = cc h
found_in (reading (finished v t) line) text s spelled told h =
    let same : t ≡ s = cc h in
    let whole : text ≡ trace_text v t = spelled.0 ∙ (ap (λ l. trace_text v t ++ l) spelled.1 ∙ append-nil
    (trace_text v t)) in
    subst (λ (x : State). IsTraceOf x text) same (v, whole, told.0, told.1)

-- an accepted text is a text of that interface
pub accepted_text : (text : List ℕ) (s : State) → outcome_of (take_bytes fresh text) ≡ Ok s → IsTraceOf s text
accepted_text text s h = found_in (take_bytes fresh text) text s (text_spelled text) (text_told text) h

-- a text of a legal interface is accepted
pub legal_outcome : (text : List ℕ) (s : State) → IsNodeInterface s → IsTraceOf s text
    → outcome_of (take_bytes fresh text) ≡ Ok s
legal_outcome text s is trace =
    let (v, same, owned, told) = trace in
    ap (λ t. outcome_of (take_bytes fresh t)) same ∙ ap outcome_of (text_again v s is owned told)

-- version 3 has a line for each entry and for each ownership
tells_all : (e : Entry) → tells Three e ≡ true
tells_all (entries.Commit task buffer payload) = refl
tells_all (entries.Withdraw task buffer of) = refl
tells_all (entries.Read task buffer from) = refl
tells_all (entries.Pop task from) = refl
tells_all (entries.Fetch window a b) = refl
tells_all (entries.Observe window a b) = refl

pub all_told : (entries : List Entry) → AreTold Three entries
all_told [] = tt
all_told (e ∷ entries) = (tells_all e, all_told entries)

pub all_owned_told : (owned : List Own) → AreOwnedTold Three owned
all_owned_told [] = tt
all_owned_told (o ∷ owned) = (refl, all_owned_told owned)

-- a text that is written is accepted
pub written_outcome : (s : State) → IsNodeInterface s → outcome_of (take_bytes fresh (trace_text Three s)) ≡ Ok s
written_outcome s is = legal_outcome (trace_text Three s) s is
    (Three, refl, all_owned_told s.plan.owned, all_told s.entries)

-- ---- an audit

text_given : (text rest : Option (List ℕ)) (s : State) → ReadsThrough text rest (Ok s) → IsTextOf s text
text_given None rest s h = tt
text_given (Some text) None s h = absurd h
text_given (Some text) (Some rest) s h = accepted_text text s h.1

-- an accepted text has the line at which its interface is made
pub accepted_begins : (text : Option (List ℕ)) (s : State) → IsNodeInterface s → IsTextOf s text → HasBegin text
accepted_begins None s is same = tt
accepted_begins (Some text) s is trace =
    let (v, same, owned, told) = trace in
    subst (λ t. Begins fresh t) (sym same) (text_begins v s is owned)

piece_begins : (text rest : List ℕ) → StopsIn BeginsIn text rest → Begins fresh text
piece_begins text rest h =
    let (front, piece, is, short, faultless, begins) = h in
    subst (λ t. Begins fresh t) (sym is) (begins_behind fresh front (piece ++ rest)
    (begins_before (take_bytes fresh front) piece rest begins))

through_begins : (text rest : Option (List ℕ)) → ReadsThrough text rest (Err Memory) → HasBegin text
through_begins None rest h = tt
through_begins (Some text) None h = absurd h
through_begins (Some text) (Some rest) h = piece_begins text rest h

refused_by : (text rest : Option (List ℕ)) (e : TraceError) → IsOfText e → ReadsThrough text rest (Err e)
    → IsRefusedBy e text
refused_by None rest e of_text h = tt
refused_by (Some text) None e of_text h = absurd h
refused_by (Some text) (Some rest) BadMagic of_text h = h.0
refused_by (Some text) (Some rest) (BadLine n) of_text h = h.0
refused_by (Some text) (Some rest) (LineTooLong n) of_text h = h.0
refused_by (Some text) (Some rest) (Refused n) of_text h = h.0
refused_by (Some text) (Some rest) (WrongAnswer n) of_text h = h.0
refused_by (Some text) (Some rest) Truncated of_text h = h.0
refused_by (Some text) (Some rest) Read of_text h = absurd of_text
refused_by (Some text) (Some rest) Write of_text h = absurd of_text
refused_by (Some text) (Some rest) Memory of_text h = absurd of_text

pub leaves_audited : (text rest old new : Option (List ℕ)) (r : Result (Unit {0}) TraceError)
    → Leaves text rest old new r → Audits text old new r
leaves_audited text rest old new (Ok x) h = let (s, through, legal, written) =
    h in (s, text_given text rest s through, legal, written)
leaves_audited text rest old new (Err BadMagic) h = (refused_by text rest BadMagic tt h.0, h.1)
leaves_audited text rest old new (Err (BadLine n)) h = (refused_by text rest (BadLine n) tt h.0, h.1)
leaves_audited text rest old new (Err (LineTooLong n)) h = (refused_by text rest (LineTooLong n) tt h.0, h.1)
leaves_audited text rest old new (Err (Refused n)) h = (refused_by text rest (Refused n) tt h.0, h.1)
leaves_audited text rest old new (Err (WrongAnswer n)) h = (refused_by text rest (WrongAnswer n) tt h.0, h.1)
leaves_audited text rest old new (Err Truncated) h = (refused_by text rest Truncated tt h.0, h.1)
leaves_audited text rest old new (Err Read) h = h.1
leaves_audited text rest old new (Err Write) h = let (s, through, legal) =
    h in (s, text_given text rest s through, legal)
leaves_audited text rest old new (Err Memory) h = (through_begins text rest h.0, h.1)

pub leaves_stopped : (text rest old new : Option (List ℕ)) (r : Result (Unit {0}) TraceError)
    → Leaves text rest old new r → Stops text rest r
leaves_stopped None rest old new r h = tt
leaves_stopped (Some text) None old new (Ok x) h = let (s, through, legal, written) = h in through
leaves_stopped (Some text) None old new (Err BadMagic) h = h.0
leaves_stopped (Some text) None old new (Err (BadLine n)) h = h.0
leaves_stopped (Some text) None old new (Err (LineTooLong n)) h = h.0
leaves_stopped (Some text) None old new (Err (Refused n)) h = h.0
leaves_stopped (Some text) None old new (Err (WrongAnswer n)) h = h.0
leaves_stopped (Some text) None old new (Err Truncated) h = h.0
leaves_stopped (Some text) None old new (Err Read) h = h.0
leaves_stopped (Some text) None old new (Err Write) h = let (s, through, legal) = h in through
leaves_stopped (Some text) None old new (Err Memory) h = h.0
leaves_stopped (Some text) (Some rest) old new (Ok x) h = let (s, through, legal, written) = h in through.0
leaves_stopped (Some text) (Some rest) old new (Err BadMagic) h = h.0.1
leaves_stopped (Some text) (Some rest) old new (Err (BadLine n)) h = h.0.1
leaves_stopped (Some text) (Some rest) old new (Err (LineTooLong n)) h = h.0.1
leaves_stopped (Some text) (Some rest) old new (Err (Refused n)) h = h.0.1
leaves_stopped (Some text) (Some rest) old new (Err (WrongAnswer n)) h = h.0.1
leaves_stopped (Some text) (Some rest) old new (Err Truncated) h = h.0.1
leaves_stopped (Some text) (Some rest) old new (Err Read) h = h.0
leaves_stopped (Some text) (Some rest) old new (Err Write) h = let (s, through, legal) = h in through.0
leaves_stopped (Some text) (Some rest) old new (Err Memory) h = h.0

clash : {A : Type 0} (r : Result A TraceError) (s : A) (e : TraceError) → r ≡ Ok s → r ≡ Err e → ⊥
clash r s e good bad = cc (sym good ∙ bad)

given_fault : (text old new : Option (List ℕ)) (e : TraceError) → Audits text old new (Err e) → IsOfText e
    → IsRefusedBy e text
given_fault text old new BadMagic h of_text = h.0
given_fault text old new (BadLine n) h of_text = h.0
given_fault text old new (LineTooLong n) h of_text = h.0
given_fault text old new (Refused n) h of_text = h.0
given_fault text old new (WrongAnswer n) h of_text = h.0
given_fault text old new Truncated h of_text = h.0
given_fault text old new Read h of_text = absurd of_text
given_fault text old new Write h of_text = absurd of_text
given_fault text old new Memory h of_text = absurd of_text

pub not_refused : (text old new : Option (List ℕ)) (r : Result (Unit {0}) TraceError) (s : State)
    → Audits text old new r → IsNodeInterface s → IsSomeAnd text (λ t. IsTraceOf s t) → IsNotRefused r
not_refused text old new (Ok x) s h is trace = tt
not_refused None old new (Err e) s h is trace = absurd trace
not_refused (Some text) old new (Err e) s h is trace =
    λ of_text. clash (outcome_of (take_bytes fresh text)) s e (legal_outcome text s is trace)
    (given_fault (Some text) old new e h of_text)

-- ---- an interface alone

pub through_understood : (text rest : Option (List ℕ)) (r : Result State TraceError) → IfOk r IsNodeInterface
    → ReadsThrough text rest r → Understands text r
through_understood text rest (Ok s) legal h = (text_given text rest s h, legal)
through_understood text rest (Err BadMagic) legal h = refused_by text rest BadMagic tt h
through_understood text rest (Err (BadLine n)) legal h = refused_by text rest (BadLine n) tt h
through_understood text rest (Err (LineTooLong n)) legal h = refused_by text rest (LineTooLong n) tt h
through_understood text rest (Err (Refused n)) legal h = refused_by text rest (Refused n) tt h
through_understood text rest (Err (WrongAnswer n)) legal h = refused_by text rest (WrongAnswer n) tt h
through_understood text rest (Err Truncated) legal h = refused_by text rest Truncated tt h
through_understood text rest (Err Read) legal h = tt
through_understood None rest (Err Write) legal h = h
through_understood (Some text) None (Err Write) legal h = h
through_understood (Some text) (Some rest) (Err Write) legal h = h
through_understood text rest (Err Memory) legal h = through_begins text rest h

-- reading such a text through, without writing
pub understood_leaves : (text rest : Option (List ℕ)) (r : Result State TraceError) → IfOk r IsNodeInterface
    → ReadsThrough text rest r → Leaves text rest None None (outcome r)
understood_leaves text rest (Ok s) legal h = (s, h, legal, tt)
understood_leaves text rest (Err BadMagic) legal h = (h, tt)
understood_leaves text rest (Err (BadLine n)) legal h = (h, tt)
understood_leaves text rest (Err (LineTooLong n)) legal h = (h, tt)
understood_leaves text rest (Err (Refused n)) legal h = (h, tt)
understood_leaves text rest (Err (WrongAnswer n)) legal h = (h, tt)
understood_leaves text rest (Err Truncated) legal h = (h, tt)
understood_leaves text rest (Err Read) legal h = (h, tt)
understood_leaves None rest (Err Write) legal h = absurd h
understood_leaves (Some text) None (Err Write) legal h = absurd h
understood_leaves (Some text) (Some rest) (Err Write) legal h = absurd h
understood_leaves text rest (Err Memory) legal h = (h, tt)

pub outcome_not_refused : (r : Result State TraceError) → IsNotRefused (outcome r) → IsNotRefused r
outcome_not_refused (Ok s) h = tt
outcome_not_refused (Err e) h = h
