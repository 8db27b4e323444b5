-- The bytes that have been read of a reader, and the state that they leave.
use Rattle.std.proofs.Common.{◌≡◌, ℕ, ◌≤◌, List, [], ◌++◌, length, Option, Some, None, Result, Ok, Err, inl, inr, refl}
use Rattle.std.proofs.Common.{sym, ap, ◌∙◌, append_assoc, subst, ◌⊎◌}
use Rattle.std.proofs.lemmas.List.{append-nil}
use Rattle.std.proofs.lemmas.List.Sums.{fold-append}
use Rattle.std.proofs.lemmas.List.Folds.{fold_stays}
use Rattle.std.specs.Io.KnownBytes.{Consumes, Keeps, IsAtEnd}
use Rattle.fr_interface.specs.State.{State}
use Rattle.fr_trace.specs.Audit.{IsOfText, HasNoFault, StopsIn, StopsAtEnd, FailsIn, Through, IsNotWrite, ReadsThrough}
use Rattle.fr_trace.specs.Stream.{Progress, reading, failed, fresh, take_byte, take_bytes, answer_of, outcome_of}
use Rattle.fr_trace.specs.Feeds.{Begins, Reads}
use Rattle.fr_trace.specs.declared.error.TraceError.{TraceError}
use Rattle.fr_trace.specs.declared.error.TraceError.TheVariants.{BadMagic, BadLine, LineTooLong, Refused, WrongAnswer}
use Rattle.fr_trace.specs.declared.error.TraceError.TheVariants.{Truncated, Read, Write, Memory}
use Rattle.fr_trace.proofs.FaultLemmas.{FaultOfText, FailsByText, bytes_fault, outcome_fault}

-- the auditor has read the bytes that the reader no longer has, and no fault has shown
abbrev pub ReadSoFar : Option (List ℕ) → Option (List ℕ) → Progress → Type 0
ReadSoFar None new s = FailsByText s
ReadSoFar (Some text) None s = ⊥
ReadSoFar (Some text) (Some rest) s = (front : List ℕ) × (text ≡ front ++ rest) × (s ≡ take_bytes fresh front)
    × HasNoFault front

pub read_none : (old : Option (List ℕ)) (s : Progress) → s ≡ fresh → ReadSoFar old old s
read_none None s is = subst FailsByText (sym is) tt
read_none (Some text) s is = ([], refl, is, refl)

-- ---- a piece without a fault

-- a state after a failed allocation has no good answer
no_memory : (s s' : Progress) (bytes : List ℕ) → Reads s bytes s' → answer_of s' ≡ Ok tt → s' ≡ take_bytes s bytes
no_memory s s' bytes (inl read) fine = read
no_memory s s' bytes (inr out) fine = cc (ap answer_of (sym out.0) ∙ fine)

pub read_more : (old mid new : Option (List ℕ)) (s s' : Progress) (bytes : List ℕ) → ReadSoFar old mid s
    → Consumes mid new bytes → Reads s bytes s' → answer_of s' ≡ Ok tt
    → ReadSoFar old new s'
read_more None mid new s s' bytes so_far consumed fed fine =
    subst FailsByText (sym (no_memory s s' bytes fed fine)) (bytes_fault bytes s so_far)
read_more (Some text) None new s s' bytes so_far consumed fed fine = absurd so_far
read_more (Some text) (Some rest) None s s' bytes so_far consumed fed fine = absurd consumed
read_more (Some text) (Some rest) (Some rest') s s' bytes so_far consumed fed fine =
    let (front, is, state, faultless) = so_far in
    let state' : s' ≡ take_bytes fresh (front ++ bytes) = no_memory s s' bytes fed fine ∙
    (ap (λ t. take_bytes t bytes) state ∙ sym (fold-append take_byte fresh front bytes)) in (
      front ++ bytes,
      is ∙ (ap (λ r. front ++ r) consumed ∙ sym (append_assoc front bytes rest')),
      state',
      ap answer_of (sym state') ∙ fine,
    )

-- ---- a piece with a fault

answer_failed : (s : Progress) (e : TraceError) → answer_of s ≡ Err e → s ≡ failed e
answer_failed (reading p line) e h = cc h
answer_failed (failed d) e h = let is : d ≡ e = cc h in ap failed is

fault_in : (text rest : List ℕ) (e : TraceError) → IsOfText e → outcome_of (take_bytes fresh text) ≡ Err e
    → StopsAtEnd text rest ⊎ StopsIn (FailsIn e) text rest → Through text rest (Err e)
fault_in text rest BadMagic of_text is stops = (is, stops)
fault_in text rest (BadLine n) of_text is stops = (is, stops)
fault_in text rest (LineTooLong n) of_text is stops = (is, stops)
fault_in text rest (Refused n) of_text is stops = (is, stops)
fault_in text rest (WrongAnswer n) of_text is stops = (is, stops)
fault_in text rest Truncated of_text is stops = (is, stops)
fault_in text rest Read of_text is stops = absurd of_text
fault_in text rest Write of_text is stops = absurd of_text
fault_in text rest Memory of_text is stops = absurd of_text

not_write : (e : TraceError) → IsOfText e → IsNotWrite (Err e)
not_write BadMagic of_text = tt
not_write (BadLine n) of_text = tt
not_write (LineTooLong n) of_text = tt
not_write (Refused n) of_text = tt
not_write (WrongAnswer n) of_text = tt
not_write Truncated of_text = tt
not_write Read of_text = absurd of_text
not_write Write of_text = absurd of_text
not_write Memory of_text = absurd of_text

-- the fault is the text's own, since no bytes after it change the answer
piece_fault : (text front bytes rest : List ℕ) (e : TraceError) → text ≡ front ++ (bytes ++ rest) → length bytes ≤ 4096
    → HasNoFault front → take_bytes fresh (front ++ bytes) ≡ failed e
    → Through text rest (Err e)
piece_fault text front bytes rest e is short faultless stuck =
    let of_text : IsOfText e = subst FailsByText stuck (bytes_fault (front ++ bytes) fresh tt) in
    let end : take_bytes fresh text ≡ failed e =
    ap (take_bytes fresh) (is ∙ sym (append_assoc front bytes rest))
    ∙ (fold-append take_byte fresh (front ++ bytes) rest ∙ (ap (λ t. take_bytes t rest) stuck ∙ fold_stays take_byte
    (failed e) (λ b. refl) rest)) in
    fault_in text rest e of_text (ap outcome_of end) (inr (front, bytes, is, short, faultless, stuck))

pub read_fault : (old mid new : Option (List ℕ)) (s s' : Progress) (bytes : List ℕ) (e : TraceError)
    → ReadSoFar old mid s → Consumes mid new bytes → length bytes ≤ 4096 → Reads s bytes s'
    → answer_of s' ≡ Err e → ReadsThrough old new (Err e)
read_fault None mid new s s' bytes e so_far consumed short (inl fed) fault =
    not_write e (subst FailsByText (sym fed ∙ answer_failed s' e fault) (bytes_fault bytes s so_far))
read_fault None mid new s s' bytes e so_far consumed short (inr out) fault =
    let is : Memory ≡ e = cc (ap answer_of (sym out.0) ∙ fault) in
    subst (λ d. IsNotWrite (Err d)) is tt
read_fault (Some text) None new s s' bytes e so_far consumed short fed fault = absurd so_far
read_fault (Some text) (Some rest) None s s' bytes e so_far consumed short fed fault = absurd consumed
read_fault (Some text) (Some rest) (Some rest') s s' bytes e so_far consumed short (inr out) fault =
    let (front, is, state, faultless) = so_far in
    let error : Memory ≡ e = cc (ap answer_of (sym out.0) ∙ fault) in
    subst (λ d. Through text rest' (Err d)) error
    (front, bytes, is ∙ ap (λ r. front ++ r) consumed, short, faultless, subst (λ t. Begins t bytes) state out.1)
read_fault (Some text) (Some rest) (Some rest') s s' bytes e so_far consumed short (inl fed) fault =
    let (front, is, state, faultless) = so_far in
    let state' : s' ≡ take_bytes fresh (front ++ bytes) = fed ∙
    (ap (λ t. take_bytes t bytes) state ∙ sym (fold-append take_byte fresh front bytes)) in
    piece_fault text front bytes rest' e (is ∙ ap (λ r. front ++ r) consumed) short faultless
    (sym state' ∙ answer_failed s' e fault)

-- ---- the end

pub read_failed : (old mid new : Option (List ℕ)) (s : Progress) → ReadSoFar old mid s → Keeps mid new
    → ReadsThrough old new (Err Read)
read_failed None mid new s so_far kept = tt
read_failed (Some text) None new s so_far kept = absurd so_far
read_failed (Some text) (Some rest) None s so_far kept = absurd kept
read_failed (Some text) (Some rest) (Some rest') s so_far kept =
    let (front, is, state, faultless) = so_far in
    (front, is ∙ ap (λ r. front ++ r) (sym kept), faultless)

outcome_not_write : (r : Result State TraceError) → FaultOfText r → IsNotWrite r
outcome_not_write (Ok s) h = tt
outcome_not_write (Err e) h = not_write e h

end_through : (text rest : List ℕ) (r : Result State TraceError) → FaultOfText r
    → outcome_of (take_bytes fresh text) ≡ r → StopsAtEnd text rest → Through text rest r
end_through text rest (Ok s) h is stops = (stops, is)
end_through text rest (Err e) h is stops = fault_in text rest e h is (inl stops)

pub read_end : (old mid new : Option (List ℕ)) (s : Progress) → ReadSoFar old mid s → Consumes mid new [] → IsAtEnd new
    → ReadsThrough old new (outcome_of s)
read_end None mid new s so_far consumed end = outcome_not_write (outcome_of s) (outcome_fault s so_far)
read_end (Some text) None new s so_far consumed end = absurd so_far
read_end (Some text) (Some rest) None s so_far consumed end = absurd consumed
read_end (Some text) (Some rest) (Some rest') s so_far consumed end =
    let (front, is, state, faultless) = so_far in
    let all : text ≡ front = is ∙ (ap (λ r. front ++ r) (consumed ∙ end) ∙ append-nil front) in
    let same : take_bytes fresh text ≡ s = ap (take_bytes fresh) all ∙ sym state in
    let fault : FailsByText s = subst FailsByText same (bytes_fault text fresh tt) in
    end_through text rest' (outcome_of s) (outcome_fault s fault) (ap outcome_of same)
    (end, ap (λ t. answer_of (take_bytes fresh t)) all ∙ faultless)
