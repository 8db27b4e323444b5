-- The bytes that have been read of a text, and the state of its auditor. A `Bool` is true for a text of version 4, and
-- false for one of versions 1 to 3.
use Rattle.std.proofs.Common.{◌≡◌, ℕ, ◌≤◌, Bool, true, false, List, [], ◌++◌, length, Option, Some, None}
use Rattle.std.proofs.Common.{Result, Ok, Err, inl, inr, refl, sym, ap, subst, ◌∙◌, ◌⊎◌, append_assoc, append-nil}
use Rattle.std.proofs.lemmas.List.Sums.{fold-append}
use Rattle.std.specs.Io.KnownBytes.{Consumes, Keeps}
use Rattle.std.specs.Prelude.{IfOk, IfSome}
use Rattle.fr_auditing.proofs.StreamLemmas.{earlier_bytes, stays_by}
use Rattle.fr_auditing.specs.LongStream.{byte_by, bytes_by, BeginsBy}
use Rattle.fr_auditing.specs.Tracking.{Auditing, auditing, IsEarlierText, IsLongText, ReadsOn, Tracks}
use Rattle.fr_bench.proofs.FaultLemmas.{bytes_by_fault}
use Rattle.fr_bench.specs.LongStops.{Known, IsReadAs}
use Rattle.fr_bench.specs.Reading.{HasCome, HasNoFaultBy, IsOver, ReadsBy, SoFar}
use Rattle.fr_interface.specs.State.{State}
use Rattle.fr_trace.proofs.FaultLemmas.{FailsByText, FaultOfText, outcome_fault}
use Rattle.fr_trace.specs.Audit.{BeginsIn, FailsIn, HasNoFault, IsNotWrite, IsOfText, ReadsThrough, StopsAtEnd}
use Rattle.fr_trace.specs.Audit.{StopsIn, Through}
use Rattle.fr_trace.specs.declared.error.TraceError.{TraceError}
use Rattle.fr_trace.specs.declared.error.TraceError.TheVariants.{BadMagic, BadLine, LineTooLong, Refused, WrongAnswer}
use Rattle.fr_trace.specs.declared.error.TraceError.TheVariants.{Truncated, Read, Write, Memory}
use Rattle.fr_trace.specs.Feeds.{IsAtBegin}
use Rattle.fr_trace.specs.Stream.{Progress, reading, failed, fresh, take_bytes, answer_of, outcome_of}

-- ---- known bytes

pub known_map : (text rest : Option (List ℕ)) (P Q : List ℕ → List ℕ → Type 0)
    → ((t r : List ℕ) → P t r → Q t r) → Known text rest P → Known text rest Q
known_map None rest P Q f h = tt
known_map (Some text) None P Q f h = absurd h
known_map (Some text) (Some rest) P Q f h = f text rest h

-- a piece comes after these bytes
abbrev ComeMore : List ℕ → List ℕ → List ℕ → List ℕ → Type 0
ComeMore front bytes text rest = text ≡ front ++ (bytes ++ rest)

known_more : (old mid new : Option (List ℕ)) (front bytes : List ℕ) → Known old mid (HasCome front)
    → Consumes mid new bytes → Known old new (ComeMore front bytes)
known_more None mid new front bytes come consumed = tt
known_more (Some text) None new front bytes come consumed = absurd come
known_more (Some text) (Some rest) None front bytes come consumed = absurd consumed
known_more (Some text) (Some rest) (Some left) front bytes come consumed =
    come ∙ ap (λ (r : List ℕ). front ++ r) consumed

pub known_none : (text : Option (List ℕ)) → Known text text (HasCome [])
known_none None = tt
known_none (Some text) = refl

nothing_read : (mid new : Option (List ℕ)) → Keeps mid new → Consumes mid new []
nothing_read None new kept = tt
nothing_read (Some rest) None kept = absurd kept
nothing_read (Some rest) (Some left) kept = sym kept

-- all bytes have come
abbrev AllCome : List ℕ → List ℕ → List ℕ → Type 0
AllCome front text rest = (text ≡ front) × (rest ≡ [])

all_come : (old mid new : Option (List ℕ)) (front : List ℕ) → Known old mid (HasCome front) → Known mid new IsOver
    → Known old new (AllCome front)
all_come None mid new front come over = tt
all_come (Some text) None new front come over = absurd come
all_come (Some text) (Some rest) None front come over = absurd over
all_come (Some text) (Some rest) (Some left) front come over =
    (come ∙ ap (λ (r : List ℕ). front ++ r) over.0 ∙ append-nil front, over.1)

-- a reader that shows no byte is at its end
pub shown_none : (old mid : Option (List ℕ)) (shown : List ℕ) → length shown ≡ 0
    → IfSome old (λ xs. length shown ≡ 0 → xs ≡ []) → Keeps old mid → Known old mid IsOver
shown_none None mid shown none end kept = tt
shown_none (Some text) None shown none end kept = absurd kept
shown_none (Some text) (Some rest) shown none end kept = (end none, kept ∙ end none)

-- ---- before the first byte

pub read_none : (later : Bool) (text : Option (List ℕ)) (a : Auditing) → Tracks later a fresh → SoFar later text text a
read_none later text a tracks = ([], tracks, refl, known_none text)

-- ---- a piece without a fault

pub read_more : (later : Bool) (old mid new : Option (List ℕ)) (a b : Auditing) (bytes : List ℕ)
    → SoFar later old mid a → Consumes mid new bytes → ReadsOn a bytes b → answer_of b.progress ≡ Ok tt
    → SoFar later old new b
read_more later old mid new a b bytes so_far consumed feed fine =
    by_feed (subst (λ (x : Auditing). ReadsOn x bytes b) so_far.1 feed)
  where
    by_feed : ReadsOn (auditing later (bytes_by later fresh so_far.0)) bytes b → SoFar later old new b
    by_feed (inl tracks) =
        let here : Tracks later b (bytes_by later fresh (so_far.0 ++ bytes)) =
        tracks ∙ ap (auditing later) (sym (fold-append (byte_by later) fresh so_far.0 bytes)) in (
          so_far.0 ++ bytes,
          here,
          ap (λ (x : Auditing). answer_of x.progress) (sym here) ∙ fine,
          known_map old new (ComeMore so_far.0 bytes) (HasCome (so_far.0 ++ bytes))
              (λ t r is. is ∙ sym (append_assoc so_far.0 bytes r))
              (known_more old mid new so_far.0 bytes so_far.3 consumed),
        )
    by_feed (inr out) = absurd (failing out.0)
      where
        failing : b ≡ auditing later (failed Memory) → ⊥
        failing is = cc (ap (λ (x : Auditing). answer_of x.progress) (sym is) ∙ fine)

-- an interrupted read takes nothing
pub read_kept : (later : Bool) (old mid new : Option (List ℕ)) (a : Auditing) → SoFar later old mid a → Keeps mid new
    → SoFar later old new a
read_kept later old mid new a so_far kept = (
  so_far.0,
  so_far.1,
  so_far.2,
  known_more old mid new so_far.0 [] so_far.3 (nothing_read mid new kept),
)

-- ---- an error, with the bytes that were read: the definitions of `LongStops` and `Audit` in one

abbrev StopsEarlyBy : Bool → List ℕ → List ℕ → Type 0
StopsEarlyBy later text rest = (front : List ℕ) × (text ≡ front ++ rest) × HasNoFaultBy later front

abbrev StopsInBy : Bool → (List ℕ → List ℕ → Type 0) → List ℕ → List ℕ → Type 0
StopsInBy later Decides text rest =
    (front : List ℕ) × (piece : List ℕ) × (text ≡ front ++ (piece ++ rest)) × (length piece ≤ 4096)
    × HasNoFaultBy later front × Decides front piece

abbrev StopsAtEndBy : Bool → List ℕ → List ℕ → Type 0
StopsAtEndBy later text rest = (rest ≡ []) × HasNoFaultBy later text

abbrev BeginsInBy : Bool → List ℕ → List ℕ → Type 0
BeginsInBy later front piece = BeginsBy later (bytes_by later fresh front) piece

abbrev FailsInBy : Bool → TraceError → List ℕ → List ℕ → Type 0
FailsInBy later e front piece = bytes_by later fresh (front ++ piece) ≡ failed e

abbrev RefusesBy : Bool → TraceError → List ℕ → List ℕ → Type 0
RefusesBy later e text rest = (outcome_of (bytes_by later fresh text) ≡ Err e)
    × (StopsAtEndBy later text rest ⊎ StopsInBy later (FailsInBy later e) text rest)

abbrev FailsBy : Bool → TraceError → Option (List ℕ) → Option (List ℕ) → Type 0
FailsBy later e text rest = ((e ≡ Read) × Known text rest (StopsEarlyBy later))
    ⊎ (((e ≡ Memory) × Known text rest (StopsInBy later (BeginsInBy later)))
    ⊎ (IsOfText e × Known text rest (RefusesBy later e)))

-- ---- the same in a text of versions 1 to 3

no_fault_same : (bytes : List ℕ) → HasNoFaultBy false bytes → HasNoFault bytes
no_fault_same bytes h = ap answer_of (sym (earlier_bytes bytes fresh)) ∙ h

in_same : (text rest : List ℕ) (D E : List ℕ → List ℕ → Type 0)
    → ((front piece : List ℕ) → D front piece → E front piece) → StopsInBy false D text rest → StopsIn E text rest
in_same text rest D E f h =
    let (front, piece, is, short, fine, decides) = h in
    (front, piece, is, short, no_fault_same front fine, f front piece decides)

begins_same : (front piece : List ℕ) → BeginsInBy false front piece → BeginsIn front piece
begins_same front piece h =
    let (before, rest, is, at) = h in (
      before,
      rest,
      is,
      subst IsAtBegin (earlier_bytes before (bytes_by false fresh front)
          ∙ ap (λ s. take_bytes s before) (earlier_bytes front fresh)) at,
    )

fails_same : (e : TraceError) (front piece : List ℕ) → FailsInBy false e front piece → FailsIn e front piece
fails_same e front piece h = sym (earlier_bytes (front ++ piece) fresh) ∙ h

stops_same : (text rest : List ℕ) (e : TraceError)
    → StopsAtEndBy false text rest ⊎ StopsInBy false (FailsInBy false e) text rest
    → StopsAtEnd text rest ⊎ StopsIn (FailsIn e) text rest
stops_same text rest e (inl end) = inl (end.0, no_fault_same text end.1)
stops_same text rest e (inr piece) = inr (in_same text rest (FailsInBy false e) (FailsIn e) (fails_same e) piece)

fault_in : (text rest : List ℕ) (e : TraceError) → IsOfText e → outcome_of (take_bytes fresh text) ≡ Err e
    → StopsAtEnd text rest ⊎ StopsIn (FailsIn e) text rest → Through text rest (Err e)
fault_in text rest BadMagic of_text is stops = (is, stops)
fault_in text rest (BadLine n) of_text is stops = (is, stops)
fault_in text rest (LineTooLong n) of_text is stops = (is, stops)
fault_in text rest (Refused n) of_text is stops = (is, stops)
fault_in text rest (WrongAnswer n) of_text is stops = (is, stops)
fault_in text rest Truncated of_text is stops = (is, stops)
fault_in text rest Read of_text is stops = absurd of_text
fault_in text rest Write of_text is stops = absurd of_text
fault_in text rest Memory of_text is stops = absurd of_text

not_write : (e : TraceError) → IsOfText e → IsNotWrite (Err e)
not_write BadMagic of_text = tt
not_write (BadLine n) of_text = tt
not_write (LineTooLong n) of_text = tt
not_write (Refused n) of_text = tt
not_write (WrongAnswer n) of_text = tt
not_write Truncated of_text = tt
not_write Read of_text = absurd of_text
not_write Write of_text = absurd of_text
not_write Memory of_text = absurd of_text

fails_through : (text rest : Option (List ℕ)) (e : TraceError) → FailsBy false e text rest
    → ReadsThrough text rest (Err e)
fails_through None rest e (inl read) = subst (λ (d : TraceError). IsNotWrite (Err d)) (sym read.0) tt
fails_through None rest e (inr (inl out)) = subst (λ (d : TraceError). IsNotWrite (Err d)) (sym out.0) tt
fails_through None rest e (inr (inr fault)) = not_write e fault.0
fails_through (Some text) None e (inl read) = absurd read.1
fails_through (Some text) None e (inr (inl out)) = absurd out.1
fails_through (Some text) None e (inr (inr fault)) = absurd fault.1
fails_through (Some text) (Some rest) e (inl read) =
    let (front, is, fine) = read.1 in
    subst (λ (d : TraceError). Through text rest (Err d)) (sym read.0) (front, is, no_fault_same front fine)
fails_through (Some text) (Some rest) e (inr (inl out)) =
    subst (λ (d : TraceError). Through text rest (Err d)) (sym out.0)
    (in_same text rest (BeginsInBy false) BeginsIn begins_same out.1)
fails_through (Some text) (Some rest) e (inr (inr fault)) =
    fault_in text rest e fault.0 (ap outcome_of (sym (earlier_bytes text fresh)) ∙ fault.1.0)
    (stops_same text rest e fault.1.1)

fails_read : (later : Bool) (text rest : Option (List ℕ)) (e : TraceError) → FailsBy later e text rest
    → ReadsBy later text rest (Err e)
fails_read true text rest e h = h
fails_read false text rest e h = fails_through text rest e h

-- ---- a piece with a fault

failed_is : (s : Progress) (e : TraceError) → answer_of s ≡ Err e → s ≡ failed e
failed_is (reading p line) e is = cc is
failed_is (failed d) e is = let same : d ≡ e = cc is in ap failed same

refused : (later : Bool) (front bytes text rest : List ℕ) (e : TraceError)
    → bytes_by later fresh (front ++ bytes) ≡ failed e → ComeMore front bytes text rest
    → outcome_of (bytes_by later fresh text) ≡ Err e
refused later front bytes text rest e stuck is =
    ap outcome_of (ap (bytes_by later fresh) (is ∙ sym (append_assoc front bytes rest))
    ∙ fold-append (byte_by later) fresh (front ++ bytes) rest ∙ ap (λ s. bytes_by later s rest) stuck
    ∙ stays_by later e rest)

pub read_fault : (later : Bool) (old mid new : Option (List ℕ)) (a b : Auditing) (bytes : List ℕ) (e : TraceError)
    → SoFar later old mid a → Consumes mid new bytes → length bytes ≤ 4096 → ReadsOn a bytes b
    → answer_of b.progress ≡ Err e → ReadsBy later old new (Err e)
read_fault later old mid new a b bytes e so_far consumed short feed fault =
    fails_read later old new e (by_feed (subst (λ (x : Auditing). ReadsOn x bytes b) so_far.1 feed))
  where
    come : Known old new (ComeMore so_far.0 bytes)
    come = known_more old mid new so_far.0 bytes so_far.3 consumed

    by_feed : ReadsOn (auditing later (bytes_by later fresh so_far.0)) bytes b → FailsBy later e old new
    by_feed (inl tracks) =
        let stuck : bytes_by later fresh (so_far.0 ++ bytes) ≡ failed e =
        fold-append (byte_by later) fresh so_far.0 bytes
        ∙ ap (λ (x : Auditing). x.progress) (sym tracks) ∙ failed_is b.progress e fault in
        let of_text : IsOfText e = subst FailsByText stuck (bytes_by_fault later (so_far.0 ++ bytes) fresh tt) in
        inr (inr (
          of_text,
          known_map old new (ComeMore so_far.0 bytes) (RefusesBy later e)
              (λ t r is. (
                refused later so_far.0 bytes t r e stuck is,
                inr (so_far.0, bytes, is, short, so_far.2, stuck),
              )) come,
        ))
    by_feed (inr out) =
        let answer : Err Memory ≡ Err e = ap (λ (x : Auditing). answer_of x.progress) (sym out.0) ∙ fault in
        let error : Memory ≡ e = cc answer in
        inr (inl (
          sym error,
          known_map old new (ComeMore so_far.0 bytes) (StopsInBy later (BeginsInBy later))
              (λ t r is. (so_far.0, bytes, is, short, so_far.2, out.1)) come,
        ))

-- ---- the end

pub read_failed : (later : Bool) (old mid new : Option (List ℕ)) (a : Auditing) → SoFar later old mid a → Keeps mid new
    → ReadsBy later old new (Err Read)
read_failed later old mid new a so_far kept =
    fails_read later old new Read (inl (
      refl,
      known_map old new (HasCome so_far.0) (StopsEarlyBy later) (λ t r is. (so_far.0, is, so_far.2))
          (known_more old mid new so_far.0 [] so_far.3 (nothing_read mid new kept)),
    ))

through_all : (text rest : Option (List ℕ)) (front : List ℕ) (s : State) → outcome_of (take_bytes fresh front) ≡ Ok s
    → HasNoFault front → Known text rest (AllCome front) → ReadsThrough text rest (Ok s)
through_all None rest front s read fine come = tt
through_all (Some text) None front s read fine come = absurd come
through_all (Some text) (Some rest) front s read fine come = (
  (come.1, subst HasNoFault (sym come.0) fine),
  ap (λ (l : List ℕ). outcome_of (take_bytes fresh l)) come.0 ∙ read,
)

module _ (old mid new : Option (List ℕ)) (a : Auditing) (over : Known mid new IsOver) where
  ended_later : (s : State) → SoFar true old mid a
      → ((text : List ℕ) → Tracks true a (bytes_by true fresh text) → IsLongText s text) → ReadsBy true old new (Ok s)
  ended_later s so_far found =
      let (is, legal) = found so_far.0 so_far.1 in (
        legal,
        known_map old new (AllCome so_far.0) (IsReadAs s)
            (λ t r all. (all.0 ∙ is, (all.1, subst (HasNoFaultBy true) (sym all.0) so_far.2)))
            (all_come old mid new so_far.0 so_far.3 over),
      )

  ended_earlier : (s : State) → SoFar false old mid a
      → ((text : List ℕ) → Tracks false a (bytes_by false fresh text) → IsEarlierText s text)
      → ReadsBy false old new (Ok s)
  ended_earlier s so_far found =
      let (read, trace, legal) = found so_far.0 so_far.1 in (
        legal,
        through_all old new so_far.0 s read (no_fault_same so_far.0 so_far.2)
            (all_come old mid new so_far.0 so_far.3 over),
      )

  pub read_end : (later : Bool) (r : Result State TraceError) → SoFar later old mid a → r ≡ outcome_of a.progress
      → ((text : List ℕ) → Tracks false a (bytes_by false fresh text) → IfOk r (λ s. IsEarlierText s text))
      → ((text : List ℕ) → Tracks true a (bytes_by true fresh text) → IfOk r (λ s. IsLongText s text))
      → ReadsBy later old new r
  read_end true (Ok s) so_far exact earlier found = ended_later s so_far found
  read_end false (Ok s) so_far exact earlier found = ended_earlier s so_far earlier
  read_end later (Err e) so_far exact earlier found =
      let fault : outcome_of (bytes_by later fresh so_far.0) ≡ Err e =
      ap (λ (x : Auditing). outcome_of x.progress) (sym so_far.1) ∙ sym exact in
      let of_text : IsOfText e =
      subst FaultOfText fault
      (outcome_fault (bytes_by later fresh so_far.0) (bytes_by_fault later so_far.0 fresh tt)) in
      fails_read later old new e (inr (inr (
        of_text,
        known_map old new (AllCome so_far.0) (RefusesBy later e)
            (λ t r all. (
              ap (λ (l : List ℕ). outcome_of (bytes_by later fresh l)) all.0 ∙ fault,
              inl (all.1, subst (HasNoFaultBy later) (sym all.0) so_far.2),
            ))
            (all_come old mid new so_far.0 so_far.3 over),
      )))
