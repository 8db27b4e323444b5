-- The walk along the lines of a text, and the line at which it is refused.
use Rattle.std.proofs.Common.{◌≡◌, ℕ, ◌+◌, ◌-◌, ◌<◌, ◌≤◌, true, List, [], ◌∷◌, ◌++◌, length, get_or, take, drop, Option}
use Rattle.std.proofs.Common.{Some, None, Result, Ok, Err}
use Rattle.std.proofs.Common.{inl, inr, refl, sym, ap, ◌∙◌, subst, arith, append_assoc, append-nil}
use Rattle.std.proofs.lemmas.List.{length-drop, take_rest, drop_all, drop-drop, take-append-drop}
use Rattle.std.proofs.lemmas.Bool.{eqb-true}
use Rattle.std.proofs.lemmas.List.Sums.{fold-append}
use Rattle.std.specs.Prelude.{IfOk, IfErr}
use Rattle.fr_interface.specs.State.{State}
use Rattle.fr_slots.specs.declared.plan.Queue.{Queue}
use Rattle.fr_slots.specs.Numbers.{most_entries}
use Rattle.fr_slots.specs.Plans.{IsPlan}
use Rattle.fr_text.specs.Plain.{has_no_feed}
use Rattle.fr_trace.specs.Audit.{IsOfText, HasNoFault}
use Rattle.fr_trace.specs.declared.error.TraceError.{TraceError}
use Rattle.fr_trace.specs.declared.error.TraceError.TheVariants as refusal
use Rattle.fr_trace.specs.Feeds.{Reads, held}
use Rattle.fr_trace.specs.Refusals.{feed_count, LineIsNamed, HasFewLines}
use Rattle.fr_trace.specs.Stream.{Progress, reading, failed, fresh, take_byte, take_bytes, answer_of, outcome_of}
use Rattle.fr_trace.specs.Stream.{queue_count}
use Rattle.fr_trace.proofs.CutLemmas.{stays_failed, no_feed, no_feed_before}
use Rattle.memchr.specs.Find.{IsFirstByte, is_byte}
use Rattle.fr_trace.proofs.RefusalLemmas.{answer_named, outcome_named}
use Rattle.fr_why.specs.declared.finding.FaultyLine.{FaultyLine}
use Rattle.fr_why.specs.declared.head.Head.{Head}
use Rattle.fr_why.specs.Faults.{IsAtFault, ShowsIn}
use Rattle.fr_why.specs.Finding.{between, IsFaultIn, IsFound, found_of, StandsAt}
use Rattle.fr_why.specs.Heads.{next_head}
use Rattle.fr_why.proofs.CuttingLemmas.{longer_front, with_feed, feed_next, three_parts}
use Rattle.fr_why.proofs.HeadLemmas.{followed}
use Rattle.fr_why.proofs.LineLemmas.{line_leads}
use Rattle.fr_why.proofs.NumberLemmas.{feed_count-append, none_in_line, line_named}

-- ---- a line feed in the rest

-- the result of a search for the next line feed
pub record IsNextFeed (rest : List ℕ) (at : ℕ) : Type 0 where
  pub within : at < length rest
  pub feed : get_or rest at 0 ≡ 10
  pub plain : has_no_feed (take at rest) ≡ true

pub next_feed : (rest hay : List ℕ) (at : ℕ) → hay ≡ rest → IsFirstByte (is_byte 10) hay (Some at) → IsNextFeed rest at
next_feed rest hay at same found =
    subst (λ (t : List ℕ). IsNextFeed t at) same (record {
      within = found.0.high;
      feed = eqb-true _ 10 found.1;
      plain = no_feed_before hay at (omega (arith, found.0.high)) (λ k lt feed. found.0.before k (omega arith) lt feed);
    })

pub no_feed_left : (rest hay : List ℕ) → hay ≡ rest → IsFirstByte (is_byte 10) hay None → has_no_feed rest ≡ true
no_feed_left rest hay same nowhere = subst (λ (t : List ℕ). has_no_feed t ≡ true) same
    (no_feed hay (λ k lt feed. nowhere k (omega arith) lt feed))

-- the line with its line feed, and without it
pub piece_with : (start at : ℕ) (text : List ℕ) → IsNextFeed (drop start text) at
    → take (start + at + 1 - start) (drop start text) ≡ take at (drop start text) ++ 10 ∷ []
piece_with start at text next = ap (λ (k : ℕ). take k (drop start text)) {x = start + at + 1 - start} {y = at + 1}
    (omega arith) ∙ with_feed (drop start text) at next.within next.feed

-- the state of an auditor that has returned only errors of the text
read_of_text : (old new : Progress) (piece : List ℕ) (e : TraceError) → Reads old piece new → answer_of new ≡ Err e
    → IsOfText e → new ≡ take_bytes old piece
read_of_text old new piece e (inl read) answered is = read
read_of_text old new piece e (inr out) answered is =
    let memory : e ≡ refusal.Memory = cc (sym answered ∙ ap answer_of out.0) in
    absurd (subst IsOfText memory is)

read_without : (old new : Progress) (piece : List ℕ) → Reads old piece new → answer_of new ≡ Ok tt
    → new ≡ take_bytes old piece
read_without old new piece (inl read) fine = read
read_without old new piece (inr out) fine = cc (sym fine ∙ ap answer_of out.0)

pub line_at : (start at : ℕ) (text : List ℕ) → between start (start + at) text ≡ take at (drop start text)
line_at start at text = ap (λ (k : ℕ). take k (drop start text)) {x = start + at - start} {y = at} (omega arith)

-- the front with one line more
front_next : (start at : ℕ) (text : List ℕ) → IsNextFeed (drop start text) at
    → take (start + at + 1) text ≡ take start text ++ (take at (drop start text) ++ 10 ∷ [])
front_next start at text next =
    ap (λ (k : ℕ). take k text) {x = start + at + 1} {y = start + (at + 1)} (omega arith)
    ∙ (longer_front start (at + 1) text ∙ ap (λ (t : List ℕ). take start text ++ t)
    (with_feed (drop start text) at next.within next.feed))

-- the same, as it is read
read_next : (start at : ℕ) (text piece : List ℕ) (s : Progress) → take_bytes fresh (take start text) ≡ s
    → piece ≡ take at (drop start text) ++ 10 ∷ []
    → take_bytes fresh (take start text ++ (take at (drop start text) ++ 10 ∷ [])) ≡ take_bytes s piece
read_next start at text piece s came is =
    fold-append take_byte fresh (take start text) (take at (drop start text) ++ 10 ∷ [])
    ∙ (ap (λ (t : Progress). take_bytes t (take at (drop start text) ++ 10 ∷ [])) came ∙ ap (take_bytes s) (sym is))

-- a line that isn't refused
pub goes_on : (text : List ℕ) (start before at : ℕ) (h h' : Head) (auditor new : Progress) (piece line : List ℕ)
    → StandsAt text start before h auditor → IsNextFeed (drop start text) at
    → piece ≡ take at (drop start text) ++ 10 ∷ [] → line ≡ take at (drop start text) → Reads auditor piece new
    → answer_of new ≡ Ok tt → h' ≡ next_head h line
    → StandsAt text (start + at + 1) (before + 1) h' new
goes_on text start before at h h' auditor new piece line stands next piece_is line_is reads fine head_is =
    let rest = drop start text in
    let read : new ≡ take_bytes (reading stands.phase []) (take at rest ++ 10 ∷ []) =
    read_without auditor new piece reads fine ∙ (ap (λ (t : Progress). take_bytes t piece) stands.read ∙ ap
    (take_bytes (reading stands.phase [])) piece_is) in
    let (q, leads, taken) = line_leads stands.phase (take at rest) next.plain (ap answer_of (sym read) ∙ fine) in
    let one : feed_count (take at rest ++ 10 ∷ []) ≡ feed_count (take at rest) + 1 =
    feed_count-append (take at rest) (10 ∷ []) in
    let count : feed_count (take (start + at + 1) text) ≡ feed_count (take start text) + feed_count
    (take at rest ++ 10 ∷ []) =
    ap feed_count (front_next start at text next) ∙ feed_count-append (take start text) (take at rest ++ 10 ∷ []) in
    let none = none_in_line (take at rest) next.plain in
    record {
      within = omega (arith, length-drop start text, next.within, stands.within);
      few = omega (arith, stands.few);
      counted = omega (arith, one, count, none, stands.counted);
      phase = q;
      came = ap (take_bytes fresh) (front_next start at text next) ∙
          (read_next start at text (take at rest ++ 10 ∷ []) (reading stands.phase []) stands.came refl ∙ leads);
      read = read ∙ leads;
      told = head_is ∙ (ap (next_head h) line_is ∙ (ap (λ (k : Head). next_head k (take at rest)) stands.told
          ∙ followed stands.phase q (take at rest) taken));
    }

failed_by : (s : Progress) (e : TraceError) → answer_of s ≡ Err e → s ≡ failed e
failed_by (reading p l) e is = cc is
failed_by (failed f) e is = ap failed (cc is)

named_answer : (text : List ℕ) (e : TraceError) → answer_of (take_bytes fresh text) ≡ Err e
    → LineIsNamed {A = Unit {0}} (Err e) text
named_answer text e is = subst (λ (r : Result (Unit {0}) TraceError). LineIsNamed r text) is (answer_named text)

named_outcome : (text : List ℕ) (e : TraceError) → outcome_of (take_bytes fresh text) ≡ Err e
    → LineIsNamed {A = State} (Err e) text
named_outcome text e is = subst (λ (r : Result State TraceError). LineIsNamed r text) is (outcome_named text)

-- a line that is refused as its line feed comes
pub refused_here : (text : List ℕ) (start before at : ℕ) (h : Head) (auditor new : Progress) (piece : List ℕ)
    (e : TraceError) → StandsAt text start before h auditor → IsNextFeed (drop start text) at
    → piece ≡ take at (drop start text) ++ 10 ∷ [] → Reads auditor piece new → answer_of new ≡ Err e → IsOfText e
    → IsFaultIn text (record { error = e; start = start; end = start + at; before = before; head = h })
refused_here text start before at h auditor new piece e stands next piece_is reads answered is =
    let front = take start text in
    let rest = drop start text in
    let line = take at rest in
    let read : new ≡ take_bytes (reading stands.phase []) piece =
    read_of_text auditor new piece e reads answered is ∙ ap (λ (t : Progress). take_bytes t piece) stands.read in
    let shown : take_bytes fresh (front ++ (line ++ 10 ∷ [])) ≡ failed e =
    read_next start at text piece (reading stands.phase []) stands.came piece_is ∙
    (sym read ∙ failed_by new e answered) in
    let tail : drop (start + at) text ≡ 10 ∷ drop (at + 1) rest =
    sym (drop-drop at start text) ∙ feed_next rest at next.within next.feed in
    let whole : text ≡ (front ++ (line ++ 10 ∷ [])) ++ drop (at + 1) rest =
    three_parts start at text
    ∙ (ap (λ (t : List ℕ). front ++ (line ++ t)) tail
    ∙ (ap (λ (t : List ℕ). front ++ t) (sym (append_assoc line (10 ∷ []) (drop (at + 1) rest))) ∙ sym
    (append_assoc front (line ++ 10 ∷ []) (drop (at + 1) rest)))) in
    let out : outcome_of (take_bytes fresh text) ≡ Err e =
    ap outcome_of (ap (take_bytes fresh) whole
    ∙ (fold-append take_byte fresh (front ++ (line ++ 10 ∷ [])) (drop (at + 1) rest)
    ∙ (ap (λ (s : Progress). take_bytes s (drop (at + 1) rest)) shown ∙ stays_failed e (drop (at + 1) rest)))) in
    let none : HasNoFault front = ap answer_of stands.came in
    let shows : ShowsIn e front line (drop (start + at) text) =
    subst (λ (t : List ℕ). ShowsIn e front line t) (sym tail) (refl, shown) in
    let fault : IsAtFault e text front line (drop (start + at) text) =
    record {
      parts = three_parts start at text;
      refused = out;
      before = none;
      whole = ap held stands.came;
      plain = next.plain;
      shows = shows;
      named = line_named e front line (10 ∷ []) none next.plain (omega arith)
          (named_answer (front ++ (line ++ 10 ∷ [])) e (ap answer_of shown));
    } in
    record {
      of_text = is;
      starts = omega arith;
      ends = omega (arith, length-drop start text, next.within, stands.within);
      at_fault = subst (λ (l : List ℕ). IsAtFault e text front l (drop (start + at) text))
          (sym (line_at start at text)) fault;
      counted = stands.counted;
      told = (stands.phase, stands.came, stands.told);
    }

-- ---- the end of the text

-- the state of an auditor that has read to the end
read_rest : (text : List ℕ) (start : ℕ) (s new : Progress) → take_bytes fresh (take start text) ≡ s
    → new ≡ take_bytes s (drop start text) → take_bytes fresh text ≡ new
read_rest text start s new came read =
    ap (take_bytes fresh) (sym (take-append-drop start text))
    ∙ (fold-append take_byte fresh (take start text) (drop start text) ∙
    (ap (λ (t : Progress). take_bytes t (drop start text)) came ∙ sym read))

outcome_of_text : (old new : Progress) (piece : List ℕ) (e : TraceError) → Reads old piece new → outcome_of new ≡ Err e
    → IsOfText e → new ≡ take_bytes old piece
outcome_of_text old new piece e (inl read) answered is = read
outcome_of_text old new piece e (inr out) answered is =
    let memory : e ≡ refusal.Memory = cc (sym answered ∙ ap outcome_of out.0) in
    absurd (subst IsOfText memory is)

outcome_without : (old new : Progress) (piece : List ℕ) (s : State) → Reads old piece new → outcome_of new ≡ Ok s
    → new ≡ take_bytes old piece
outcome_without old new piece s (inl read) fine = read
outcome_without old new piece s (inr out) fine = cc (sym fine ∙ ap outcome_of out.0)

-- a text that is refused after its last line feed, or at its end
pub refused_last : (text : List ℕ) (start before : ℕ) (h : Head) (auditor new : Progress) (e : TraceError)
    → StandsAt text start before h auditor → has_no_feed (drop start text) ≡ true
    → Reads auditor (drop start text) new → outcome_of new ≡ Err e → IsOfText e
    → IsFaultIn text (record { error = e; start = start; end = length text; before = before; head = h })
refused_last text start before h auditor new e stands plain reads answered is =
    let front = take start text in
    let line = drop start text in
    let read : new ≡ take_bytes (reading stands.phase []) line =
    outcome_of_text auditor new line e reads answered is ∙ ap (λ (t : Progress). take_bytes t line) stands.read in
    let out : outcome_of (take_bytes fresh text) ≡ Err e = ap outcome_of
    (read_rest text start (reading stands.phase []) new stands.came read) ∙ answered in
    let none : HasNoFault front = ap answer_of stands.came in
    let over : drop (length text) text ≡ [] = drop_all (length text) text (omega arith) in
    let whole : text ≡ front ++ line = sym (take-append-drop start text) in
    let shows : ShowsIn e front line (drop (length text) text) =
    subst (λ (t : List ℕ). ShowsIn e front line t) (sym over)
    (subst (λ (t : List ℕ). outcome_of (take_bytes fresh t) ≡ Err e) whole out) in
    let ended : text ≡ front ++ (line ++ []) = whole ∙ ap (λ (t : List ℕ). front ++ t) (sym (append-nil line)) in
    let fault : IsAtFault e text front line (drop (length text) text) =
    record {
      parts = ended ∙ ap (λ (t : List ℕ). front ++ (line ++ t)) (sym over);
      refused = out;
      before = none;
      whole = ap held stands.came;
      plain = plain;
      shows = shows;
      named = line_named e front line [] none plain (omega arith)
          (subst (λ (t : List ℕ). LineIsNamed {A = State} (Err e) t) ended (named_outcome text e out));
    } in
    record {
      of_text = is;
      starts = stands.within;
      ends = omega arith;
      at_fault = subst (λ (l : List ℕ). IsAtFault e text front l (drop (length text) text))
          (sym (take_rest text start)) fault;
      counted = stands.counted;
      told = (stands.phase, stands.came, stands.told);
    }

-- a text that is accepted
pub accepted_last : (text : List ℕ) (start before : ℕ) (h : Head) (auditor new : Progress) (s : State)
    → StandsAt text start before h auditor → has_no_feed (drop start text) ≡ true
    → Reads auditor (drop start text) new → outcome_of new ≡ Ok s
    → (outcome_of (take_bytes fresh text) ≡ Ok s) × (before ≡ feed_count text)
accepted_last text start before h auditor new s stands plain reads fine =
    let line = drop start text in
    let read : new ≡ take_bytes (reading stands.phase []) line =
    outcome_without auditor new line s reads fine ∙ ap (λ (t : Progress). take_bytes t line) stands.read in
    let count : feed_count text ≡ feed_count (take start text) + feed_count line =
    ap feed_count (sym (take-append-drop start text)) ∙ feed_count-append (take start text) line in
    let none = none_in_line line plain in (
      ap outcome_of (read_rest text start (reading stands.phase []) new stands.came read) ∙ fine,
      omega (arith, count, none, stands.counted),
    )

-- the lines of a plan without fault and of a journal are few
queue_few : (o : Option Queue) → queue_count o ≤ 1
queue_few None = omega arith
queue_few (Some q) = omega arith

pub few_lines : (s : State) → IsPlan s.plan → length s.entries ≤ most_entries → HasFewLines s
few_lines s plan few = let one = queue_few s.plan.queue in omega (arith, one, plan.few_owned, plan.few_buffers, few)

-- ---- the result of the search

pub found_holds : (text : List ℕ) (e : TraceError) (f : FaultyLine) → (IsOfText e → IsFaultIn text f)
    → IfOk (found_of e f) (IsFound text)
found_holds text refusal.BadMagic f h = h tt
found_holds text (refusal.BadLine n) f h = h tt
found_holds text (refusal.LineTooLong n) f h = h tt
found_holds text (refusal.Refused n) f h = h tt
found_holds text (refusal.WrongAnswer n) f h = h tt
found_holds text refusal.Truncated f h = h tt
found_holds text refusal.Read f h = tt
found_holds text refusal.Write f h = tt
found_holds text refusal.Memory f h = tt

pub found_not : (e : TraceError) (f : FaultyLine) → IfErr (found_of e f) (λ x. x ≡ refusal.Memory)
found_not refusal.BadMagic f = tt
found_not (refusal.BadLine n) f = tt
found_not (refusal.LineTooLong n) f = tt
found_not (refusal.Refused n) f = tt
found_not (refusal.WrongAnswer n) f = tt
found_not refusal.Truncated f = tt
found_not refusal.Read f = refl
found_not refusal.Write f = refl
found_not refusal.Memory f = refl
