-- The number that an error names is that of the line after the whole lines before it.
use Rattle.std.proofs.Common.{◌≡◌, ℕ, ◌+◌, ◌≤◌, ◌==◌, true, not, List, [], ◌∷◌, ◌++◌, length, Option, Some, None}
use Rattle.std.proofs.Common.{inl, inr, ◌⊎◌, refl, sym, ap, ◌∙◌, subst, arith, cond, append_assoc, zero-add}
use Rattle.std.proofs.lemmas.Bool.{and_parts, cases_Bool}
use Rattle.std.proofs.lemmas.List.Sums.{fold-append, sum_by-cons}
use Rattle.std.specs.Prelude.{IfSome}
use Rattle.fr_text.specs.Plain.{is_feed, has_no_feed}
use Rattle.fr_trace.specs.Audit.{HasNoFault}
use Rattle.fr_trace.specs.declared.error.TraceError.{TraceError}
use Rattle.fr_trace.specs.Refusals.{feed_count, line_of_error, IsFirstFault, NamesItsLine}
use Rattle.fr_trace.specs.Stream.{Progress, failed, fresh, take_byte, take_bytes, answer_of}
use Rattle.fr_trace.proofs.CutLemmas.{stays_failed}

-- ---- line feeds

feed_count-cons : (b : ℕ) (bytes : List ℕ) → feed_count (b ∷ bytes) ≡ cond (b == 10) 1 0 + feed_count bytes
feed_count-cons b bytes = sum_by-cons (λ x. cond (x == 10) 1 0) b bytes

pub feed_count-append : (front back : List ℕ) → feed_count (front ++ back) ≡ feed_count front + feed_count back
feed_count-append [] back = sym (zero-add (feed_count back))
feed_count-append (b ∷ front) back =
    let more = feed_count-append front back in
    omega (arith, more, feed_count-cons b (front ++ back), feed_count-cons b front)

pub none_in_line : (line : List ℕ) → has_no_feed line ≡ true → feed_count line ≡ 0
none_in_line [] plain = refl
none_in_line (b ∷ line) plain =
    let parts = and_parts (not (is_feed b)) (has_no_feed line) plain in
    elim (cases_Bool (b == 10)) [
      | inl feed ↦ cc (sym parts.0 ∙ ap not feed)
      | inr other ↦
          let more = none_in_line line parts.1 in
          feed_count-cons b line ∙ rw other (omega (arith, more))
    ]

-- ---- two ways to cut a list

-- the first cut is after the other, or it isn't
abbrev Cut : List ℕ → List ℕ → List ℕ → List ℕ → Type 0
Cut front rest before after =
    ((more : List ℕ) × (front ≡ before ++ more) × (after ≡ more ++ rest)) ⊎
    ((more : List ℕ) × (before ≡ front ++ more) × (rest ≡ more ++ after))

cut_more : (b c : ℕ) (front rest before after : List ℕ) → b ≡ c → Cut front rest before after
    → Cut (b ∷ front) rest (c ∷ before) after
cut_more b c front rest before after same (inl (more, x, y)) =
    inl (more, ap (λ (t : List ℕ). b ∷ t) x ∙ ap (λ (d : ℕ). d ∷ (before ++ more)) same, y)
cut_more b c front rest before after same (inr (more, x, y)) =
    inr (more, ap (λ (t : List ℕ). c ∷ t) x ∙ ap (λ (d : ℕ). d ∷ (front ++ more)) (sym same), y)

cut : (front rest before after : List ℕ) → front ++ rest ≡ before ++ after → Cut front rest before after
cut [] rest before after same = inr (before, refl, same)
cut (b ∷ front) rest [] after same = inl (b ∷ front, refl, sym same)
cut (b ∷ front) rest (c ∷ before) after same = cut_more b c front rest before after (cc same)
    (cut front rest before after (cc same))

-- ---- the byte at which the fault shows

-- the bytes before it have no line feed, if it stands in the line or ends the line
no_feed_before : (line tail l : List ℕ) (b : ℕ) (after : List ℕ) → has_no_feed line ≡ true → length tail ≤ 1
    → line ++ tail ≡ l ++ b ∷ after → feed_count l ≡ 0
no_feed_before line tail [] b after plain short same = refl
no_feed_before [] tail (c ∷ []) b after plain short same = let long =
    ap length same in absurd (omega (arith, long, short))
no_feed_before [] tail (c ∷ d ∷ l) b after plain short same = let long =
    ap length same in absurd (omega (arith, long, short))
no_feed_before (d ∷ line) tail (c ∷ l) b after plain short same =
    let parts = and_parts (not (is_feed d)) (has_no_feed line) plain in
    let more = no_feed_before line tail l b after parts.1 short (cc same) in
    let is : d ≡ c = cc same in
    elim (cases_Bool (c == 10)) [
      | inl feed ↦ cc (sym parts.0 ∙ ap not (ap (λ (x : ℕ). x == 10) is ∙ feed))
      | inr other ↦ feed_count-cons c l ∙ rw other (omega (arith, more))
    ]

-- no fault has shown in bytes that continue after the byte at which one shows
not_behind : (e : TraceError) (front before : List ℕ) (b : ℕ) (more : List ℕ) → HasNoFault front
    → take_bytes fresh (before ++ b ∷ []) ≡ failed e → front ≡ before ++ b ∷ more → ⊥
not_behind e front before b more none shown is =
    let whole : front ≡ (before ++ b ∷ []) ++ more = is ∙ sym (append_assoc before (b ∷ []) more) in
    let bad : take_bytes fresh front ≡ failed e =
    ap (take_bytes fresh) whole ∙ (fold-append take_byte fresh (before ++ b ∷ []) more ∙
    (ap (λ (s : Progress). take_bytes s more) shown ∙ stays_failed e more)) in
    cc (sym none ∙ ap answer_of bad)

abbrev IsNamed : TraceError → List ℕ → Type 0
IsNamed e front = IfSome (line_of_error e) (λ n. n ≡ feed_count front + 1)

by_cut : (e : TraceError) (front line tail before : List ℕ) (b : ℕ) (after : List ℕ) → HasNoFault front
    → has_no_feed line ≡ true → length tail ≤ 1
    → IsFirstFault e (front ++ (line ++ tail)) before b after → Cut front (line ++ tail) before (b ∷ after)
    → IsNamed e front
by_cut e front line tail before b after none plain short fault (inl ([], x, y)) =
    let both : feed_count front ≡ feed_count before + 0 = ap feed_count x ∙ feed_count-append before [] in
    let same : feed_count before + 1 ≡ feed_count front + 1 = omega (arith, both) in
    subst (λ (k : ℕ). IfSome (line_of_error e) (λ n. n ≡ k)) same fault.line
by_cut e front line tail before b after none plain short fault (inl (c ∷ more, x, y)) =
    let is : b ≡ c = cc y in
    absurd (not_behind e front before b more none fault.shown (x ∙ ap (λ (d : ℕ). before ++ d ∷ more) (sym is)))
by_cut e front line tail before b after none plain short fault (inr (more, x, y)) =
    let nothing = no_feed_before line tail more b after plain short y in
    let both = ap feed_count x ∙ feed_count-append front more in
    let same : feed_count before + 1 ≡ feed_count front + 1 = omega (arith, both, nothing) in
    subst (λ (k : ℕ). IfSome (line_of_error e) (λ n. n ≡ k)) same fault.line

with_number : {P : Type 0} (Q : ℕ → Type 0) (o : Option ℕ) → IfSome o (λ n. P) → (P → IfSome o Q) → IfSome o Q
with_number Q None h f = tt
with_number Q (Some n) h f = f h

-- a fault that shows in this line, or at its end, names the line
pub line_named : (e : TraceError) (front line tail : List ℕ) → HasNoFault front → has_no_feed line ≡ true
    → length tail ≤ 1 → NamesItsLine e (front ++ (line ++ tail)) → IsNamed e front
line_named e front line tail none plain short named =
    with_number (λ n. n ≡ feed_count front + 1) (line_of_error e) named (λ found.
    let (before, b, after, fault) = found in
    by_cut e front line tail before b after none plain short fault
    (cut front (line ++ tail) before (b ∷ after) fault.parts))
