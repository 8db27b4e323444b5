-- Each transmission of a recorded window is heard with its end.
use Rattle.std.proofs.Common.{◌≡◌, ℕ, ◌≤◌, ◌<◌, inl, inr, Bool, true, false, cond, ltb, List, [], ◌∷◌, ◌++◌, length}
use Rattle.std.proofs.Common.{Option, Some, None, refl, sym, ap, ◌∙◌, arith, length-append}
use Rattle.std.specs.Prelude.{count_by}
use Rattle.std.specs.List.{filter}
use Rattle.std.proofs.lemmas.Bool.{cases_Bool, ltb-true, ltb-false}
use Rattle.std.proofs.lemmas.List.Sums.{length-filter}
use Rattle.arrayvec.specs.ArrayVec.{ArrayVec}
use Rattle.fr_bus.specs.Corruption.{corrupted}
use Rattle.fr_bus.specs.declared.outcome.Sent.{Sent}
use Rattle.fr_bus.specs.declared.outcome.SentFate.{SentFate}
use Rattle.fr_bus.specs.declared.outcome.SentFate.TheVariants as fate
use Rattle.fr_bus.specs.Outcome.{all_passed, heard_of, overruns, passed_on}
use Rattle.fr_bus.specs.Record.{Recorded, corrupt_on, heard}
use Rattle.fr_concord.specs.Ends.{IsHeardWith, AreEndsHeard}
use Rattle.fr_guarantees.proofs.HeardLemmas.{same_channel}
use Rattle.fr_runs.specs.Effects.{is_turned}
use Rattle.fr_showing.specs.Ends.{end_alone, end_by}
use Rattle.fr_slots.specs.Parameters.{Parameters}
use Rattle.fr_slots.specs.Windows.{Opportunity}
use Rattle.fr_status.specs.declared.seen.Seen.TheVariants as seen

filtered : (f : Sent → Bool) (before : List Sent) (t : Sent) (after : List Sent) → f t ≡ true
    → filter f (before ++ t ∷ after) ≡ filter f before ++ t ∷ filter f after
filtered f [] t after taken = rw taken refl
filtered f (x ∷ before) t after taken =
    elim (cases_Bool (f x)) [
      | inl here ↦ rw here (ap (λ (l : List Sent). x ∷ l) (filtered f before t after taken))
      | inr other ↦ rw other (filtered f before t after taken)
    ]

collided : (p : Parameters) (w : Opportunity) (corrupt : Option ℕ) (xs : List Sent) (t : Sent) (ys : List Sent)
    → 1 < length (xs ++ t ∷ ys) → heard_of p w corrupt (xs ++ t ∷ ys) ≡ seen.Noise
collided p w corrupt [] t [] long = let none : ⊥ = omega (arith, long) in absurd none
collided p w corrupt [] t (u ∷ ys) long = refl
collided p w corrupt (x ∷ []) t ys long = refl
collided p w corrupt (x ∷ u ∷ xs) t ys long = refl

alone : (xs : List Sent) (t : Sent) (ys : List Sent) → length (xs ++ t ∷ ys) ≤ 1 → xs ++ t ∷ ys ≡ t ∷ []
alone [] t [] short = refl
alone [] t (u ∷ ys) short = let none : ⊥ = omega (arith, short) in absurd none
alone (x ∷ xs) t ys short =
    let none : ⊥ = omega (arith, short, length-append xs (t ∷ ys)) in absurd none

untouched : (bytes : ArrayVec ℕ) (corrupt : Option ℕ) → is_turned corrupt bytes.items ≡ false
    → corrupted bytes corrupt ≡ bytes
untouched bytes None none = refl
untouched bytes (Some bit) none = rw none refl

module _ (p : Parameters) (r : Recorded) (t : Sent) where
  told_turned : (corrupt : Option ℕ) → corrupt_on r t.channel ≡ corrupt → is_turned corrupt t.bytes.items ≡ true
      → heard p r t.channel ≡ seen.Bytes (corrupted t.bytes corrupt)
      → (bit : ℕ) × (corrupt_on r t.channel ≡ Some bit)
      × (heard p r t.channel ≡ seen.Bytes (corrupted t.bytes (Some bit)))
  told_turned None is turned is_heard = cc turned
  told_turned (Some bit) is turned is_heard = (bit, is, is_heard)

  told_alone : all_passed t.channel r.sent ≡ t ∷ [] → IsHeardWith p r t (end_alone p r t)
  told_alone only =
      let is : heard p r t.channel ≡ heard_of p r.window (corrupt_on r t.channel) (t ∷ []) =
      ap (heard_of p r.window (corrupt_on r t.channel)) only in
      elim (cases_Bool (overruns p r.window (length t.bytes.items))) [
        | inl long ↦ rw long (is ∙ ap (λ (b : Bool). cond b seen.Overrun (seen.Bytes (corrupted t.bytes (corrupt_on r
            t.channel)))) long)
        | inr fits ↦
            let bytes : heard p r t.channel ≡ seen.Bytes (corrupted t.bytes (corrupt_on r t.channel)) =
            is ∙ ap (λ (b : Bool). cond b seen.Overrun (seen.Bytes (corrupted t.bytes (corrupt_on r t.channel))))
            fits in
            rw fits (elim (cases_Bool (is_turned (corrupt_on r t.channel) t.bytes.items)) [
              | inl turned ↦ rw turned (told_turned (corrupt_on r t.channel) refl turned bytes)
              | inr none ↦ rw none (bytes ∙ ap seen.Bytes (untouched t.bytes (corrupt_on r t.channel) none))
            ])
      ]

  told : (before after : List Sent) → r.sent ≡ before ++ t ∷ after → (f : SentFate) → t.fate ≡ f
      → IsHeardWith p r t (end_by f p r t)
  told before after is fate.Muted lost = lost
  told before after is fate.Blocked lost = lost
  told before after is fate.Passed passed =
      let xs = filter (passed_on t.channel) before in
      let ys = filter (passed_on t.channel) after in
      let here : passed_on t.channel t ≡ true = rw (same_channel t.channel, passed) refl in
      let all : all_passed t.channel r.sent ≡ xs ++ t ∷ ys =
      ap (filter (passed_on t.channel)) is ∙ filtered (passed_on t.channel) before t after here in
      let count : length (xs ++ t ∷ ys) ≡ count_by (passed_on t.channel) r.sent =
      sym (ap length all) ∙ length-filter (passed_on t.channel) r.sent in
      elim (cases_Bool (ltb 1 (count_by (passed_on t.channel) r.sent))) [
        | inl many ↦
            let more : 1 < count_by (passed_on t.channel) r.sent =
            ltb-true 1 (count_by (passed_on t.channel) r.sent) many in
            let long : 1 < length (xs ++ t ∷ ys) = omega (arith, more, count) in
            rw many
            (ap (heard_of p r.window (corrupt_on r t.channel)) all
            ∙ collided p r.window (corrupt_on r t.channel) xs t ys long)
        | inr few ↦
            let least : count_by (passed_on t.channel) r.sent ≤ 1 =
            ltb-false 1 (count_by (passed_on t.channel) r.sent) few in
            let short : length (xs ++ t ∷ ys) ≤ 1 = omega (arith, least, count) in
            rw few (told_alone (all ∙ alone xs t ys short))
      ]

pub are_ends_heard : AreEndsHeard
are_ends_heard p r before t after is = told p r t before after is t.fate refl
