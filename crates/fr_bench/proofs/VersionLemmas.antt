-- The version of a text is that of its head, and the first line of version 4 is a fault in every other version.
use Rattle.std.proofs.Common.{◌≡◌, ℕ, zero, suc, ◌≤◌, ◌<◌, true, false, List, [], ◌++◌, length, take, drop}
use Rattle.std.proofs.Common.{inl, inr, refl, sym, ap, subst, ◌∙◌, append-nil}
use Rattle.std.proofs.Common.{arith, take-append-drop}
use Rattle.std.proofs.lemmas.Bool.{and_from, and_parts, cases_Bool, ltb-true, ltb-false}
use Rattle.std.proofs.lemmas.List.{take-append-le, take-take, take_at}
use Rattle.std.proofs.lemmas.List.Folds.{fold_stays}
use Rattle.std.proofs.lemmas.List.Sums.{fold-append}
use Rattle.std.proofs.lemmas.Slice.Eq.{bytes_eq-Decides}
use Rattle.std.specs.Prelude.{nat_lt}
use Rattle.std.specs.Str.{bytes_eq}
use Rattle.fr_auditing.proofs.LongTextLemmas.{parts_are}
use Rattle.fr_auditing.specs.LongText.{long_head_text, long_text}
use Rattle.fr_bench.specs.LongStops.{LongHasNoFault}
use Rattle.fr_bench.specs.Versions.{is_later, is_open}
use Rattle.fr_interface.specs.State.{State, IsNodeInterface}
use Rattle.fr_lines.specs.Reading.{version_in}
use Rattle.fr_trace.proofs.OutcomeLemmas.{legal_outcome}
use Rattle.fr_trace.specs.Audit.{HasNoFault}
use Rattle.fr_trace.specs.declared.error.TraceError.TheVariants.{BadMagic}
use Rattle.fr_trace.specs.Stream.{failed, fresh, take_byte, take_bytes, outcome_of}
use Rattle.fr_trace.specs.TraceText.{IsTraceOf}

-- ---- what the first bytes decide

later_is : (text : List ℕ) → is_later text ≡ true → long_head_text ≡ take 10 text
later_is text later = (bytes_eq-Decides long_head_text (take 10 text)).0 later

pub later_from : (text rest : List ℕ) → text ≡ long_head_text ++ rest → is_later text ≡ true
later_from text rest is = ap is_later is

same_first : (text head : List ℕ) → take 10 text ≡ take 10 head → is_later text ≡ is_later head
same_first text head same = ap (bytes_eq long_head_text) same

few_of : (n : ℕ) → nat_lt n 10 ≡ true → n < 10
few_of n few = ltb-true n 10 few

many_of : (n : ℕ) → nat_lt n 10 ≡ false → 10 ≤ n
many_of n many = ltb-false n 10 many

-- a short front of a text of version 4 is a front of its first line
front_of : (head rest : List ℕ) → length head ≤ 10 → is_later (head ++ rest) ≡ true
    → head ≡ take (length head) long_head_text
front_of head rest few later =
    sym (ap (take (length head)) (later_is (head ++ rest) later)
    ∙ take-take (length head) 10 (head ++ rest) few ∙ take_at head rest (length head) refl)

-- a front that isn't open has the version of the text
pub decided : (text head rest : List ℕ) → text ≡ head ++ rest → is_open head ≡ false → is_later text ≡ is_later head
decided text head rest is shut = ap is_later is ∙ elim (cases_Bool (nat_lt (length head) 10)) [
  | inr many ↦ same_first (head ++ rest) head (take-append-le 10 head rest (many_of (length head) many))
  | inl few ↦ no_front few
]
  where
    not_later : nat_lt (length head) 10 ≡ true → (rest : List ℕ) → is_later (head ++ rest) ≡ true → ⊥
    not_later few rest later =
        let same : head ≡ take (length head) long_head_text =
        front_of head rest (omega (arith, few_of (length head) few)) later in
        let opened : is_open head ≡ true =
        and_from _ _ few ((bytes_eq-Decides head (take (length head) long_head_text)).1 same) in
        cc (sym opened ∙ shut)

    no_front : nat_lt (length head) 10 ≡ true → is_later (head ++ rest) ≡ is_later head
    no_front few = elim (cases_Bool (is_later (head ++ rest))) [
      | inl later ↦ absurd (not_later few rest later)
      | inr other ↦ other ∙ sym (elim (cases_Bool (is_later head)) [
        | inl later ↦ absurd (not_later few [] (ap is_later (append-nil head) ∙ later))
        | inr not ↦ not
      ])
    ]

-- the whole text has its own version
pub whole_head : (text head : List ℕ) → text ≡ head → is_later text ≡ is_later head
whole_head text head is = ap is_later is

-- ---- a front of the first line has no fault

no_fault_at : (k : ℕ) → k < 10 → HasNoFault (take k long_head_text) × LongHasNoFault (take k long_head_text)
no_fault_at zero few = (refl, refl)
no_fault_at (suc zero) few = (refl, refl)
no_fault_at (suc (suc zero)) few = (refl, refl)
no_fault_at (suc (suc (suc zero))) few = (refl, refl)
no_fault_at (suc (suc (suc (suc zero)))) few = (refl, refl)
no_fault_at (suc (suc (suc (suc (suc zero))))) few = (refl, refl)
no_fault_at (suc (suc (suc (suc (suc (suc zero)))))) few = (refl, refl)
no_fault_at (suc (suc (suc (suc (suc (suc (suc zero))))))) few = (refl, refl)
no_fault_at (suc (suc (suc (suc (suc (suc (suc (suc zero)))))))) few = (refl, refl)
no_fault_at (suc (suc (suc (suc (suc (suc (suc (suc (suc zero))))))))) few = (refl, refl)
no_fault_at (suc (suc (suc (suc (suc (suc (suc (suc (suc (suc k)))))))))) few =
    absurd (let none : ⊥ = omega (arith, few) in none)

pub open_faultless : (head : List ℕ) → is_open head ≡ true → HasNoFault head × LongHasNoFault head
open_faultless head opened =
    let parts = and_parts (nat_lt (length head) 10) (bytes_eq head (take (length head) long_head_text)) opened in
    let same : head ≡ take (length head) long_head_text =
    (bytes_eq-Decides head (take (length head) long_head_text)).0 parts.1 in
    subst (λ (l : List ℕ). HasNoFault l × LongHasNoFault l) (sym same)
    (no_fault_at (length head) (few_of (length head) parts.0))

pub open_short : (head : List ℕ) → is_open head ≡ true → length head < 10
open_short head opened =
    few_of (length head)
    (and_parts (nat_lt (length head) 10) (bytes_eq head (take (length head) long_head_text)) opened).0

-- ---- texts of interfaces

later_text : (text : List ℕ) → is_later text ≡ true → text ≡ long_head_text ++ drop 10 text
later_text text later =
    sym (take-append-drop 10 text) ∙ ap (λ (l : List ℕ). l ++ drop 10 text) (sym (later_is text later))

other_line : take_bytes fresh long_head_text ≡ failed BadMagic
unfolding version_in
other_line = refl

later_fails : (text : List ℕ) → is_later text ≡ true → take_bytes fresh text ≡ failed BadMagic
later_fails text later =
    ap (take_bytes fresh) (later_text text later) ∙ fold-append take_byte fresh long_head_text (drop 10 text)
    ∙ ap (λ s. take_bytes s (drop 10 text)) other_line
    ∙ fold_stays take_byte (failed BadMagic) (λ _. refl) (drop 10 text)

-- a text of versions 1 to 3
pub earlier_version : (text : List ℕ) (s : State) → IsNodeInterface s → IsTraceOf s text → is_later text ≡ false
earlier_version text s is trace = elim (cases_Bool (is_later text)) [
  | inr other ↦ other
  | inl later ↦ absurd (cc (sym (legal_outcome text s is trace) ∙ ap outcome_of (later_fails text later)))
]

-- a text of version 4
pub later_version : (text : List ℕ) (s : State) → text ≡ long_text s → is_later text ≡ true
later_version text s is = ap is_later (is ∙ parts_are long_head_text s)
