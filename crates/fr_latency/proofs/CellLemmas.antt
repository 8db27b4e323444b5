-- The bits of cells, after cells were added to them.
use Rattle.std.proofs.Common.{◌≡◌, ℕ, ◌+◌, ◌*◌, ◌-◌, ◌^◌, ◌%◌, ◌<◌, ◌≤◌, ◌≢◌, max, min, Bool, true, false, ◌&&◌, ◌||◌}
use Rattle.std.proofs.Common.{eqb, leb, ltb}
use Rattle.std.proofs.Common.{List, length, get_or, set, get_or-set_other, get_or-set_same, refl, sym, ap, ◌∙◌, arith}
use Rattle.std.proofs.Common.{inl, inr}
use Rattle.std.proofs.Common.{w64, subst}
use Rattle.std.specs.Int.{bit_at}
use Rattle.std.specs.List.{list_any}
use Rattle.std.proofs.lemmas.List.Folds.{list_any_more}
use Rattle.std.proofs.lemmas.List.{take_all}
use Rattle.std.proofs.Common.{take, replicate}
use Rattle.std.proofs.lemmas.Grind.{common_steps}
use Rattle.std.proofs.lemmas.List.{length-replicate}
use Rattle.std.specs.Prelude.{bit_and, bit_or}
use Rattle.std.proofs.lemmas.Bool.{cases_lt, cases_eq, eq-eqb, ne_eqb, lt-ltb, le-ltb, le-leb, lt-leb}
use Rattle.std.proofs.lemmas.Bool.Decides.{nat_tests}
use Rattle.std.proofs.lemmas.Nat.Bits.{bit_at_or, bit_at_and, bit_at-lt, bit_at_set_same, bit_at_set_other, bit_at-zero}
use Rattle.std.proofs.lemmas.Nat.Bits.{bit_at_ones}
use Rattle.fr_slots.specs.Admission.{CycleClass, cycle_admitted}
use Rattle.fr_slots.specs.Numbers.{cycle_count}
use Rattle.fr_latency.specs.Cells.{has_bit, IsMask, HasBits, IsAdded, BeginsAbove, AddsTo, CycleTest}

-- ---- one bit

or_tests : (x y : ℕ) → x < 2 → y < 2 → eqb (max x y) 1 ≡ (eqb x 1 || eqb y 1)
or_tests x y few less = grind (arith, nat_tests)

and_tests : (x y : ℕ) → x < 2 → y < 2 → eqb (min x y) 1 ≡ (eqb x 1 && eqb y 1)
and_tests x y few less = grind (arith, nat_tests)

pub or_bit : (a b cycle : ℕ) → has_bit (bit_or a b) cycle ≡ (has_bit a cycle || has_bit b cycle)
or_bit a b cycle = ap (λ n. eqb n 1) (bit_at_or a b cycle)
    ∙ or_tests (bit_at a cycle) (bit_at b cycle) (bit_at-lt a cycle) (bit_at-lt b cycle)

pub and_bit : (a b cycle : ℕ) → has_bit (bit_and a b) cycle ≡ (has_bit a cycle && has_bit b cycle)
and_bit a b cycle = ap (λ n. eqb n 1) (bit_at_and a b cycle)
    ∙ and_tests (bit_at a cycle) (bit_at b cycle) (bit_at-lt a cycle) (bit_at-lt b cycle)

-- ---- one more cell

pub added_none : (from : List ℕ) (shift mask : ℕ) (old : List ℕ) → IsAdded from shift 0 mask old old
added_none from shift mask old = record {
  added = λ index less. absurd (omega arith);
  below = λ index less. refl;
  above = λ index more. refl;
}

added_here : (from : List ℕ) (shift count mask : ℕ) (old cells : List ℕ) → count + shift < length cells
    → IsAdded from shift count mask old cells
    → (index : ℕ) → index < count + 1
    → get_or (set cells (count + shift) (bit_or (get_or cells (count + shift) 0) (bit_and (get_or from count 0) mask)))
    (index + shift) 0
    ≡ bit_or (get_or old (index + shift) 0) (bit_and (get_or from index 0) mask)
added_here from shift count mask old cells within is index less =
    elim (cases_lt index count) as (λ _. get_or (set cells (count + shift)
    (bit_or (get_or cells (count + shift) 0) (bit_and (get_or from count 0) mask))) (index + shift) 0
    ≡ bit_or (get_or old (index + shift) 0) (bit_and (get_or from index 0) mask)) [
      | inl before ↦
          let apart : index + shift ≢ count + shift = omega arith in
          rw get_or-set_other (is.added index before)
      | inr after ↦
          let same : index ≡ count = omega arith in
          let kept : get_or cells (count + shift) 0 ≡ get_or old (count + shift) 0 = is.above (count + shift)
          (omega arith) in
          rw same (rw get_or-set_same (rw kept refl))
    ]

pub added_more : (from : List ℕ) (shift count mask : ℕ) (old cells : List ℕ) → count + shift < length cells
    → IsAdded from shift count mask old cells
    → IsAdded from shift (count + 1) mask old
    (set cells (count + shift) (bit_or (get_or cells (count + shift) 0) (bit_and (get_or from count 0) mask)))
added_more from shift count mask old cells within is = record {
  added = added_here from shift count mask old cells within is;
  below = λ index less. let apart : index ≢ count + shift = omega arith in rw get_or-set_other (is.below index less);
  above = λ index more. let apart : index ≢ count + shift = omega arith in
      rw get_or-set_other (is.above index (omega arith));
}

-- ---- the mask of a filter

-- the bits of the cycles below this number
abbrev pub IsMaskBelow : CycleClass → ℕ → ℕ → Type 0
IsMaskBelow cycles number mask = (cycle : ℕ) → cycle < cycle_count
    → has_bit mask cycle ≡ (ltb cycle number && cycle_admitted cycles cycle)

set_bit : (mask k cycle : ℕ) → k < 64
    → has_bit (bit_or mask (1 * 2 ^ k % 2 ^ 64)) cycle ≡ (eqb cycle k || has_bit mask cycle)
set_bit mask k cycle less =
    elim (cases_eq cycle k) as (λ _. has_bit (bit_or mask (1 * 2 ^ k % 2 ^ 64)) cycle
    ≡ (eqb cycle k || has_bit mask cycle)) [
      | inl same ↦
          let on : eqb cycle k ≡ true = eq-eqb cycle k same in
          let set : has_bit (bit_or mask (1 * 2 ^ k % 2 ^ 64)) k ≡ true =
          ap (λ n. eqb n 1) (bit_at_set_same w64 mask k less) in
          subst (λ (c : ℕ). has_bit (bit_or mask (1 * 2 ^ k % 2 ^ 64)) c ≡ true) (sym same) set
          ∙ ap (λ b. b || has_bit mask cycle) (sym on)
      | inr other ↦
          ap (λ n. eqb n 1) (bit_at_set_other w64 mask k less cycle other)
          ∙ ap (λ b. b || has_bit mask cycle) (sym (ne_eqb cycle k other))
    ]

admitted_more : (bit admitted : Bool) (k cycle : ℕ) → bit ≡ (ltb cycle k && admitted) → (cycle ≡ k → admitted ≡ true)
    → (eqb cycle k || bit) ≡ (ltb cycle (k + 1) && admitted)
admitted_more bit admitted k cycle is here = grind (arith, nat_tests)

refused_more : (bit admitted : Bool) (k cycle : ℕ) → bit ≡ (ltb cycle k && admitted) → (cycle ≡ k → admitted ≡ false)
    → bit ≡ (ltb cycle (k + 1) && admitted)
refused_more bit admitted k cycle is here = grind (arith, nat_tests)

pub mask_with : (cycles : CycleClass) (mask k : ℕ) → k < 64 → cycle_admitted cycles k ≡ true
    → IsMaskBelow cycles k mask
    → IsMaskBelow cycles (k + 1) (bit_or mask (1 * 2 ^ k % 2 ^ 64))
mask_with cycles mask k less admitted is = λ cycle within.
    set_bit mask k cycle less
    ∙ admitted_more (has_bit mask cycle) (cycle_admitted cycles cycle) k cycle (is cycle within)
    (λ same. ap (cycle_admitted cycles) same ∙ admitted)

pub mask_without : (cycles : CycleClass) (mask k : ℕ) → cycle_admitted cycles k ≡ false → IsMaskBelow cycles k mask
    → IsMaskBelow cycles (k + 1) mask
mask_without cycles mask k refused is = λ cycle within.
    refused_more (has_bit mask cycle) (cycle_admitted cycles cycle) k cycle (is cycle within)
    (λ same. ap (cycle_admitted cycles) same ∙ refused)

no_bit : (cycle : ℕ) → has_bit 0 cycle ≡ false
no_bit cycle = ap (λ n. eqb n 1) (bit_at-zero cycle)

pub mask_none : (cycles : CycleClass) → IsMaskBelow cycles 0 0
mask_none cycles = λ cycle within. no_bit cycle ∙ sym (ap (λ b. b && cycle_admitted cycles cycle) (le-ltb cycle 0
    (omega arith)))

pub mask_whole : (cycles : CycleClass) (mask : ℕ) → IsMaskBelow cycles 64 mask → IsMask cycles mask
mask_whole cycles mask is = λ cycle within.
    is cycle within ∙ ap (λ b. b && cycle_admitted cycles cycle) (lt-ltb cycle 64 within)

-- ---- the first cells

-- every cycle has its bit in the first cell, and no bit is set in the others
pub first_bits : (cells : List ℕ) → get_or cells 0 0 ≡ 2 ^ 64 - 1
    → ((index : ℕ) → 0 < index → get_or cells index 0 ≡ 0)
    → HasBits 1 (λ cycle minislot. eqb minislot 1) cells
first_bits cells full empty = λ index cycle less within.
    elim (cases_eq index 0) as (λ _. has_bit (get_or cells index 0) cycle ≡ eqb (1 + index) 1) [
      | inl same ↦
          let set : has_bit (get_or cells 0 0) cycle ≡ true = ap (λ n. has_bit n cycle) full
          ∙ ap (λ n. eqb n 1) (bit_at_ones 64 cycle within) in
          subst (λ (i : ℕ). has_bit (get_or cells i 0) cycle ≡ eqb (1 + i) 1) (sym same) set
      | inr other ↦
          ap (λ n. has_bit n cycle) (empty index (omega arith)) ∙ no_bit cycle
          ∙ sym (ne_eqb (1 + index) 1 (omega arith))
    ]

-- ---- a frame

-- the slot after a frame begins at this minislot, in a cycle that the frame's buffer admits
abbrev pub after_frame : ℕ → ℕ → CycleClass → (ℕ → ℕ → Bool) → ℕ → ℕ → Bool
after_frame latest size cycles test cycle minislot =
    cycle_admitted cycles cycle && (leb (minislot - size) latest && test cycle (minislot - size))

too_early : (kept admitted fits began : Bool) → began ≡ false → kept ≡ (kept || (admitted && (fits && began)))
too_early kept admitted fits began none = grind arith

too_late : (kept admitted fits began : Bool) → fits ≡ false → kept ≡ (kept || (admitted && (fits && began)))
too_late kept admitted fits began none = grind arith

in_time : (kept admitted fits began : Bool) → fits ≡ true → (kept || (began && admitted)) ≡ (kept || (admitted &&
    (fits && began)))
in_time kept admitted fits began all = grind arith

-- the cell of each minislot, after the cells before a frame were added to those of the next slot
frame_at : (earlier latest size shift count mask : ℕ) (cycles : CycleClass) (before old new : List ℕ)
    (test kept : ℕ → ℕ → Bool)
    → size ≡ shift + 1 → count ≡ latest - earlier → shift + count ≤ length old → length before ≡ length old
    → IsMask cycles mask → BeginsAbove earlier test → HasBits (earlier + 1) test before → HasBits (earlier + 2) kept old
    → IsAdded before shift count mask old new
    → (index cycle : ℕ) → index < length old → cycle < 64
    → has_bit (get_or new index 0) cycle
    ≡ (kept cycle (earlier + 2 + index) || after_frame latest size cycles test cycle (earlier + 2 + index))
frame_at earlier latest size shift count mask cycles before old new test kept is_size is_count room same masks
    above from
    into is index cycle less within =
    let m : ℕ = earlier + 2 + index in
    elim (cases_lt index shift) as (λ _. has_bit (get_or new index 0) cycle
    ≡ (kept cycle m || after_frame latest size cycles test cycle m)) [
      | inl before_shift ↦
          ap (λ n. has_bit n cycle) (is.below index before_shift) ∙ into index cycle less within
          ∙ too_early (kept cycle m) (cycle_admitted cycles cycle) (leb (m - size) latest) (test cycle (m - size))
          (above cycle (m - size) (omega arith))
      | inr from_shift ↦
          elim (cases_lt index (shift + count)) as (λ _. has_bit (get_or new index 0) cycle
          ≡ (kept cycle m || after_frame latest size cycles test cycle m)) [
            | inl inside ↦
                let place : ℕ = index - shift in
                let at : place + shift ≡ index = omega arith in
                let begin : earlier + 1 + place ≡ m - size = omega arith in
                let cell : get_or new index 0 ≡ bit_or (get_or old index 0) (bit_and (get_or before place 0) mask) =
                subst (λ (i : ℕ). get_or new i 0 ≡ bit_or (get_or old i 0) (bit_and (get_or before place 0) mask)) at
                (is.added place (omega arith)) in
                let began : has_bit (get_or before place 0) cycle ≡ test cycle (m - size) =
                from place cycle (omega arith) within ∙ ap (test cycle) begin in
                let both : has_bit (bit_and (get_or before place 0) mask) cycle
                ≡ (test cycle (m - size) && cycle_admitted cycles cycle) =
                and_bit (get_or before place 0) mask cycle
                ∙ ap (λ b. b && has_bit mask cycle) began
                ∙ ap (λ b. test cycle (m - size) && b) (masks cycle within) in
                ap (λ n. has_bit n cycle) cell
                ∙ or_bit (get_or old index 0) (bit_and (get_or before place 0) mask) cycle
                ∙ ap (λ b. b || has_bit (bit_and (get_or before place 0) mask) cycle) (into index cycle less within)
                ∙ ap (λ b. kept cycle m || b) both
                ∙ in_time (kept cycle m) (cycle_admitted cycles cycle) (leb (m - size) latest) (test cycle (m - size))
                (le-leb (m - size) latest (omega arith))
            | inr behind ↦
                ap (λ n. has_bit n cycle) (is.above index behind) ∙ into index cycle less within
                ∙ too_late (kept cycle m) (cycle_admitted cycles cycle) (leb (m - size) latest) (test cycle (m - size))
                (lt-leb (m - size) latest (omega arith))
          ]
    ]

pub frame_added : (earlier latest size shift count mask : ℕ) (cycles : CycleClass) (before old new : List ℕ)
    (test kept : ℕ → ℕ → Bool)
    → size ≡ shift + 1 → count ≡ latest - earlier → shift + count ≤ length old → length before ≡ length old
    → length new ≡ length old
    → IsMask cycles mask → BeginsAbove earlier test → HasBits (earlier + 1) test before → HasBits (earlier + 2) kept old
    → IsAdded before shift count mask old new
    → HasBits (earlier + 2) (λ cycle minislot. kept cycle minislot || after_frame latest size cycles test cycle
    minislot)
    new
frame_added earlier latest size shift count mask cycles before old new test kept is_size is_count room same keeps masks
    above from into is = λ index cycle less within.
    frame_at earlier latest size shift count mask cycles before old new test kept is_size is_count room same masks above
    from into is index cycle (omega arith) within

-- ---- what is added to a slot's cells

nothing_more : (kept further : Bool) → further ≡ false → kept ≡ (kept || further)
nothing_more kept further none = grind arith

or_groups : (a b c : Bool) → ((a || b) || c) ≡ (a || (b || c))
or_groups a b c = grind arith

pub bits_same : (first : ℕ) (test other : CycleTest) (cells : List ℕ)
    → ((cycle minislot : ℕ) → test cycle minislot ≡ other cycle minislot) → HasBits first test cells
    → HasBits first other cells
bits_same first test other cells same is = λ index cycle less within.
    is index cycle less within ∙ same cycle (first + index)

pub adds_nothing : (earlier : ℕ) (further : CycleTest → CycleTest) (before cells : List ℕ)
    → ((test : CycleTest) (cycle minislot : ℕ) → further test cycle minislot ≡ false)
    → AddsTo earlier further before cells cells
adds_nothing earlier further before cells none = λ test kept above from into.
    bits_same (earlier + 2) kept (λ cycle minislot. kept cycle minislot || further test cycle minislot) cells
    (λ cycle minislot. nothing_more (kept cycle minislot) (further test cycle minislot) (none test cycle minislot)) into

pub adds_same : (earlier : ℕ) (further other : CycleTest → CycleTest) (before old new : List ℕ)
    → ((test : CycleTest) (cycle minislot : ℕ) → further test cycle minislot ≡ other test cycle minislot)
    → AddsTo earlier further before old new → AddsTo earlier other before old new
adds_same earlier further other before old new same adds = λ test kept above from into.
    bits_same (earlier + 2) (λ cycle minislot. kept cycle minislot || further test cycle minislot)
    (λ cycle minislot. kept cycle minislot || other test cycle minislot) new
    (λ cycle minislot. ap (λ b. kept cycle minislot || b) (same test cycle minislot)) (adds test kept above from into)

pub adds_more : (earlier : ℕ) (further other : CycleTest → CycleTest) (before old mid new : List ℕ)
    → AddsTo earlier further before old mid → AddsTo earlier other before mid new
    → AddsTo earlier (λ test cycle minislot. further test cycle minislot || other test cycle minislot) before old new
adds_more earlier further other before old mid new first second = λ test kept above from into.
    bits_same (earlier + 2)
    (λ cycle minislot. (kept cycle minislot || further test cycle minislot) || other test cycle minislot)
    (λ cycle minislot. kept cycle minislot || (further test cycle minislot || other test cycle minislot)) new
    (λ cycle minislot. or_groups (kept cycle minislot) (further test cycle minislot) (other test cycle minislot))
    (second test (λ cycle minislot. kept cycle minislot || further test cycle minislot) above from
    (first test kept above from into))

-- one more item of a list
pub adds_item : {X : Type 0} (earlier : ℕ) (further : X → CycleTest → CycleTest) (before old mid new : List ℕ)
    (xs : List X) (i : ℕ) (x : X) → i < length xs → x ≡ get_or xs i x
    → AddsTo earlier (λ test cycle minislot. list_any (λ y. further y test cycle minislot) (take i xs)) before old mid
    → AddsTo earlier (further x) before mid new
    → AddsTo earlier (λ test cycle minislot. list_any (λ y. further y test cycle minislot) (take (i + 1) xs)) before old
    new
adds_item earlier further before old mid new xs i x within is first second =
    adds_same earlier
    (λ test cycle minislot. list_any (λ y. further y test cycle minislot) (take i xs) || further x test cycle minislot)
    (λ test cycle minislot. list_any (λ y. further y test cycle minislot) (take (i + 1) xs)) before old new
    (λ test cycle minislot.
    ap (λ y. list_any (λ z. further z test cycle minislot) (take i xs) || further y test cycle minislot) is
    ∙ sym (list_any_more (λ y. further y test cycle minislot) xs i x within))
    (adds_more earlier (λ test cycle minislot. list_any (λ y. further y test cycle minislot) (take i xs)) (further x)
    before old mid new first second)

pub adds_items : {X : Type 0} (earlier : ℕ) (further : X → CycleTest → CycleTest) (before old new : List ℕ)
    (xs : List X) (i : ℕ) → length xs ≤ i
    → AddsTo earlier (λ test cycle minislot. list_any (λ y. further y test cycle minislot) (take i xs)) before old new
    → AddsTo earlier (λ test cycle minislot. list_any (λ y. further y test cycle minislot) xs) before old new
adds_items {X} earlier further before old new xs i all adds =
    subst (λ (ys : List X). AddsTo earlier (λ test cycle minislot. list_any (λ y. further y test cycle minislot) ys)
    before old new) (take_all i xs all) adds

abbrev zeros_of : ℕ → List ℕ
zeros_of n = replicate n 0

zero_at : (n i : ℕ) → get_or (zeros_of n) i 0 ≡ 0
zero_at n i = grind (arith, common_steps)

pub first_set : (cells : List ℕ) (width : ℕ) → cells ≡ replicate width 0 → 1 ≤ width
    → HasBits 1 (λ cycle minislot. eqb minislot 1) (set cells 0 18446744073709551615)
first_set cells width zeros some =
    let full : 2 ^ 64 - 1 ≡ 18446744073709551615 = refl in
    let there : 0 < length cells = subst (λ (xs : List ℕ). 0 < length xs) (sym zeros)
    (omega (arith, length-replicate {A = ℕ} width 0, some)) in
    first_bits (set cells 0 18446744073709551615)
    (get_or-set_same cells 0 18446744073709551615 0 there ∙ sym full)
    (λ index more.
    get_or-set_other cells 0 index 18446744073709551615 0 (λ same. omega (arith, same, more))
    ∙ ap (λ (xs : List ℕ). get_or xs index 0) zeros ∙ zero_at width index)
