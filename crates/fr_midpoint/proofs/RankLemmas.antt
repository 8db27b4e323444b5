-- Places in ascending values are ranks, and each rank has one value.
use Rattle.std.proofs.Common.{◌≡◌, ℕ, zero, suc, ◌+◌, ◌-◌, ◌<◌, ◌≤◌, Bool, true, false, cond, List, [], ◌∷◌, length}
use Rattle.std.proofs.Common.{get_or, refl, sym, ap, subst, ◌∙◌, arith, inl, inr, Option, Some, None, ℤ, pos, negsuc}
use Rattle.std.proofs.Common.{◌+ℤ◌, ◌<ℤ◌, Less, Equal, Greater}
use Rattle.std.specs.Prelude.{count_by, int_lt, int_le, int_div, All, IfSome, IsNone, ◌↔◌}
use Rattle.std.specs.List.{list_any}
use Rattle.std.specs.List.Sorted.{IsPermutation, IsSorted}
use Rattle.std.specs.Ordering.{int_cmp, is_lt}
use Rattle.std.proofs.lemmas.Bool.{cases_lt}
use Rattle.std.proofs.lemmas.Bool.Decides.{nat_tests}
use Rattle.std.proofs.lemmas.Int.{ints, by_lt_z}
use Rattle.std.proofs.lemmas.Cmp.{int_cmp_total}
use Rattle.std.proofs.lemmas.List.Sorted.{sorted_far, ranks_by, sum_by-IsPermutation, list_any-IsPermutation}
use Rattle.std.proofs.lemmas.List.Sorted.{Contains-permutation, IsPermutation-sym, length_permutation}
use Rattle.std.proofs.lemmas.List.Sums.{sum_by-cons, sum_by-le-sum_by}
use Rattle.std.proofs.lemmas.List.Folds.{list_any_at}
use Rattle.std.proofs.lemmas.List.Elements.{Contains-get_or}
use Rattle.fr_midpoint.specs.declared.ranks.Midpoint.{Midpoint}
use Rattle.fr_midpoint.specs.Midpoint.{HasRank, dropped, IsHalf, IsMidpoint}
use Rattle.fr_midpoint.specs.Selection.{middle_of, value_at}

-- ---- counts

abbrev one_if : Bool → ℕ
one_if b = cond b 1 0

-- none passes from a place on
count_by-front : {X : Type 0} (p : X → Bool) (xs : List X) (d : X) (k : ℕ)
    → ((i : ℕ) → k ≤ i → i < length xs → p (get_or xs i d) ≡ false) → count_by p xs ≤ k
count_by-front p [] d k none = omega arith
count_by-front p (x ∷ xs) d zero none =
    let here : one_if (p x) ≡ 0 = ap one_if (none 0 (omega arith) (omega arith)) in
    omega (
      arith,
      here,
      sum_by-cons (λ y. cond (p y) 1 0) x xs,
      count_by-front p xs d 0 (λ i from in'. none (suc i) (omega arith) (omega arith)),
    )
count_by-front p (x ∷ xs) d (suc k) none =
    let here : one_if (p x) ≤ 1 = elim (p x) as (λ b. one_if b ≤ 1) [ true ↦ omega arith | false ↦ omega arith ] in
    omega (
      arith,
      here,
      sum_by-cons (λ y. cond (p y) 1 0) x xs,
      count_by-front p xs d k (λ i from in'. none (suc i) (omega arith) (omega arith)),
    )

-- all pass up to a place
count_by-upto : {X : Type 0} (p : X → Bool) (xs : List X) (d : X) (k : ℕ) → k < length xs
    → ((i : ℕ) → i ≤ k → p (get_or xs i d) ≡ true) → k + 1 ≤ count_by p xs
count_by-upto p [] d k in' all = absurd (omega arith)
count_by-upto p (x ∷ xs) d zero in' all =
    let here : one_if (p x) ≡ 1 = ap one_if (all 0 (omega arith)) in
    omega (arith, here, sum_by-cons (λ y. cond (p y) 1 0) x xs)
count_by-upto p (x ∷ xs) d (suc k) in' all =
    let here : one_if (p x) ≡ 1 = ap one_if (all 0 (omega arith)) in
    omega (
      arith,
      here,
      sum_by-cons (λ y. cond (p y) 1 0) x xs,
      count_by-upto p xs d k (omega arith) (λ i upto. all (suc i) (omega arith)),
    )

-- ---- ranks of ascending values

is_lt-int_cmp : (x y : ℤ) → is_lt (int_cmp x y) ≡ int_lt x y
is_lt-int_cmp x y = go (int_lt x y) (int_lt y x)
  where
    go : (a b : Bool) → is_lt (cond a Less (cond b Greater Equal)) ≡ a
    go true b = refl
    go false true = refl
    go false false = refl

not_below : (x y : ℤ) → int_lt y x ≡ false → int_le x y ≡ true
not_below x y h = grind (arith, ints)

ascends : (ys : List ℤ) → IsSorted int_cmp ys → (i j : ℕ) (d : ℤ) → i ≤ j → j < length ys
    → int_lt (get_or ys j d) (get_or ys i d) ≡ false
ascends ys sorted i j d le in' =
    sym (is_lt-int_cmp (get_or ys j d) (get_or ys i d)) ∙ sorted_far (λ x y. is_lt (int_cmp x y))
    (ranks_by int_cmp_total (λ x. x)) ys sorted i j d le in'

rank_at : (ys : List ℤ) → IsSorted int_cmp ys → (k : ℕ) (d : ℤ) → k < length ys → HasRank ys (k + 1) (get_or ys k d)
rank_at ys sorted k d in' =
    record {
      among = Contains-get_or ys k d in';
      few_below = omega (
        arith,
        count_by-front (λ y. int_lt y (get_or ys k d)) ys d k
            (λ i from inside. ascends ys sorted k i d from inside),
      );
      enough = count_by-upto (λ y. int_le y (get_or ys k d)) ys d k in'
          (λ i upto. not_below (get_or ys i d) (get_or ys k d) (ascends ys sorted i k d upto in'));
    }

rank_of_permutation : (xs ys : List ℤ) → IsPermutation xs ys → (rank : ℕ) (x : ℤ) → HasRank ys rank x
    → HasRank xs rank x
rank_of_permutation xs ys moved rank x h =
    record {
      among = Contains-permutation ys xs x (IsPermutation-sym xs ys moved) h.among;
      few_below = omega (arith, h.few_below, sum_by-IsPermutation (λ y. cond (int_lt y x) 1 0) xs ys moved);
      enough = omega (arith, h.enough, sum_by-IsPermutation (λ y. cond (int_le y x) 1 0) xs ys moved);
    }

-- ---- a rank has one value

one_if-le : (a b : Bool) → (a ≡ true → b ≡ true) → one_if a ≤ one_if b
one_if-le true b h = rw (h refl) (omega arith)
one_if-le false b h = omega arith

before_both : (x y z : ℤ) → x <ℤ y → int_le z x ≡ true → int_lt z y ≡ true
before_both x y z less h = grind (arith, ints)

counted_before : (x y z : ℤ) → x <ℤ y → one_if (int_le z x) ≤ one_if (int_lt z y)
counted_before x y z less = one_if-le (int_le z x) (int_lt z y) (before_both x y z less)

rank_less : (xs : List ℤ) (rank : ℕ) (x y : ℤ) → HasRank xs rank x → HasRank xs rank y → x <ℤ y → ⊥
rank_less xs rank x y h k less =
    omega (
      arith,
      h.enough,
      k.few_below,
      sum_by-le-sum_by (λ z. cond (int_le z x) 1 0) (λ z. cond (int_lt z y) 1 0) xs
          (λ z. counted_before x y z less),
    )

rank-same : (xs : List ℤ) (rank : ℕ) (x y : ℤ) → HasRank xs rank x → HasRank xs rank y → x ≡ y
rank-same xs rank x y h k =
    by_lt_z x y (λ less. absurd (rank_less xs rank x y h k less))
    (λ y_first. by_lt_z y x (λ less. absurd (rank_less xs rank y x k h less)) (λ x_first. omega (arith, ints)))

-- ---- halves

half_is : (s : ℤ) → IsHalf s (int_div s (pos 2))
half_is (pos n) = record { near = omega (arith, ints); no_farther = omega (arith, ints) }
half_is (negsuc n) = record { near = omega (arith, ints); no_farther = omega (arith, ints) }

half-same : (s v w : ℤ) → IsHalf s v → IsHalf s w → v ≡ w
half-same s v w h k = omega (arith, ints)

-- ---- the midpoint of the values, from their places in ascending order

dropped_room : (count : ℕ) → 0 < count → dropped count + dropped count < count
dropped_room count some = grind (arith, nat_tests)

middle_record : List ℤ → Midpoint
middle_record ys =
    record {
      value = int_div (value_at ys (dropped (length ys)) +ℤ value_at ys (length ys - 1 - dropped (length ys))) (pos 2);
      low_rank = dropped (length ys) + 1;
      high_rank = length ys - dropped (length ys);
    }

middle_none : (ys : List ℤ) → length ys ≡ 0 → middle_of ys ≡ None
middle_none ys none = grind (arith, nat_tests)

middle_some : (ys : List ℤ) → 0 < length ys → middle_of ys ≡ Some (middle_record ys)
unfolding middle_record
middle_some ys some = grind (arith, nat_tests)

middle_is : (xs ys : List ℤ) → IsPermutation xs ys → IsSorted int_cmp ys → 0 < length ys
    → IsMidpoint xs (middle_record ys)
unfolding middle_record
middle_is xs ys moved sorted some =
    let same : length ys ≡ length xs = length_permutation xs ys moved in
    let k = dropped (length ys) in
    let room : k + k < length ys = dropped_room (length ys) some in
    let top : length ys - 1 - k + 1 ≡ length ys - k = omega arith in
    record {
      low = value_at ys k;
      high = value_at ys (length ys - 1 - k);
      low_rank_is = ap (λ n. dropped n + 1) same;
      high_rank_is = ap (λ n. n - dropped n) same;
      low_has = rank_of_permutation xs ys moved (k + 1) _ (rank_at ys sorted k (pos 0) (omega arith));
      high_has = rank_of_permutation xs ys moved (length ys - k) _
          (subst (λ n. HasRank ys n (value_at ys (length ys - 1 - k))) top
          (rank_at ys sorted (length ys - 1 - k) (pos 0) (omega arith)));
      value_is = half_is (value_at ys k +ℤ value_at ys (length ys - 1 - k));
    }

abbrev midpoint_with : ℤ → ℕ → ℕ → Midpoint
midpoint_with value low_rank high_rank = record { value = value; low_rank = low_rank; high_rank = high_rank }

midpoint_with-same : (v w : ℤ) (i j k l : ℕ) → v ≡ w → i ≡ j → k ≡ l → midpoint_with v i k ≡ midpoint_with w j l
midpoint_with-same v w i j k l p q r = cc

midpoint-same : (xs : List ℤ) (m n : Midpoint) → IsMidpoint xs m → IsMidpoint xs n → m ≡ n
midpoint-same xs m n h k =
    let low_rank : m.low_rank ≡ n.low_rank = h.low_rank_is ∙ sym k.low_rank_is in
    let high_rank : m.high_rank ≡ n.high_rank = h.high_rank_is ∙ sym k.high_rank_is in
    let low : h.low ≡ k.low = rank-same xs m.low_rank h.low k.low h.low_has
    (subst (λ j. HasRank xs j k.low) (sym low_rank) k.low_has) in
    let high : h.high ≡ k.high = rank-same xs m.high_rank h.high k.high h.high_has
    (subst (λ j. HasRank xs j k.high) (sym high_rank) k.high_has) in
    let value : m.value ≡ n.value = half-same (h.low +ℤ h.high) m.value n.value h.value_is
    (subst (λ s. IsHalf s n.value) (sym (ap (λ x. x +ℤ h.high) low ∙ ap (λ y. k.low +ℤ y) high)) k.value_is) in
    midpoint_with-same m.value n.value m.low_rank n.low_rank m.high_rank n.high_rank value low_rank high_rank

-- a value has a rank only if there are values
midpoint_some : (xs : List ℤ) (m : Midpoint) → IsMidpoint xs m → 0 < length xs
midpoint_some xs m h = let inside : h.low_has.among.0 < length xs = h.low_has.among.1 in omega arith

-- ---- the answer of the call

pub middle_found : (xs ys : List ℤ) → IsPermutation xs ys → IsSorted int_cmp ys → (answer : Option Midpoint)
    → answer ≡ middle_of ys → IfSome answer (λ m. IsMidpoint xs m)
middle_found xs ys moved sorted answer is =
    elim (cases_lt 0 (length ys)) [
      | inl some ↦ subst (λ (o : Option Midpoint). IfSome o (λ m. IsMidpoint xs m)) (sym (is ∙ middle_some ys some))
          (middle_is xs ys moved sorted some)
      | inr none ↦ subst (λ (o : Option Midpoint). IfSome o (λ m. IsMidpoint xs m))
          (sym (is ∙ middle_none ys (omega arith))) tt
    ]

pub middle_only : (xs ys : List ℤ) → IsPermutation xs ys → IsSorted int_cmp ys → (answer : Option Midpoint)
    → answer ≡ middle_of ys → (m : Midpoint) → IsMidpoint xs m → answer ≡ Some m
middle_only xs ys moved sorted answer is m h =
    let some : 0 < length ys = omega (arith, midpoint_some xs m h, ap (λ n. n) (length_permutation xs ys moved)) in
    is ∙ middle_some ys some ∙ ap (λ n. Some n) (midpoint-same xs (middle_record ys) m
    (middle_is xs ys moved sorted some) h)

pub middle_none_of : (xs ys : List ℤ) → IsPermutation xs ys → (answer : Option Midpoint) → answer ≡ middle_of ys
    → IsNone answer ↔ (length xs ≡ 0)
middle_none_of xs ys moved answer is =
    let same : length ys ≡ length xs = length_permutation xs ys moved in
    elim (cases_lt 0 (length ys)) [
      | inl some ↦ subst (λ (o : Option Midpoint). IsNone o ↔ (length xs ≡ 0)) (sym (is ∙ middle_some ys some))
          (λ e. absurd (cc), λ e. absurd (omega arith))
      | inr none ↦ subst (λ (o : Option Midpoint). IsNone o ↔ (length xs ≡ 0)) (sym (is ∙ middle_none ys (omega arith)))
          (λ e. omega arith, λ e. refl)
    ]

not_true : (b : Bool) → (b ≡ true → ⊥) → b ≡ false
not_true true h = absurd (h refl)
not_true false h = refl

-- no value is large, in any order
none_large : (test : ℤ → Bool) (ys : List ℤ) → list_any test ys ≡ false → All (λ y. test y ≡ false) ys
none_large test ys h = λ k d in'. not_true (test (get_or ys k d)) (λ e. let some = list_any_at test ys k d in' e in cc)

pub none_large_moved : (test : ℤ → Bool) (xs ys : List ℤ) → IsPermutation xs ys → list_any test xs ≡ false
    → All (λ y. test y ≡ false) ys
none_large_moved test xs ys moved h = none_large test ys (sym (list_any-IsPermutation test xs ys moved) ∙ h)
