-- The sum of the steps of columns, one column more, and the number of those that fit, which are the first ones.
use Rattle.std.proofs.Common.{◌≡◌, ℕ, zero, suc, ◌+◌, ◌-◌, ◌≤◌, ◌<◌, min, Bool, true, false, cond, leb, List, []}
use Rattle.std.proofs.Common.{◌∷◌, ◌++◌, refl, sym, ap, ap₂, subst, ◌∙◌, arith}
use Rattle.std.specs.Prelude.{count_by, sum_by}
use Rattle.std.specs.List.{range_with_len}
use Rattle.std.proofs.lemmas.List.Sums.{sum_by_push}
use Rattle.std.proofs.lemmas.Bool.{leb-false, leb-true}
use Rattle.fr_matrix.specs.Pages.{width_of}
use Rattle.fr_matrix.specs.Places.{across, columns_in, fits, step}
use Rattle.fr_matrix.specs.declared.grid.Grid.{Grid}

range-more : (first count : ℕ) → range_with_len first (count + 1) ≡ range_with_len first count ++ (first + count) ∷ []
range-more first zero = ap (λ (n : ℕ). n ∷ []) (omega arith)
range-more first (suc count) =
    let next : suc count + 1 ≡ suc (count + 1) = omega arith in
    let here : first + 1 + count ≡ first + suc count = omega arith in
    ap (λ (n : ℕ). range_with_len first n) next
    ∙ ap (λ (xs : List ℕ). first ∷ xs) (range-more (first + 1) count ∙ ap
    (λ (n : ℕ). range_with_len (first + 1) count ++ n ∷ []) here)

pub sum-more : (f : ℕ → ℕ) (count : ℕ)
    → sum_by f (range_with_len 0 (count + 1)) ≡ sum_by f (range_with_len 0 count) + f count
sum-more f count =
    let same : 0 + count ≡ count = omega arith in
    ap (sum_by f) (range-more 0 count ∙ ap (λ (n : ℕ). range_with_len 0 count ++ n ∷ []) same)
    ∙ sum_by_push f (range_with_len 0 count) count

-- one column more, which fits or doesn't
pub count-more : (g : Grid) (place left columns more : ℕ) (is_in : Bool) → left ≡ across g (place + 1)
    → leb left 1580 ≡ is_in → columns ≡ count_by (fits g) (range_with_len 0 place)
    → more ≡ columns + cond is_in 1 0
    → more ≡ count_by (fits g) (range_with_len 0 (place + 1))
count-more g place left columns more is_in left_is in_is columns_are more_is =
    more_is
    ∙ ap₂ (λ (n : ℕ) (b : Bool). n + cond b 1 0) columns_are
    (sym in_is ∙ ap (λ (n : ℕ). leb n 1580) left_is)
    ∙ sym (sum-more (λ k. cond (fits g k) 1 0) place)

-- ---- the columns that fit are the first ones

abbrev fitting : Grid → ℕ → ℕ
fitting g n = count_by (fits g) (range_with_len 0 n)

record AreFirst (g : Grid) (n : ℕ) : Type 0 where
  ends : across g (fitting g n) ≤ 1580
  all : across g n ≤ 1580 → fitting g n ≡ n

counted : (g : Grid) (n : ℕ) (is_in : Bool) → fits g n ≡ is_in → fitting g (n + 1) ≡ fitting g n + cond is_in 1 0
counted g n is_in is =
    sum-more (λ k. cond (fits g k) 1 0) n ∙ ap (λ (b : Bool). fitting g n + cond b 1 0) is

one_more : (g : Grid) (n : ℕ) (is_in : Bool) → fits g n ≡ is_in → AreFirst g n → AreFirst g (n + 1)
one_more g n true is h =
    let within : across g (n + 1) ≤ 1580 = leb-true (across g (n + 1)) 1580 is in
    let longer = sum-more (step g) n in
    let all : fitting g n ≡ n = h.all (omega (arith, longer, within)) in
    let more : fitting g (n + 1) ≡ n + 1 = omega (arith, all, counted g n true is) in
    record { ends = subst (λ (k : ℕ). across g k ≤ 1580) (sym more) within; all = λ _. more }
one_more g n false is h =
    let past : 1580 < across g (n + 1) = leb-false (across g (n + 1)) 1580 is in
    let same : fitting g (n + 1) ≡ fitting g n = omega (arith, counted g n false is) in
    record {
      ends = subst (λ (k : ℕ). across g k ≤ 1580) (sym same) h.ends;
      all = λ within. absurd (omega (arith, within, past));
    }

are_first : (g : Grid) (n : ℕ) → AreFirst g n
are_first g zero = record { ends = omega arith; all = λ _. refl }
are_first g (suc n) =
    let next : n + 1 ≡ suc n = omega arith in
    subst (λ (k : ℕ). AreFirst g k) next (one_more g n (fits g n) refl (are_first g n))

pub width_is_small : (g : Grid) (most : ℕ) → width_of g (columns_in g most) ≤ 1600
width_is_small g most = omega (arith, (are_first g (min (most - g.first) 377)).ends)
