-- The number of items of a list that pass a test, if none does, and if all do.
use Rattle.std.proofs.Common.{◌≡◌, ℕ, suc, ◌+◌, ◌*◌, ◌<◌, ◌≤◌, Bool, true, false, cond, List, [], ◌∷◌, length}
use Rattle.std.proofs.Common.{replicate}
use Rattle.std.proofs.Common.{refl, sym, ap, ◌∙◌, arith}
use Rattle.std.specs.Prelude.{◌&&◌, ◌==◌, slice_set, slice_index_or}
use Rattle.std.specs.List.{count_by, list_all}
use Rattle.std.proofs.lemmas.List.Folds.{sum_by-replicate}
use Rattle.std.proofs.lemmas.List.Sums.{count_by-le-length, sum_by-cons, sum_by-set}
use Rattle.std.proofs.lemmas.Grind.{common_steps}

pub count_none : {X : Type 0} (p : X → Bool) (n : ℕ) (x : X) → p x ≡ false → count_by p (replicate n x) ≡ 0
count_none p n x fails =
    let each : n * cond (p x) 1 0 ≡ n * 0 = ap (λ b. n * cond b 1 0) fails in
    omega (arith, sum_by-replicate (λ y. cond (p y) 1 0) n x, each)

all_step : (b rest : Bool) (c n : ℕ) → rest ≡ (c == n) → c ≤ n → (b && rest) ≡ ((cond b 1 0 + c) == suc n)
all_step true rest c n e few = grind (arith, common_steps)
all_step false rest c n e few = grind (arith, common_steps)

count_all : {X : Type 0} (p : X → Bool) (xs : List X) → list_all p xs ≡ (count_by p xs == length xs)
count_all p [] = refl
count_all p (x ∷ xs) =
    all_step (p x) (list_all p xs) (count_by p xs) (length xs) (count_all p xs) (count_by-le-length p xs)
    ∙ ap (λ n. n == suc (length xs)) (sym (sum_by-cons (λ y. cond (p y) 1 0) x xs))

-- if as many items pass as there are, all pass
pub all_counted : {X : Type 0} (p : X → Bool) (xs : List X) (count n : ℕ) → count ≡ count_by p xs → n ≡ length xs
    → (count == n) ≡ list_all p xs
all_counted p xs count n counted many = (λ i. counted i == many i) ∙ sym (count_all p xs)

-- ---- one item is changed

module _ {X : Type 0} (p : X → Bool) (xs ys : List X) (place count : ℕ) (y d : X) (changed : ys ≡ slice_set xs place y)
    (within : place < length xs) (counted : count ≡ count_by p xs) where
  after_change : count_by p ys + cond (p (slice_index_or xs place d)) 1 0 ≡ count + cond (p y) 1 0
  after_change = omega (
    arith,
    ap (count_by p) changed,
    counted,
    sum_by-set (λ x. cond (p x) 1 0) xs place y d within,
  )

  pub counted_more : p (slice_index_or xs place d) ≡ false → p y ≡ true → count + 1 ≡ count_by p ys
  counted_more before after =
      let none : cond {A = ℕ} (p (slice_index_or xs place d)) 1 0 ≡ 0 = ap (λ (b : Bool). cond {A = ℕ} b 1 0) before in
      let one : cond {A = ℕ} (p y) 1 0 ≡ 1 = ap (λ (b : Bool). cond {A = ℕ} b 1 0) after in
      omega (arith, after_change, none, one)

  pub counted_same : p y ≡ p (slice_index_or xs place d) → count ≡ count_by p ys
  counted_same same =
      let as_before : cond {A = ℕ} (p y) 1 0 ≡ cond {A = ℕ} (p (slice_index_or xs place d)) 1 0 =
      ap (λ (b : Bool). cond {A = ℕ} b 1 0) same in
      omega (arith, after_change, as_before)
