-- Bytes that are zero, eight at a time; the flags of a logger.
use Rattle.std.proofs.Common.{◌≡◌, ℕ, zero, suc, ◌+◌, ◌*◌, ◌%◌, ◌==◌, ◌&&◌, Bool, false, List, [], ◌∷◌}
use Rattle.std.proofs.Common.{length, take, drop, replicate, refl, sym, ap, ◌∙◌, arith, nat_eq}
use Rattle.std.proofs.Math.Bool.{and_assoc}
use Rattle.std.proofs.lemmas.List.{take-append-drop, drop-drop}
use Rattle.std.proofs.lemmas.List.Folds.{list_all-append}
use Rattle.std.proofs.lemmas.Bool.Decides.{nat_tests}
use Rattle.std.specs.List.{list_all}
use Rattle.std.specs.Prelude.{None}
use Rattle.std.specs.Simd.{first_chunks}
use Rattle.std.specs.Cmp.Lexicographic.{pointwise}
use Rattle.fr_logged.specs.Logged.{is_set, logged_by}
use Rattle.fr_logged.specs.Rules.{is_zero}

-- ---- zeros

pub all_zero : (xs : List ℕ) (n : ℕ) → length xs ≡ n → pointwise nat_eq xs (replicate n 0) ≡ list_all is_zero xs
all_zero [] zero is = refl
all_zero [] (suc n) is = absurd (omega (arith, is))
all_zero (x ∷ xs) zero is = absurd (omega (arith, is))
all_zero (x ∷ xs) (suc n) is = ap (λ (b : Bool). x == 0 && b) (all_zero xs n (omega (arith, is)))

pub all_chunks : (p : ℕ → Bool) (n k : ℕ) (xs : List ℕ)
    → (list_all (list_all p) (first_chunks n k xs) && list_all p (drop (k * n) xs)) ≡ list_all p xs
all_chunks p n zero xs =
    let none : 0 * n ≡ 0 = omega arith in
    ap (λ (m : ℕ). list_all p (drop m xs)) none
all_chunks p n (suc k) xs =
    let rest : drop (k * n) (drop n xs) ≡ drop (suc k * n) xs =
    let sum : n + k * n ≡ suc k * n = grind arith in
    drop-drop (k * n) n xs ∙ ap (λ (m : ℕ). drop m xs) sum in
    and_assoc (list_all p (take n xs)) (list_all (list_all p) (first_chunks n k (drop n xs)))
    (list_all p (drop (suc k * n) xs))
    ∙ ap (λ (t : List ℕ). list_all p (take n xs) && (list_all (list_all p) (first_chunks n k (drop n xs))
    && list_all p t)) (sym rest)
    ∙ ap (λ (b : Bool). list_all p (take n xs) && b) (all_chunks p n k (drop n xs))
    ∙ sym (list_all-append p (take n xs) (drop n xs))
    ∙ ap (list_all p) (take-append-drop n xs)

-- ---- flags

pub none_logged : (flags : ℕ) → flags % 32 ≡ 0 → logged_by flags ≡ None
none_logged flags none =
    let a : is_set 1 flags ≡ false = grind (arith, nat_tests) in
    let b : is_set 0 flags ≡ false = grind (arith, nat_tests) in
    let c : is_set 3 flags ≡ false = grind (arith, nat_tests) in
    let d : is_set 2 flags ≡ false = grind (arith, nat_tests) in
    let e : is_set 4 flags ≡ false = grind (arith, nat_tests) in
    rw (a, b, c, d, e) refl
