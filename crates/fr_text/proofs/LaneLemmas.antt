-- The first value of 16 or more in a block, by the mask of a comparison.
use Rattle.std.proofs.Common.{◌≡◌, ℕ, ◌%◌, ◌^◌, ◌<◌, ◌≤◌, List, map, length, get_or, replicate, cond, leb, eqb, not}
use Rattle.std.proofs.Common.{inl, inr, ap, ◌∙◌, arith, w8}
use Rattle.std.proofs.lemmas.Bool.{cases_lt, not-true, not-false, leb-true, leb-false}
use Rattle.std.proofs.lemmas.List.{length-map}
use Rattle.std.proofs.lemmas.List.Sums.{prefix_len-le-length, prefix_len_passes, prefix_len_stops}
use Rattle.std.proofs.lemmas.Simd.{tops_compared, zip2_splat_left, mask_l-mod, first_set_mask_l}
use Rattle.std.specs.List.{prefix_len}
use lib.Count.{count_trailing_zeros}
use lib.Lanes.{zip2, mask_l, top}

-- the number of values below 16 before the first other
abbrev pub below : List ℕ → ℕ
below values = prefix_len (λ v. not (leb 16 v)) values

-- the mask of the values that aren't below 16
abbrev pub mask_of : List ℕ → ℕ
mask_of values = mask_l (map (top 7) (zip2 (λ a b. cond (leb a b) 255 0) (replicate 32 16) values)) % 2 ^ 64

mask_is : (values : List ℕ) → length values ≡ 32 → mask_of values ≡ mask_l (map (λ v. leb 16 v) values)
mask_is values long =
    let bits = tops_compared w8 leb (replicate 32 16) values ∙ zip2_splat_left leb 16 32 values long in
    ap (λ bs. mask_l bs % 2 ^ 64) bits
    ∙ mask_l-mod (map (λ v. leb 16 v) values) 64 (omega (arith, length-map values (λ v. leb 16 v), long))

pub first_is : (values : List ℕ) → length values ≡ 32
    → cond (eqb (mask_of values) 0) 32 (count_trailing_zeros 64 (mask_of values)) ≡ below values
first_is values long =
    ap (λ m. cond (eqb m 0) 32 (count_trailing_zeros 64 m)) (mask_is values long)
    ∙ first_set_mask_l (λ v. leb 16 v) values 32 long (omega arith)

pub below_few : (values : List ℕ) → length values ≡ 32 → below values ≤ 32
below_few values long = omega (arith, prefix_len-le-length (λ v. not (leb 16 v)) values, long)

pub below_16 : (values : List ℕ) (k : ℕ) → k < below values → get_or values k 0 < 16
below_16 values k lt =
    leb-false 16 (get_or values k 0) (not-true _ (prefix_len_passes (λ v. not (leb 16 v)) values k 0 lt))

-- no other value stops the front
pub below_all : (values : List ℕ) → length values ≡ 32 → ((k : ℕ) → k < 32 → get_or values k 0 < 16) → below values ≡ 32
below_all values long each =
    let few = below_few values long in
    elim (cases_lt (below values) 32) [
      | inl short ↦
          let stop = prefix_len_stops (λ v. not (leb 16 v)) values 0 (omega (arith, short, long)) in
          let large = leb-true 16 (get_or values (below values) 0) (not-false _ stop) in
          absurd (omega (arith, large, each (below values) short))
      | inr whole ↦ omega (arith, whole, few)
    ]
