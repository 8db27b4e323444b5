-- Items whose keys rise: those below a number, and those at it.
use Rattle.std.proofs.Common.{◌≡◌, ◌<◌, ◌≤◌, ℕ, zero, suc, ◌+◌, Bool, true, false, cond, List, [], ◌∷◌, ◌++◌, length}
use Rattle.std.proofs.Common.{get_or, refl, sym, ap, subst, ◌∙◌, arith}
use Rattle.std.specs.Prelude.{◌==◌, nat_lt, filter}
use Rattle.std.specs.List.{list_all, AllAdjacentBelow}
use Rattle.std.proofs.lemmas.Bool.{eq-eqb, lt-ltb, le-ltb, ne_eqb}
use Rattle.fr_core.proofs.CaseLemmas.{both_first, both_rest}

-- ---- a number beside another

data Order (a b : ℕ) : Type 0 where
  is_less : a < b → Order a b
  is_same : a ≡ b → Order a b
  is_more : b < a → Order a b

compare : (a b : ℕ) → Order a b
compare zero zero = is_same refl
compare zero (suc b) = is_less (omega arith)
compare (suc a) zero = is_more (omega arith)
compare (suc a) (suc b) = next (compare a b)
  where
    next : Order a b → Order (suc a) (suc b)
    next (is_less e) = is_less (omega (arith, e))
    next (is_same e) = is_same (ap suc e)
    next (is_more e) = is_more (omega (arith, e))

module _ {X : Type 0} where
  -- one more item of a list that two others make up
  in_first : (x : X) (us vs ws : List X) (a b c : Bool) → a ≡ true → b ≡ true → c ≡ false → us ≡ vs ++ ws
      → cond a (x ∷ us) us ≡ cond b (x ∷ vs) vs ++ cond c (x ∷ ws) ws
  in_first x us vs ws a b c p q r e = rw (p, q, r) (ap (λ (l : List X). x ∷ l) e)

  in_second : (x : X) (us vs ws : List X) (a b c : Bool) → a ≡ true → b ≡ false → c ≡ true → vs ≡ [] → us ≡ vs ++ ws
      → cond a (x ∷ us) us ≡ cond b (x ∷ vs) vs ++ cond c (x ∷ ws) ws
  in_second x us vs ws a b c p q r none e =
      rw (p, q, r)
      (ap (λ (l : List X). x ∷ l) (e ∙ ap (λ (l : List X). l ++ ws) none) ∙ sym (ap (λ (l : List X). l ++ x ∷ ws) none))

  in_neither : (x : X) (us vs ws : List X) (a b c : Bool) → a ≡ false → b ≡ false → c ≡ false → us ≡ vs ++ ws
      → cond a (x ∷ us) us ≡ cond b (x ∷ vs) vs ++ cond c (x ∷ ws) ws
  in_neither x us vs ws a b c p q r e = rw (p, q, r) e

module _ {X : Type 0} (key : X → ℕ) where
  abbrev pub is_below : ℕ → X → Bool
  is_below k x = nat_lt (key x) k

  abbrev pub is_at : ℕ → X → Bool
  is_at k x = key x == k

  -- the keys are at least this number, and rise
  abbrev pub Rises : ℕ → List X → Type 0
  Rises m [] = Unit {0}
  Rises m (x ∷ xs) = (m ≤ key x) × Rises (key x) xs

  pub none_below : (k m : ℕ) (xs : List X) → Rises m xs → k ≤ m → filter (is_below k) xs ≡ []
  none_below k m [] rises le = refl
  none_below k m (x ∷ xs) rises le =
      let least = rises.0 in
      let here : k ≤ key x = omega (arith, le, least) in
      ap (λ (b : Bool). cond b (x ∷ filter (is_below k) xs) (filter (is_below k) xs)) (le-ltb (key x) k here)
      ∙ none_below k (key x) xs rises.1 here

  -- the items below the next number
  pub below_next : (k m : ℕ) (xs : List X) → Rises m xs
      → filter (is_below (k + 1)) xs ≡ filter (is_below k) xs ++ filter (is_at k) xs
  below_next k m [] rises = refl
  below_next k m (x ∷ xs) rises = by_order (compare (key x) k) (below_next k (key x) xs rises.1)
    where
      by_order : Order (key x) k → filter (is_below (k + 1)) xs ≡ filter (is_below k) xs ++ filter (is_at k) xs
          → filter (is_below (k + 1)) (x ∷ xs) ≡ filter (is_below k) (x ∷ xs) ++ filter (is_at k) (x ∷ xs)
      by_order (is_less e) rest =
          in_first x (filter (is_below (k + 1)) xs) (filter (is_below k) xs) (filter (is_at k) xs)
          (is_below (k + 1) x) (is_below k x) (is_at k x)
          (lt-ltb (key x) (k + 1) (omega (arith, e))) (lt-ltb (key x) k e)
          (ne_eqb (key x) k (λ is. let none : ⊥ = omega (arith, e, is) in none)) rest
      by_order (is_same e) rest =
          in_second x (filter (is_below (k + 1)) xs) (filter (is_below k) xs) (filter (is_at k) xs)
          (is_below (k + 1) x) (is_below k x) (is_at k x)
          (lt-ltb (key x) (k + 1) (omega (arith, e))) (le-ltb (key x) k (omega (arith, e))) (eq-eqb (key x) k e)
          (none_below k (key x) xs rises.1 (omega (arith, e))) rest
      by_order (is_more e) rest =
          in_neither x (filter (is_below (k + 1)) xs) (filter (is_below k) xs) (filter (is_at k) xs)
          (is_below (k + 1) x) (is_below k x) (is_at k x)
          (le-ltb (key x) (k + 1) (omega (arith, e))) (le-ltb (key x) k (omega (arith, e)))
          (ne_eqb (key x) k (λ is. let none : ⊥ = omega (arith, e, is) in none)) rest

  pub all_below : (k : ℕ) (xs : List X) → list_all (is_below k) xs ≡ true → filter (is_below k) xs ≡ xs
  all_below k [] all = refl
  all_below k (x ∷ xs) all =
      ap (λ (b : Bool). cond b (x ∷ filter (is_below k) xs) (filter (is_below k) xs))
      (both_first (is_below k x) (list_all (is_below k) xs) all)
      ∙ ap (λ (l : List X). x ∷ l) (all_below k xs (both_rest (is_below k x) (list_all (is_below k) xs) all))

  -- from the keys of each item and the next
  rises_from : (m : ℕ) (xs : List X) → ((d : X) → 0 < length xs → m ≤ key (get_or xs 0 d))
      → ((k : ℕ) (d : X) → k + 1 < length xs → key (get_or xs k d) ≤ key (get_or xs (k + 1) d)) → Rises m xs
  rises_from m [] least next = tt
  rises_from m (x ∷ xs) least next = (
    least x (omega arith),
    rises_from (key x) xs (λ d some. next 0 d (omega (arith, some)))
        (λ k d within. let same : suc k + 1 ≡ suc (k + 1) = omega arith in
        subst (λ (j : ℕ). key (get_or xs k d) ≤ key (get_or (x ∷ xs) j d)) same
        (next (suc k) d (omega (arith, within)))),
  )

  pub rises : (xs : List X) → AllAdjacentBelow (λ x y. key x ≤ key y) xs (length xs) → Rises 0 xs
  rises xs in_order = rises_from 0 xs (λ d some. omega arith) in_order
