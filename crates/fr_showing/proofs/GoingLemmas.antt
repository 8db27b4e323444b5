-- Lists along which the code goes: the elements before, the element here, and the elements that are left.
use Rattle.std.proofs.Common.{◌≡◌, ℕ, zero, suc, ◌+◌, ◌≤◌, ◌<◌, List, [], ◌∷◌, ◌++◌, length, take, drop, Option, Some}
use Rattle.std.proofs.Common.{get_or, refl, sym, ap, subst, ◌∙◌, append-nil, arith}
use Rattle.std.specs.Prelude.{slice_get}
use Rattle.std.specs.Io.KnownBytes.{Appends}
use Rattle.std.specs.List.{flat_map, range_with_len}
use Rattle.std.proofs.KnownBytes.{Appends-trans, Appends-nil}
use Rattle.std.proofs.lemmas.Grind.{flat_map-append}
use Rattle.std.proofs.lemmas.List.{append_assoc}
use Rattle.std.proofs.lemmas.Option.{slice_get_read}
use Rattle.fr_slots.specs.History.{AllAfter, each_after}

-- ---- a place in a list

pub record IsHere {X : Type 0} (xs : List X) (n : ℕ) (x : X) : Type 0 where
  pub within : n < length xs
  pub passed : take (n + 1) xs ≡ take n xs ++ x ∷ []
  pub left : drop n xs ≡ x ∷ drop (n + 1) xs
  pub place : length (take n xs) ≡ n

-- the same, with the successor in place of the sum
record IsThere {X : Type 0} (xs : List X) (n : ℕ) (x : X) : Type 0 where
  within : n < length xs
  passed : take (suc n) xs ≡ take n xs ++ x ∷ []
  left : drop n xs ≡ x ∷ drop (suc n) xs
  place : length (take n xs) ≡ n

there : {X : Type 0} (xs : List X) (n : ℕ) (x : X) → slice_get xs n ≡ Some x → IsThere xs n x
there [] n x is = absurd (let never : ⊥ = cc in never)
there (y ∷ xs) zero x is =
    let same : y ≡ x = cc in
    record { within = omega arith; passed = ap (λ z. z ∷ []) same; left = ap (λ z. z ∷ xs) same; place = refl }
there (y ∷ xs) (suc n) x is =
    let h = there xs n x is in
    let lt : n < length xs = h.within in
    record {
      within = omega (arith, lt);
      passed = ap (λ (l : List _). y ∷ l) h.passed;
      left = h.left;
      place =
          ap suc h.place;
    }

pub here : {X : Type 0} (xs : List X) (n : ℕ) (x : X) → slice_get xs n ≡ Some x → IsHere xs n x
here xs n x is =
    let h = there xs n x is in
    let next : suc n ≡ n + 1 = omega arith in
    record {
      within = h.within;
      passed = subst (λ (m : ℕ). take m xs ≡ take n xs ++ x ∷ []) next h.passed;
      left = subst (λ (m : ℕ). drop n xs ≡ x ∷ drop m xs) next h.left;
      place = h.place;
    }

pub nothing_left : {X : Type 0} (xs : List X) (n : ℕ) → length xs ≤ n → drop n xs ≡ []
nothing_left [] zero le = refl
nothing_left [] (suc n) le = refl
nothing_left (x ∷ xs) zero le = absurd (omega (arith, le))
nothing_left (x ∷ xs) (suc n) le = nothing_left xs n (omega (arith, le))

pub both : {X : Type 0} (xs : List X) (n : ℕ) → take n xs ++ drop n xs ≡ xs
both [] zero = refl
both [] (suc n) = refl
both (x ∷ xs) zero = refl
both (x ∷ xs) (suc n) = ap (λ (l : List _). x ∷ l) (both xs n)

pub length_passed : {X : Type 0} (xs : List X) (n : ℕ) → n ≤ length xs → length (take n xs) ≡ n
length_passed xs zero le = refl
length_passed [] (suc n) le = absurd (omega (arith, le))
length_passed (x ∷ xs) (suc n) le = ap suc (length_passed xs n (omega (arith, le)))

-- a fact of each element after those before it also holds of the elements that are left
pub AllAfter-rest : {X : Type 0} (P : List X → X → Type 0) (before xs ys : List X) → AllAfter P before (xs ++ ys)
    → AllAfter P (before ++ xs) ys
unfolding AllAfter
AllAfter-rest P before [] ys all = subst (λ (b : List _). AllAfter P b ys) (sym (append-nil before)) all
AllAfter-rest P before (x ∷ xs) ys all =
    subst (λ (b : List _). AllAfter P b ys) (append_assoc before (x ∷ []) xs)
    (AllAfter-rest P (before ++ x ∷ []) xs ys all.1)

pub left_after : {X : Type 0} (P : List X → X → Type 0) (xs : List X) (n : ℕ) → AllAfter P [] xs
    → AllAfter P (take n xs) (drop n xs)
left_after P xs n all = AllAfter-rest P [] (take n xs) (drop n xs) (subst (AllAfter P []) (sym (both xs n)) all)

-- ---- the elements that are left to be written

module _ {X A : Type 0} (f : List X → X → List A) (text : A → List ℕ) (xs : List X) where
  -- the text of the elements that are left
  abbrev pub text_left : ℕ → List ℕ
  text_left n = flat_map text (each_after f (take n xs) (drop n xs))

  pub record IsWritten (all : List ℕ) (old now : Option (List ℕ)) (n : ℕ) : Type 0 where
    -- once the text of the elements that are left is written, all is written
    pub then_all : (new : Option (List ℕ)) → Appends now new (text_left n) → Appends old new all

  text_here : (n : ℕ) (x : X) → slice_get xs n ≡ Some x → text_left n ≡ flat_map text (f (take n xs) x) ++ text_left
      (n + 1)
  unfolding each_after
  text_here n x is =
      let h = here xs n x is in
      ap (λ (l : List X). flat_map text (each_after f (take n xs) l)) h.left
      ∙ flat_map-append text (f (take n xs) x) (each_after f (take n xs ++ x ∷ []) (drop (n + 1) xs))
      ∙ ap (λ (l : List X). flat_map text (f (take n xs) x) ++ flat_map text (each_after f l (drop (n + 1) xs)))
      (sym h.passed)

  pub starts : (all : List ℕ) (old : Option (List ℕ)) (n : ℕ) → text_left n ≡ all → IsWritten all old old n
  starts all old n is = record { then_all = λ new more. subst (λ (t : List ℕ). Appends old new t) is more }

  pub goes_on : (all : List ℕ) (old now mid : Option (List ℕ)) (n : ℕ) (x : X) → slice_get xs n ≡ Some x
      → IsWritten all old now n
      → Appends now mid (flat_map text (f (take n xs) x)) → IsWritten all old mid (n + 1)
  goes_on all old now mid n x is so_far one = record {
    then_all = λ new more.
        so_far.then_all new (
        subst (λ (t : List ℕ). Appends now new t) (sym (text_here n x is))
        (Appends-trans now mid new (flat_map text (f (take n xs) x)) (text_left (n + 1)) one more));
  }

  -- if no element is left, all is written
  pub ends : (all : List ℕ) (old now : Option (List ℕ)) (n : ℕ) → text_left n ≡ [] → IsWritten all old now n
      → Appends old now all
  ends all old now n none so_far = so_far.then_all now (subst (λ (t : List ℕ). Appends now now t) (sym none)
      (Appends-nil now))

  pub ends_behind : (all : List ℕ) (old now : Option (List ℕ)) (n : ℕ) → length xs ≤ n → IsWritten all old now n
      → Appends old now all
  unfolding each_after
  ends_behind all old now n le so_far =
      ends all old now n (ap (λ (l : List X). flat_map text (each_after f (take n xs) l)) (nothing_left xs n le)) so_far

-- ---- lists of lists

range_more : (first count : ℕ) → range_with_len first (count + 1) ≡ range_with_len first count ++ (first + count) ∷ []
range_more first zero = ap (λ (n : ℕ). n ∷ []) (omega arith)
range_more first (suc count) =
    let next : suc count + 1 ≡ suc (count + 1) = omega arith in
    let place : first + 1 + count ≡ first + suc count = omega arith in
    ap (λ (n : ℕ). range_with_len first n) next
    ∙ ap (λ (xs : List ℕ). first ∷ xs) (range_more (first + 1) count ∙ ap
    (λ (n : ℕ). range_with_len (first + 1) count ++ n ∷ []) place)

-- with the texts of the list of one more number
pub one_list_more : {A : Type 0} (text : A → List ℕ) (f : ℕ → List A) (n : ℕ) (old mid new : Option (List ℕ))
    → Appends old mid (flat_map text (flat_map f (range_with_len 0 n)))
    → Appends mid new (flat_map text (f n)) → Appends old new (flat_map text (flat_map f (range_with_len 0 (n + 1))))
one_list_more text f n old mid new before more =
    let place : 0 + n ≡ n = omega arith in
    let all : flat_map f (range_with_len 0 (n + 1)) ≡ flat_map f (range_with_len 0 n) ++ f n =
    ap (flat_map f) (range_more 0 n) ∙ flat_map-append f (range_with_len 0 n) ((0 + n) ∷ [])
    ∙ ap (λ (l : List _). flat_map f (range_with_len 0 n) ++ l) (append-nil (f (0 + n)) ∙ ap f place) in
    subst (λ (t : List ℕ). Appends old new t) (sym
    (ap (flat_map text) all ∙ flat_map-append text (flat_map f (range_with_len 0 n)) (f n)))
    (Appends-trans old mid new (flat_map text (flat_map f (range_with_len 0 n))) (flat_map text (f n)) before more)

-- ---- the element of a loop's step

pub left_here : {X : Type 0} (xs : List X) (n : ℕ) (x : X) → n < length xs → x ≡ get_or xs n x
    → drop n xs ≡ x ∷ drop (n + 1) xs
left_here xs n x lt is = (here xs n x (slice_get_read xs (length xs) n x refl lt is)).left
