-- The place in a history from which a value comes.
use Rattle.std.proofs.Common.{◌≡◌, ◌≤◌, ℕ, zero, suc, ◌+◌, List, [], ◌∷◌, ◌++◌, drop, take, length, length-append, map}
use Rattle.std.proofs.Common.{arith, Option, Some, None, refl, sym, ap, subst, ◌∙◌, inl, inr, ◌⊎◌, slice_get}
use Rattle.std.specs.Option.{option_or}
use Rattle.std.proofs.lemmas.List.{append_assoc, append-nil}
use Rattle.fr_slots.specs.History.{AllAfter, last_after, each_after}

-- ---- look-ups

pub same_some : {X : Type 0} (x y : X) → ◌≡◌ {A = Option X} (Some x) (Some y) → x ≡ y
same_some x y e = cc

pub same_head : {X : Type 0} (x y : X) (xs ys : List X) → x ∷ xs ≡ y ∷ ys → x ≡ y
same_head x y xs ys e = cc

pub same_tail : {X : Type 0} (x y : X) (xs ys : List X) → x ∷ xs ≡ y ∷ ys → xs ≡ ys
same_tail x y xs ys e = cc

-- the place of an item in a list
pub record IsAmong {X : Type 0} (xs : List X) (x : X) : Type 0 where
  pub place : ℕ
  pub at : slice_get xs place ≡ Some x

pub get-append : {X : Type 0} (xs ys : List X) (k : ℕ) (x : X) → slice_get xs k ≡ Some x
    → slice_get (xs ++ ys) k ≡ Some x
get-append [] ys k x e = cc
get-append (y ∷ xs) ys zero x e = e
get-append (y ∷ xs) ys (suc k) x e = get-append xs ys k x e

-- the item after a list
pub get-after : {X : Type 0} (xs ys : List X) (x : X) → slice_get (xs ++ x ∷ ys) (length xs) ≡ Some x
get-after [] ys x = refl
get-after (y ∷ xs) ys x = get-after xs ys x

later_among : {X : Type 0} (y : X) (xs : List X) (x : X) → IsAmong xs x → IsAmong (y ∷ xs) x
later_among y xs x h = record { place = suc h.place; at = h.at }

in_either : {X : Type 0} (y : X) (xs ys : List X) (x : X) → (IsAmong xs x ⊎ IsAmong ys x)
    → IsAmong (y ∷ xs) x ⊎ IsAmong ys x
in_either y xs ys x (inl h) = inl (later_among y xs x h)
in_either y xs ys x (inr h) = inr h

-- an item of two lists is an item of one of them
pub among-append : {X : Type 0} (xs ys : List X) (k : ℕ) (x : X) → slice_get (xs ++ ys) k ≡ Some x
    → IsAmong xs x ⊎ IsAmong ys x
among-append [] ys k x e = inr (record { place = k; at = e })
among-append (y ∷ xs) ys zero x e = inl (record { place = 0; at = e })
among-append (y ∷ xs) ys (suc k) x e = in_either y xs ys x (among-append xs ys k x e)

pub among-drop : {X : Type 0} (n : ℕ) (xs : List X) (k : ℕ) (x : X) → slice_get (drop n xs) k ≡ Some x → IsAmong xs x
among-drop zero xs k x e = record { place = k; at = e }
among-drop (suc n) [] k x e = record { place = k; at = e }
among-drop (suc n) (y ∷ xs) k x e = later_among y xs x (among-drop n xs k x e)

-- the item of a map at a place
pub record IsMapped {X Y : Type 0} (f : X → Y) (xs : List X) (k : ℕ) (y : Y) : Type 0 where
  pub source : X
  pub at : slice_get xs k ≡ Some source
  pub value : f source ≡ y

pub get-map : {X Y : Type 0} (f : X → Y) (xs : List X) (k : ℕ) (y : Y) → slice_get (map f xs) k ≡ Some y
    → IsMapped f xs k y
get-map f [] k y e = absurd (let none : ⊥ = cc in none)
get-map f (x ∷ xs) zero y e = record { source = x; at = refl; value = same_some (f x) y e }
get-map f (x ∷ xs) (suc k) y e = let r = get-map f xs k y e in record { source = r.source; at = r.at; value = r.value }

pub map-get : {X Y : Type 0} (f : X → Y) (xs : List X) (k : ℕ) (x : X) → slice_get xs k ≡ Some x
    → slice_get (map f xs) k ≡ Some (f x)
map-get f [] k x e = absurd (let none : ⊥ = cc in none)
map-get f (y ∷ xs) zero x e = ap (λ z. Some (f z)) (same_some y x e)
map-get f (y ∷ xs) (suc k) x e = map-get f xs k x e

-- ---- cuts

-- a list, cut at a place
pub record IsAt {X : Type 0} (xs : List X) (k : ℕ) (x : X) : Type 0 where
  pub before : List X
  pub after : List X
  pub cut : xs ≡ before ++ x ∷ after
  pub place_is : length before ≡ k

pub cut-at : {X : Type 0} (xs : List X) (k : ℕ) (x : X) → slice_get xs k ≡ Some x → IsAt xs k x
cut-at [] k x e = absurd (let none : ⊥ = cc in none)
cut-at (y ∷ xs) zero x e = record { before = []; after = xs; cut = ap (λ z. z ∷ xs) (same_some y x e); place_is = refl }
cut-at (y ∷ xs) (suc k) x e =
    let c = cut-at xs k x e in
    record {
      before = y ∷ c.before;
      after = c.after;
      cut = ap (λ (l : List _). y ∷ l) c.cut;
      place_is =
          ap suc c.place_is;
    }

module _ {X : Type 0} where
  -- a cut of a history at an event that satisfies the predicate after those before it
  pub record IsCutAt (P : List X → X → Type 0) (before xs : List X) : Type 0 where
    pub inner : List X
    pub here : X
    pub after : List X
    pub cut : xs ≡ inner ++ here ∷ after
    pub holds : P (before ++ inner) here

  first_here : (P : List X → X → Type 0) (before : List X) (x : X) (xs : List X) → P before x
      → IsCutAt P before (x ∷ xs)
  first_here P before x xs h = record {
    inner = [];
    here = x;
    after = xs;
    cut = refl;
    holds =
        subst (λ (b : List X). P b x) (sym (append-nil before)) h;
  }

  later_cut : (P : List X → X → Type 0) (before : List X) (x : X) (xs : List X) → IsCutAt P (before ++ x ∷ []) xs
      → IsCutAt P before (x ∷ xs)
  later_cut P before x xs h = record {
    inner = x ∷ h.inner;
    here = h.here;
    after = h.after;
    cut = ap (λ (l : List X). x ∷ l) h.cut;
    holds = subst (λ (b : List X). P b h.here) (append_assoc before (x ∷ []) h.inner) h.holds;
  }

  pub AllAfter-cut : (P : List X → X → Type 0) (before inner : List X) (x : X) (after : List X)
      → AllAfter P before (inner ++ x ∷ after) → P (before ++ inner) x
  unfolding AllAfter
  AllAfter-cut P before [] x after all = subst (λ (b : List X). P b x) (sym (append-nil before)) all.0
  AllAfter-cut P before (y ∷ inner) x after all = subst (λ (b : List X). P b x) (append_assoc before (y ∷ []) inner)
      (AllAfter-cut P (before ++ y ∷ []) inner x after all.1)

  pub each_after-cut : {A : Type 0} (f : List X → X → List A) (before inner : List X) (x : X) (after : List X)
      → each_after f before (inner ++ x ∷ after) ≡ each_after f before inner ++
      (f (before ++ inner) x ++ each_after f ((before ++ inner) ++ x ∷ []) after)
  unfolding each_after
  each_after-cut f before [] x after = ap (λ (b : List X). f b x ++ each_after f (b ++ x ∷ []) after)
      (sym (append-nil before))
  each_after-cut f before (y ∷ inner) x after =
      ap (λ l. f before y ++ l) (
      each_after-cut f (before ++ y ∷ []) inner x after
      ∙ ap (λ (b : List X). each_after f (before ++ y ∷ []) inner ++ (f b x ++ each_after f (b ++ x ∷ []) after))
      (append_assoc before (y ∷ []) inner)
      )
      ∙ sym (append_assoc (f before y) (each_after f (before ++ y ∷ []) inner)
      (f (before ++ y ∷ inner) x ++ each_after f ((before ++ (y ∷ inner)) ++ x ∷ []) after))

  last_step : {A : Type 0} (f : List X → X → Option A) (before : List X) (x : X) (xs : List X) (a : A) (rest : Option A)
      → (rest ≡ Some a → IsCutAt (λ b e. f b e ≡ Some a) (before ++ x ∷ []) xs) → option_or rest (f before x) ≡ Some a
      → IsCutAt (λ b e. f b e ≡ Some a) before (x ∷ xs)
  last_step f before x xs a None deeper e = first_here (λ b e. f b e ≡ Some a) before x xs e
  last_step f before x xs a (Some y) deeper e = later_cut (λ b e. f b e ≡ Some a) before x xs (deeper e)

  -- one of the events gives the last value
  pub last_after-at : {A : Type 0} (f : List X → X → Option A) (before xs : List X) (a : A)
      → last_after f before xs ≡ Some a → IsCutAt (λ b e. f b e ≡ Some a) before xs
  unfolding last_after
  last_after-at f before [] a e = absurd (let none : ⊥ = cc in none)
  last_after-at f before (x ∷ xs) a e =
      last_step f before x xs a (last_after f (before ++ x ∷ []) xs) (last_after-at f (before ++ x ∷ []) xs a) e

  each_step : {A : Type 0} (f : List X → X → List A) (before : List X) (x : X) (xs : List X) (a : A)
      → ((k : ℕ) → slice_get (each_after f (before ++ x ∷ []) xs) k ≡ Some a
      → IsCutAt (λ b e. IsAmong (f b e) a) (before ++ x ∷ []) xs)
      → (IsAmong (f before x) a ⊎ IsAmong (each_after f (before ++ x ∷ []) xs) a)
      → IsCutAt (λ b e. IsAmong (f b e) a) before (x ∷ xs)
  each_step f before x xs a deeper (inl h) = first_here (λ b e. IsAmong (f b e) a) before x xs h
  each_step f before x xs a deeper (inr h) = later_cut (λ b e. IsAmong (f b e) a) before x xs (deeper h.place h.at)

  -- one of the events gives each value
  pub each_after-at : {A : Type 0} (f : List X → X → List A) (before xs : List X) (k : ℕ) (a : A)
      → slice_get (each_after f before xs) k ≡ Some a → IsCutAt (λ b e. IsAmong (f b e) a) before xs
  unfolding each_after
  each_after-at f before [] k a e = absurd (let none : ⊥ = cc in none)
  each_after-at f before (x ∷ xs) k a e =
      each_step f before x xs a (λ j. each_after-at f (before ++ x ∷ []) xs j a)
      (among-append (f before x) (each_after f (before ++ x ∷ []) xs) k a e)

-- ---- cuts with their places

-- a place in two lists is in the first, or so far in the second
pub record IsInSecond {X : Type 0} (xs ys : List X) (k : ℕ) (x : X) : Type 0 where
  pub place : ℕ
  pub place_is : length xs + place ≡ k
  pub at : slice_get ys place ≡ Some x

pub place-append : {X : Type 0} (xs ys : List X) (k : ℕ) (x : X) → slice_get (xs ++ ys) k ≡ Some x
    → (slice_get xs k ≡ Some x) ⊎ IsInSecond xs ys k x
place-append [] ys k x e = inr (record { place = k; place_is = omega arith; at = e })
place-append (y ∷ xs) ys zero x e = inl e
place-append (y ∷ xs) ys (suc k) x e = later (place-append xs ys k x e)
  where
    later : ((slice_get xs k ≡ Some x) ⊎ IsInSecond xs ys k x)
        → (slice_get (y ∷ xs) (suc k) ≡ Some x) ⊎ IsInSecond (y ∷ xs) ys (suc k) x
    later (inl h) = inl h
    later (inr h) = let is = h.place_is in inr (record { place = h.place; place_is = omega (arith, is); at = h.at })

module _ {X A : Type 0} (f : List X → X → List A) where
  -- a cut at an event that gives this value, with the number of values before it
  pub record IsPlaced (before xs : List X) (k : ℕ) (a : A) : Type 0 where
    pub inner : List X
    pub here : X
    pub after : List X
    pub cut : xs ≡ inner ++ here ∷ after
    pub place : ℕ
    pub place_is : length (each_after f before inner) + place ≡ k
    pub at : slice_get (f (before ++ inner) here) place ≡ Some a

  placed_here : (before : List X) (x : X) (xs : List X) (k : ℕ) (a : A) → slice_get (f before x) k ≡ Some a
      → IsPlaced before (x ∷ xs) k a
  unfolding each_after
  placed_here before x xs k a e =
      record {
        inner = [];
        here = x;
        after = xs;
        cut = refl;
        place = k;
        place_is = omega arith;
        at =
            ap (λ (b : List X). slice_get (f b x) k) (append-nil before) ∙ e;
      }

  placed_later : (before : List X) (x : X) (xs : List X) (k j : ℕ) (a : A) → length (f before x) + j ≡ k
      → IsPlaced (before ++ x ∷ []) xs j a → IsPlaced before (x ∷ xs) k a
  unfolding each_after
  placed_later before x xs k j a e h =
      let long : length (f before x ++ each_after f (before ++ x ∷ []) h.inner) ≡ length (f before x) + length
      (each_after f (before ++ x ∷ []) h.inner) =
      length-append (f before x) (each_after f (before ++ x ∷ []) h.inner) in
      let place = h.place_is in
      record {
        inner = x ∷ h.inner;
        here = h.here;
        after = h.after;
        cut = ap (λ (l : List X). x ∷ l) h.cut;
        place = h.place;
        place_is = omega (arith, long, place, e);
        at = ap (λ (b : List X). slice_get (f b h.here) h.place) (sym (append_assoc before (x ∷ []) h.inner)) ∙ h.at;
      }

  -- one of the events gives the value at a place of all values
  pub each_after-placed : (before xs : List X) (k : ℕ) (a : A) → slice_get (each_after f before xs) k ≡ Some a
      → IsPlaced before xs k a
  unfolding each_after
  each_after-placed before [] k a e = absurd (let none : ⊥ = cc in none)
  each_after-placed before (x ∷ xs) k a e =
      step (place-append (f before x) (each_after f (before ++ x ∷ []) xs) k a e)
      (λ j. each_after-placed (before ++ x ∷ []) xs j a)
    where
      step : ((slice_get (f before x) k ≡ Some a) ⊎ IsInSecond (f before x) (each_after f (before ++ x ∷ []) xs) k a)
          → ((j : ℕ) → slice_get (each_after f (before ++ x ∷ []) xs) j ≡ Some a → IsPlaced (before ++ x ∷ []) xs j a)
          → IsPlaced before (x ∷ xs) k a
      step (inl h) deeper = placed_here before x xs k a h
      step (inr h) deeper = placed_later before x xs k h.place a h.place_is (deeper h.place h.at)

-- the first events satisfy the predicate
pub AllAfter-front : {X : Type 0} (P : List X → X → Type 0) (before xs ys : List X) → AllAfter P before (xs ++ ys)
    → AllAfter P before xs
unfolding AllAfter
AllAfter-front P before [] ys all = tt
AllAfter-front P before (x ∷ xs) ys all = (all.0, AllAfter-front P (before ++ x ∷ []) xs ys all.1)

-- the event at each place satisfies the predicate
AllAfter-at_from : {X : Type 0} (P : List X → X → Type 0) (before xs : List X) (k : ℕ) (x : X) → AllAfter P before xs
    → slice_get xs k ≡ Some x → P (before ++ take k xs) x
unfolding AllAfter
AllAfter-at_from P before [] k x all e = absurd (let none : ⊥ = cc in none)
AllAfter-at_from P before (y ∷ xs) zero x all e = subst (P (before ++ [])) (same_some y x e)
    (subst (λ (b : List _). P b y) (sym (append-nil before)) all.0)
AllAfter-at_from P before (y ∷ xs) (suc k) x all e =
    subst (λ (b : List _). P b x) (append_assoc before (y ∷ []) (take k xs))
    (AllAfter-at_from P (before ++ y ∷ []) xs k x all.1 e)

pub AllAfter-at : {X : Type 0} (P : List X → X → Type 0) (xs : List X) (k : ℕ) (x : X) → AllAfter P [] xs
    → slice_get xs k ≡ Some x → P (take k xs) x
AllAfter-at P xs k x all e = AllAfter-at_from P [] xs k x all e

-- so do the first events
pub AllAfter-take : {X : Type 0} (P : List X → X → Type 0) (n : ℕ) (before xs : List X) → AllAfter P before xs
    → AllAfter P before (take n xs)
unfolding AllAfter
AllAfter-take P zero before xs all = tt
AllAfter-take P (suc n) before [] all = tt
AllAfter-take P (suc n) before (x ∷ xs) all = (all.0, AllAfter-take P n (before ++ x ∷ []) xs all.1)

-- the front of a list that is a map is the map of a front
pub front-map : {X Y : Type 0} (f : X → Y) (front rest more : List Y) (xs : List X) → front ++ rest ≡ map f xs ++ more
    → length front ≤ length xs → front ≡ map f (take (length front) xs)
front-map f [] rest more xs e few = refl
front-map f (y ∷ front) rest more [] e few = absurd (let none : ⊥ = omega (arith, few) in none)
front-map f (y ∷ front) rest more (x ∷ xs) e few =
    let tail = front-map f front rest more xs (same_tail y (f x) (front ++ rest) (map f xs ++ more) e)
    (omega (arith, few)) in
    ap (λ z. z ∷ front) (same_head y (f x) (front ++ rest) (map f xs ++ more) e) ∙ ap (λ (l : List _). f x ∷ l) tail
