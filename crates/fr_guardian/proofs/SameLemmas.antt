-- A set has one list of maximal intervals.
use Rattle.std.proofs.Common.{◌≡◌, ℕ, zero, suc, ◌<◌, ◌≤◌, inl, inr, List, [], ◌∷◌, refl, sym, ap, subst, ◌∙◌, arith}
use Rattle.std.specs.Prelude.{Contains}
use Rattle.std.proofs.lemmas.Bool.{cases_lt}
use Rattle.fr_guardian.specs.Intervals.{Span, IsCovered, AreMaximalIntervals}

-- a number in one of several intervals is in the first or in a later one
data Placed (x : Span) (xs : List Span) (n : ℕ) : Type 0 where
  in_first : x.0 ≤ n → n < x.1 → Placed x xs n
  in_later : (span : Span) → Contains xs span → span.0 ≤ n → n < span.1 → Placed x xs n

placed_at : (x : Span) (xs : List Span) (n : ℕ) (span : Span) → Contains (x ∷ xs) span → span.0 ≤ n → n < span.1
    → Placed x xs n
placed_at x xs n span (zero, below, is) from before =
    in_first (subst (λ (s : Span). s.0 ≤ n) (sym is) from) (subst (λ (s : Span). n < s.1) (sym is) before)
placed_at x xs n span (suc k, below, is) from before = in_later span (k, omega arith, is) from before

placed : (x : Span) (xs : List Span) (n : ℕ) → IsCovered (x ∷ xs) n → Placed x xs n
placed x xs n h = placed_at x xs n h.span h.of_list h.from_start h.before_end

module _ (In : ℕ → Type 0) (x : Span) (xs : List Span) (h : AreMaximalIntervals In (x ∷ xs)) where
  first_some : x.0 < x.1
  first_some = h.not_empty 0 x (omega arith)

  inside : (n : ℕ) → x.0 ≤ n → n < x.1 → In n
  inside n from before = h.covers_only n
      (record { span = x; of_list = (0, omega arith, refl); from_start = from; before_end = before })

  later : (span : Span) → Contains xs span → x.1 < span.0
  later span (k, below, is) = subst (λ (s : Span). x.1 < s.0) is (h.apart 0 (suc k) span (omega arith) (omega arith))

  least : (n : ℕ) → In n → x.0 ≤ n
  least n in_set =
      elim (placed x xs n (h.covers n in_set)) [
        | in_first from before ↦ from
        | in_later span of_list from before ↦ omega (arith, later span of_list, first_some)
      ]

  gap : In x.1 → ⊥
  gap in_set =
      elim (placed x xs x.1 (h.covers x.1 in_set)) [
        | in_first from before ↦ omega arith
        | in_later span of_list from before ↦ omega (arith, later span of_list)
      ]

  rest : AreMaximalIntervals (λ n. In n × (x.1 < n)) xs
  rest =
      record {
        not_empty = λ k d below. h.not_empty (suc k) d (omega arith);
        apart = λ i j d sooner below. h.apart (suc i) (suc j) d (omega arith) (omega arith);
        covers = λ n in_set.
            elim (placed x xs n (h.covers n in_set.0)) [
              | in_first from before ↦ absurd (omega (arith, in_set.1))
              | in_later span of_list from before ↦ record {
                span = span;
                of_list = of_list;
                from_start = from;
                before_end = before;
              }
            ];
        covers_only = λ n covered. (
          h.covers_only n (record {
            span = covered.span;
            of_list =
                (suc covered.of_list.0, omega (arith, covered.of_list.1), covered.of_list.2);
            from_start =
                covered.from_start;
            before_end = covered.before_end;
          }),
          omega (arith, later covered.span covered.of_list, covered.from_start),
        );
      }

same_start : (In : ℕ → Type 0) (x y : Span) (xs ys : List Span) → AreMaximalIntervals In (x ∷ xs)
    → AreMaximalIntervals In (y ∷ ys) → x.0 ≡ y.0
same_start In x y xs ys h k =
    let there = least In x xs h y.0 (inside In y ys k y.0 (omega arith) (first_some In y ys k)) in
    let here = least In y ys k x.0 (inside In x xs h x.0 (omega arith) (first_some In x xs h)) in
    omega arith

not_sooner : (In : ℕ → Type 0) (x y : Span) (xs ys : List Span) → AreMaximalIntervals In (x ∷ xs)
    → AreMaximalIntervals In (y ∷ ys) → y.1 ≤ x.1
not_sooner In x y xs ys h k =
    let start = same_start In x y xs ys h k in
    let some = first_some In x xs h in
    elim (cases_lt x.1 y.1) [
      | inl sooner ↦ absurd (gap In x xs h (inside In y ys k x.1 (omega arith) sooner))
      | inr later ↦ later
    ]

same_end : (In : ℕ → Type 0) (x y : Span) (xs ys : List Span) → AreMaximalIntervals In (x ∷ xs)
    → AreMaximalIntervals In (y ∷ ys) → x.1 ≡ y.1
same_end In x y xs ys h k =
    let here = not_sooner In x y xs ys h k in
    let there = not_sooner In y x ys xs k h in
    omega arith

same_span : (x y : Span) → x.0 ≡ y.0 → x.1 ≡ y.1 → x ≡ y
same_span (a, b) (c, d) p q = cc

no_first : (In : ℕ → Type 0) (x : Span) (xs : List Span) → AreMaximalIntervals In [] → AreMaximalIntervals In (x ∷ xs)
    → ⊥
no_first In x xs h k = let covered = h.covers x.0 (inside In x xs k x.0 (omega arith) (first_some In x xs k)) in omega
    (arith, covered.of_list.1)

pub maximal_same : (In : ℕ → Type 0) (xs ys : List Span) → AreMaximalIntervals In xs → AreMaximalIntervals In ys
    → ys ≡ xs
maximal_same In [] [] h k = refl
maximal_same In [] (y ∷ ys) h k = absurd (no_first In y ys h k)
maximal_same In (x ∷ xs) [] h k = absurd (no_first In x xs k h)
maximal_same In (x ∷ xs) (y ∷ ys) h k =
    let end = same_end In x y xs ys h k in
    let later = subst (λ m. AreMaximalIntervals (λ n. In n × (m < n)) ys) (sym end) (rest In y ys k) in
    let front = same_span y x (sym (same_start In x y xs ys h k)) (sym end) in
    let back = maximal_same (λ n. In n × (x.1 < n)) xs ys (rest In x xs h) later in
    ap (λ (s : Span). s ∷ ys) front ∙ ap (λ (zs : List Span). x ∷ zs) back
