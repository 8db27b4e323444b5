-- The cycles that miss an expectation, with one more cycle.
use Rattle.std.proofs.Common.{◌≡◌, ℕ, zero, suc, ◌+◌, ◌≤◌, ◌<◌, ◌^◌, ◌&&◌, not, Bool, true, false, cond, List}
use Rattle.std.proofs.Common.{[], ◌∷◌, ◌++◌, length, Option, Some, None, refl, sym, ap, subst, ◌∙◌, append-nil}
use Rattle.std.proofs.Common.{length-append, arith}
use Rattle.std.specs.Prelude.{IfSome, slice_get}
use Rattle.std.specs.List.{filter, range_with_len}
use Rattle.fr_expecting.specs.Contents.{judged, with_miss}
use Rattle.fr_expecting.specs.declared.expectation.Expectation.{Expectation}
use Rattle.fr_expecting.specs.declared.missed.Found.{Found}
use Rattle.fr_expecting.specs.declared.missed.Missed.{Missed}
use Rattle.fr_expecting.specs.declared.missed.Found.TheVariants.{NoBuffer}
use Rattle.fr_expecting.specs.Expected.{found_by, found_in, found_with, meets, misses, missing, missed_at, missed_with}
use Rattle.fr_expecting.specs.Expected.{receive_filter}
use Rattle.fr_interface.specs.State.{State}
use Rattle.fr_runs.specs.Cycles.{names_cycle}
use Rattle.fr_slots.specs.declared.filter.Filter.{Filter}
use Rattle.fr_slots.specs.Plans.{buffer_at}

range_more : (first count : ℕ) → range_with_len first (count + 1) ≡ range_with_len first count ++ (first + count) ∷ []
range_more first zero = ap (λ (n : ℕ). n ∷ []) (omega arith)
range_more first (suc count) =
    let next : suc count + 1 ≡ suc (count + 1) = omega arith in
    let place : first + 1 + count ≡ first + suc count = omega arith in
    ap (λ (n : ℕ). range_with_len first n) next
    ∙ ap (λ (xs : List ℕ). first ∷ xs) (range_more (first + 1) count ∙ ap
    (λ (n : ℕ). range_with_len (first + 1) count ++ n ∷ []) place)

filter_more : (test : ℕ → Bool) (xs : List ℕ) (x : ℕ)
    → filter test (xs ++ x ∷ []) ≡ filter test xs ++ cond (test x) (x ∷ []) []
filter_more test [] x = refl
filter_more test (y ∷ xs) x = by_test (test y) (filter_more test xs x)
  where
    by_test : (b : Bool) → filter test (xs ++ x ∷ []) ≡ filter test xs ++ cond (test x) (x ∷ []) []
        → cond b (y ∷ filter test (xs ++ x ∷ [])) (filter test (xs ++ x ∷ []))
        ≡ cond b (y ∷ filter test xs) (filter test xs) ++ cond (test x) (x ∷ []) []
    by_test true rest = ap (λ (l : List ℕ). y ∷ l) rest
    by_test false rest = rest

module _ (x : Expectation) (found : ℕ → Found) where
  missing_more : (c : ℕ) → missing x found (c + 1) ≡ missing x found c ++ cond (misses x found c) (c ∷ []) []
  missing_more c =
      let place : 0 + c ≡ c = omega arith in
      ap (filter (misses x found)) (range_more 0 c ∙ ap (λ (n : ℕ). range_with_len 0 c ++ n ∷ []) place)
      ∙ filter_more (misses x found) (range_with_len 0 c) c

  one_more : (cs : List ℕ) (c : ℕ)
      → missed_at x found (cs ++ c ∷ []) ≡ with_miss x c (found c) (missed_at x found cs)
  one_more [] c = refl
  one_more (d ∷ cs) c =
      let longer : length (d ∷ cs ++ c ∷ []) ≡ length (d ∷ cs) + 1 = length-append (d ∷ cs) (c ∷ []) in
      ap (λ (count : ℕ). Some record {
        line = x.line;
        node = x.node;
        buffer = x.buffer;
        wanted = x.payload;
        cycle = d;
        found = found d;
        count = count;
      }) longer

  -- a cycle that misses it
  missed_more : (c : ℕ) → misses x found c ≡ true
      → missed_with (c + 1) x found ≡ with_miss x c (found c) (missed_with c x found)
  missed_more c is =
      ap (missed_at x found) (missing_more c ∙ ap (λ (b : Bool). missing x found c ++ cond b (c ∷ []) []) is)
      ∙ one_more (missing x found c) c

  -- a cycle that doesn't
  missed_same : (c : ℕ) → misses x found c ≡ false → missed_with (c + 1) x found ≡ missed_with c x found
  missed_same c is =
      ap (missed_at x found) (missing_more c ∙ ap (λ (b : Bool). missing x found c ++ cond b (c ∷ []) []) is
      ∙ append-nil (missing x found c))

  -- a cycle that the expectation doesn't name
  pub unnamed : (c : ℕ) (missed : Option Missed) → names_cycle x.cycles c ≡ false → missed ≡ missed_with c x found
      → missed ≡ missed_with (c + 1) x found
  unnamed c missed is so_far =
      so_far ∙ sym (missed_same c (ap (λ (b : Bool). b && not (meets x.payload (found c))) is))

  -- a cycle that it names
  pub named : (c : ℕ) (old missed : Option Missed) → names_cycle x.cycles c ≡ true → old ≡ missed_with c x found
      → missed ≡ judged x c (found c) old → missed ≡ missed_with (c + 1) x found
  named c old missed is so_far now =
      now ∙ ap (judged x c (found c)) so_far ∙ sym (by_content (meets x.payload (found c)) refl)
    where
      by_content : (b : Bool) → meets x.payload (found c) ≡ b
          → missed_with (c + 1) x found
          ≡ cond b (missed_with c x found) (with_miss x c (found c) (missed_with c x found))
      by_content true met = missed_same c (λ i. is i && not (met i))
      by_content false met = missed_more c (λ i. is i && not (met i))

  few_missing : (test : ℕ → Bool) (first count : ℕ) → length (filter test (range_with_len first count)) ≤ count
  few_missing test first zero = omega arith
  few_missing test first (suc count) = by_test (test first) (few_missing test (first + 1) count)
    where
      by_test : (b : Bool) → length (filter test (range_with_len (first + 1) count)) ≤ count
          → length (cond b (first ∷ filter test (range_with_len (first + 1) count))
          (filter test (range_with_len (first + 1) count))) ≤ suc count
      by_test true few = omega (arith, few)
      by_test false few = omega (arith, few)

  counted : (cs : List ℕ) (n : ℕ) → length cs ≤ n → IfSome (missed_at x found cs) (λ m. m.count ≤ n)
  counted [] n few = tt
  counted (c ∷ cs) n few = few

  below : (m c cycles : ℕ) → m ≤ c → c < cycles → cycles < 2 ^ 16 → m + 1 < 2 ^ 16
  below m c cycles few within fits = omega arith

  has_room : (o : Option Missed) (c cycles : ℕ) → IfSome o (λ m. m.count ≤ c) → c < cycles → cycles < 2 ^ 16
      → IfSome o (λ m. m.count + 1 < 2 ^ 16)
  has_room None c cycles few within fits = tt
  has_room (Some m) c cycles few within fits = below m.count c cycles few within fits

  -- no more cycles missed it than there are, so the number of one more fits
  pub room : (missed : Option Missed) (c cycles : ℕ) → missed ≡ missed_with c x found → c < cycles → cycles < 2 ^ 16
      → IfSome missed (λ m. m.count + 1 < 2 ^ 16)
  room missed c cycles so_far within fits =
      has_room missed c cycles (subst (λ (o : Option Missed). IfSome o (λ m. m.count ≤ c)) (sym so_far)
      (counted (missing x found c) c (few_missing (misses x found) 0 c))) within fits

-- ---- the buffer of an expectation

module _ (cycles : ℕ) (states : List State) (x : Expectation) where
  abbrev of_node : Option State → Option Missed
  of_node o = missed_with cycles x (found_by x.buffer o)

  pub no_node : slice_get states x.node ≡ None → missed_with cycles x (λ cycle. NoBuffer)
      ≡ missed_with cycles x (found_in states x)
  no_node is = sym (ap of_node is)

  pub of_filter : (s : State) (filter : Option Filter) → slice_get states x.node ≡ Some s
      → filter ≡ receive_filter (buffer_at s.plan x.buffer)
      → missed_with cycles x (found_with s filter) ≡ missed_with cycles x (found_in states x)
  of_filter s filter is same =
      ap (λ (f : Option Filter). missed_with cycles x (found_with s f)) same ∙ sym (ap of_node is)
