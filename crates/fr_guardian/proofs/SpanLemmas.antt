-- Intervals that are found one after another are the maximal ones of a set.
use Rattle.std.proofs.Common.{◌≡◌, ℕ, ◌<◌, ◌≤◌, inl, inr, ◌⊎◌, List, [], ◌∷◌, ◌++◌, sym, subst, arith}
use Rattle.std.specs.List.{All}
use Rattle.std.proofs.lemmas.List.Elements.{All-push, All-nil, All-weaker, All-get_or, Contains-push}
use Rattle.std.proofs.lemmas.List.Elements.{Contains-push_cases, Contains-append_left}
use Rattle.std.proofs.lemmas.List.Quantifiers.{all_pairs_push}
use Rattle.std.proofs.lemmas.List.{append-nil}
use Rattle.std.proofs.lemmas.Bool.{cases_lt}
use Rattle.std.proofs.lemmas.Bool.Decides.{nat_tests}
use Rattle.fr_guardian.specs.Intervals.{Span, IsCovered, AreMaximalIntervals, run}

-- the intervals of the numbers of the set below this one; none touches it
pub record AreBelow (In : ℕ → Type 0) (since : ℕ) (spans : List Span) : Type 0 where
  pub maximal : AreMaximalIntervals (λ n. In n × (n < since)) spans
  pub ended : All (λ span. span.1 < since) spans

-- the numbers between these two are in the set, or none of them is
abbrev pub AllIn : (ℕ → Type 0) → ℕ → ℕ → Type 0
AllIn In start end = (n : ℕ) → start ≤ n → n < end → In n

abbrev pub NoneIn : (ℕ → Type 0) → ℕ → ℕ → Type 0
NoneIn In start end = (n : ℕ) → start ≤ n → n < end → In n → ⊥

covered_left : (xs ys : List Span) (n : ℕ) → IsCovered xs n → IsCovered (xs ++ ys) n
covered_left xs ys n h = record {
  span = h.span;
  of_list = Contains-append_left xs ys h.span h.of_list;
  from_start =
      h.from_start;
  before_end = h.before_end;
}

covered_last : (xs : List Span) (x : Span) (n : ℕ) → x.0 ≤ n → n < x.1 → IsCovered (xs ++ x ∷ []) n
covered_last xs x n from before = record {
  span = x;
  of_list = Contains-push xs x;
  from_start = from;
  before_end =
      before;
}

record IsWithin (x : Span) (n : ℕ) : Type 0 where
  from_start : x.0 ≤ n
  before_end : n < x.1

covered_cases : (xs : List Span) (x : Span) (n : ℕ) → IsCovered (xs ++ x ∷ []) n → IsCovered xs n ⊎ IsWithin x n
covered_cases xs x n h =
    elim (Contains-push_cases xs x h.span h.of_list) [
      | inl before ↦ inl (record {
        span = h.span;
        of_list = before;
        from_start = h.from_start;
        before_end =
            h.before_end;
      })
      | inr here ↦
          inr (record {
            from_start = subst (λ (y : Span). y.0 ≤ n) (sym here) h.from_start;
            before_end =
                subst (λ (y : Span). n < y.1) (sym here) h.before_end;
          })
    ]

-- one more interval, after all others
pushed : (In : ℕ → Type 0) (xs : List Span) (since end : ℕ) → AreBelow In since xs → since < end → AllIn In since end
    → AreMaximalIntervals (λ n. In n × (n < end)) (xs ++ (since, end) ∷ [])
pushed In xs since end h some inside =
    record {
      not_empty = All-push (λ (x : Span). x.0 < x.1) xs (since, end) h.maximal.not_empty some;
      apart = all_pairs_push (λ (x y : Span). x.1 < y.0) xs (since, end) h.maximal.apart
          (λ k d below. All-get_or (λ (x : Span). x.1 < since) xs k d below h.ended);
      covers = λ n in_set.
          elim (cases_lt n since) [
            | inl before ↦ covered_left xs _ n (h.maximal.covers n (in_set.0, before))
            | inr after ↦ covered_last xs (since, end) n after in_set.1
          ];
      covers_only = λ n covered.
          elim (covered_cases xs (since, end) n covered) [
            | inl before ↦ let w = h.maximal.covers_only n before in (w.0, omega (arith, w.1))
            | inr here ↦ (inside n here.from_start here.before_end, here.before_end)
          ];
    }

-- no more intervals
kept : (In : ℕ → Type 0) (xs : List Span) (since end : ℕ) → AreBelow In since xs → since ≤ end → end ≤ since
    → AreMaximalIntervals (λ n. In n × (n < end)) xs
kept In xs since end h a b =
    record {
      not_empty = h.maximal.not_empty;
      apart = h.maximal.apart;
      covers = λ n in_set. h.maximal.covers n (in_set.0, omega (arith, in_set.1));
      covers_only = λ n covered. let w = h.maximal.covers_only n covered in (w.0, omega (arith, w.1));
    }

run-some : (start end : ℕ) → start < end → run start end ≡ (start, end) ∷ []
run-some start end h = grind (arith, nat_tests)

run-none : (start end : ℕ) → end ≤ start → run start end ≡ []
run-none start end h = grind (arith, nat_tests)

closed_at : (In : ℕ → Type 0) (xs : List Span) (since end : ℕ) → AreBelow In since xs → since ≤ end → AllIn In since end
    → AreMaximalIntervals (λ n. In n × (n < end)) (xs ++ run since end)
closed_at In xs since end h ordered inside =
    elim (cases_lt since end) [
      | inl some ↦ subst (λ (ys : List Span). AreMaximalIntervals (λ n. In n × (n < end)) (xs ++ ys))
          (sym (run-some since end some)) (pushed In xs since end h some inside)
      | inr none ↦
          subst (λ (ys : List Span). AreMaximalIntervals (λ n. In n × (n < end)) (xs ++ ys))
          (sym (run-none since end none))
          (subst (λ (ys : List Span). AreMaximalIntervals (λ n. In n × (n < end)) ys) (sym (append-nil xs))
          (kept In xs since end h ordered none))
    ]

ended_at : (xs : List Span) (since end : ℕ) → All (λ (x : Span). x.1 < since) xs → since ≤ end
    → All (λ (x : Span). x.1 ≤ end) (xs ++ run since end)
ended_at xs since end h ordered =
    let before = All-weaker (λ (x : Span). x.1 < since) (λ (x : Span). x.1 ≤ end) (λ x k. omega arith) xs h in
    elim (cases_lt since end) [
      | inl some ↦ subst (λ (ys : List Span). All (λ (x : Span). x.1 ≤ end) (xs ++ ys)) (sym (run-some since end some))
          (All-push (λ (x : Span). x.1 ≤ end) xs (since, end) before (omega arith))
      | inr none ↦
          subst (λ (ys : List Span). All (λ (x : Span). x.1 ≤ end) (xs ++ ys)) (sym (run-none since end none))
          (subst (λ (ys : List Span). All (λ (x : Span). x.1 ≤ end) ys) (sym (append-nil xs)) before)
    ]

-- the same intervals for another bound, if no number of the set lies between
same_below : (In : ℕ → Type 0) (xs : List Span) (end next : ℕ) → AreMaximalIntervals (λ n. In n × (n < end)) xs
    → end ≤ next → NoneIn In end next
    → AreMaximalIntervals (λ n. In n × (n < next)) xs
same_below In xs end next h ordered none =
    record {
      not_empty = h.not_empty;
      apart = h.apart;
      covers = λ n in_set.
          elim (cases_lt n end) [
            | inl before ↦ h.covers n (in_set.0, before)
            | inr after ↦ absurd (none n after in_set.1 in_set.0)
          ];
      covers_only = λ n covered. let w = h.covers_only n covered in (w.0, omega (arith, w.1));
    }

-- ---- the invariant of the loop

pub none_below : (In : ℕ → Type 0) → AreBelow In 0 []
none_below In =
    record {
      maximal = record {
        not_empty = All-nil (λ (x : Span). x.0 < x.1);
        apart = λ i j d before below. absurd (omega arith);
        covers = λ n in_set. absurd (omega (arith, in_set.1));
        covers_only = λ n covered. absurd (omega (arith, covered.of_list.1));
      };
      ended = All-nil (λ (x : Span). x.1 < 0);
    }

-- a part of the set is followed by one that isn't in it
pub closed_below : (In : ℕ → Type 0) (xs : List Span) (since end next : ℕ) → AreBelow In since xs → since ≤ end
    → AllIn In since end → end < next → NoneIn In end next
    → AreBelow In next (xs ++ run since end)
closed_below In xs since end next h ordered inside more none =
    record {
      maximal = same_below In (xs ++ run since end) end next (closed_at In xs since end h ordered inside)
          (omega arith) none;
      ended = All-weaker (λ (x : Span). x.1 ≤ end) (λ (x : Span). x.1 < next) (λ x k. omega arith) (xs ++ run since end)
          (ended_at xs since end h.ended ordered);
    }

-- after the last part no number is in the set
pub closed_last : (In : ℕ → Type 0) (xs : List Span) (since end : ℕ) → AreBelow In since xs → since ≤ end
    → AllIn In since end → ((n : ℕ) → end ≤ n → In n → ⊥)
    → AreMaximalIntervals In (xs ++ run since end)
closed_last In xs since end h ordered inside none =
    let w = closed_at In xs since end h ordered inside in
    record {
      not_empty = w.not_empty;
      apart = w.apart;
      covers = λ n in_set.
          elim (cases_lt n end) [
            | inl before ↦ w.covers n (in_set, before)
            | inr after ↦ absurd (none n after in_set)
          ];
      covers_only = λ n covered. (w.covers_only n covered).0;
    }

-- ---- sets of the same numbers

pub same_set : (In Out : ℕ → Type 0) (xs : List Span) → ((n : ℕ) → In n → Out n) → ((n : ℕ) → Out n → In n)
    → AreMaximalIntervals In xs → AreMaximalIntervals Out xs
same_set In Out xs there back h =
    record {
      not_empty = h.not_empty;
      apart = h.apart;
      covers = λ n in_set. h.covers n (back n in_set);
      covers_only =
          λ n covered. there n (h.covers_only n covered);
    }

pub none_of : (In : ℕ → Type 0) → ((n : ℕ) → In n → ⊥) → AreMaximalIntervals In []
none_of In none =
    record {
      not_empty = All-nil (λ (x : Span). x.0 < x.1);
      apart = λ i j d before below. absurd (omega arith);
      covers = λ n in_set. absurd (none n in_set);
      covers_only = λ n covered. absurd (omega (arith, covered.of_list.1));
    }
