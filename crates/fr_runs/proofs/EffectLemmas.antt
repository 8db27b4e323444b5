-- The effect of a line, with one more window, and the lines without effect, with one more line.
use Rattle.std.proofs.Common.{◌≡◌, ℕ, ◌+◌, ◌-◌, ◌≤◌, ◌<◌, ◌||◌, Bool, cond, true, false, List, [], ◌∷◌, ◌++◌, length}
use Rattle.std.proofs.Common.{take, drop, get_or, refl, sym, ap, ◌∙◌, ◌⊎◌, inl, inr, append_assoc, arith}
use Rattle.std.proofs.lemmas.List.{append-nil, drop_all, drop_more, take_more}
use Rattle.std.proofs.lemmas.List.Sums.{sum_by-append}
use Rattle.fr_bus.specs.Record.{Recorded}
use Rattle.fr_bus.specs.Windows.{begins_cycle, cycles_begun}
use Rattle.fr_runs.specs.declared.fault_line.FaultLine.{FaultLine}
use Rattle.fr_runs.specs.Effects.{has_effect, has_effect_after, has_effect_in, idle_numbers}

-- ---- one window more

module _ (rs : List Recorded) (n : ℕ) (r : Recorded) (lt : n < length rs) (is : r ≡ get_or rs n r) where
  pub passed : take (n + 1) rs ≡ take n rs ++ r ∷ []
  passed = take_more rs n r lt ∙ ap (λ (x : Recorded). take n rs ++ x ∷ []) (sym is)

  pub begun_more : cycles_begun (take (n + 1) rs) ≡ cycles_begun (take n rs) + cond (begins_cycle r) 1 0
  begun_more = ap cycles_begun passed ∙ omega (
    arith,
    sum_by-append (λ (x : Recorded). cond (begins_cycle x) 1 0)
        (take n rs) (r ∷ []),
  )

module _ (rs : List Recorded) (n : ℕ) (r : Recorded) (lt : n < length rs) (is : r ≡ get_or rs n r)
    (line : FaultLine) where
  next_left : drop n rs ≡ r ∷ drop (n + 1) rs
  next_left = drop_more rs n r lt ∙ ap (λ (x : Recorded). x ∷ drop (n + 1) rs) (sym is)

  by_front : (front : List Recorded) → take n rs ++ r ∷ [] ≡ front
      → has_effect_after line (take n rs) (r ∷ drop (n + 1) rs) ≡
      (has_effect_in line (cycles_begun front - 1) r || has_effect_after line front (drop (n + 1) rs))
  unfolding has_effect_after
  by_front front same = ap (λ (f : List Recorded). has_effect_in line (cycles_begun f - 1) r
      || has_effect_after line f (drop (n + 1) rs)) same

  -- the windows that are left, from the first of them
  pub effect_by_next : (begun : ℕ) → begun ≡ cycles_begun (take (n + 1) rs)
      → has_effect_after line (take n rs) (drop n rs) ≡ (has_effect_in line (begun - 1) r || has_effect_after line
      (take (n + 1) rs) (drop (n + 1) rs))
  effect_by_next begun begun_is =
      ap (has_effect_after line (take n rs)) next_left
      ∙ by_front (take (n + 1) rs) (sym (passed rs n r lt is))
      ∙ ap (λ (b : ℕ). has_effect_in line (b - 1) r || has_effect_after line (take (n + 1) rs) (drop (n + 1) rs))
      (sym begun_is)

pub effect_in_none : (line : FaultLine) (rs : List Recorded) (n : ℕ) → length rs ≤ n
    → has_effect_after line (take n rs) (drop n rs) ≡ false
unfolding has_effect_after
effect_in_none line rs n all = ap (has_effect_after line (take n rs)) (drop_all n rs all)

-- ---- one line more

module _ (rs : List Recorded) where
  none_numbered : (lines : List FaultLine) → idle_numbers rs lines [] ≡ []
  unfolding idle_numbers
  none_numbered [] = refl
  none_numbered (line ∷ lines) = refl

  no_lines : (numbers : List ℕ) → idle_numbers rs [] numbers ≡ []
  unfolding idle_numbers
  no_lines numbers = refl

  module _ (line : FaultLine) (lines : List FaultLine) (number : ℕ) (numbers idle all : List ℕ)
      (so_far : idle ++ idle_numbers rs (line ∷ lines) (number ∷ numbers) ≡ all) where
    by_first : idle_numbers rs (line ∷ lines) (number ∷ numbers) ≡ cond (has_effect rs line)
        (idle_numbers rs lines numbers) (number ∷ idle_numbers rs lines numbers)
    unfolding idle_numbers
    by_first = refl

    -- a line that had an effect
    pub line_effective : has_effect rs line ≡ true → idle ++ idle_numbers rs lines numbers ≡ all
    line_effective struck = sym (ap (λ (xs : List ℕ). idle ++ xs)
        (by_first ∙ ap (λ (b : Bool). cond b (idle_numbers rs lines numbers)
        (number ∷ idle_numbers rs lines numbers)) struck)) ∙ so_far

    -- a line that had no effect
    pub line_idle : has_effect rs line ≡ false → (idle ++ number ∷ []) ++ idle_numbers rs lines numbers ≡ all
    line_idle none =
        append_assoc idle (number ∷ []) (idle_numbers rs lines numbers)
        ∙ sym (ap (λ (xs : List ℕ). idle ++ xs) (by_first ∙ ap
        (λ (b : Bool). cond b (idle_numbers rs lines numbers) (number ∷ idle_numbers rs lines numbers)) none))
        ∙ so_far

  none_left : (lines : List FaultLine) (numbers : List ℕ) → (lines ≡ []) ⊎ (numbers ≡ [])
      → idle_numbers rs lines numbers ≡ []
  none_left lines numbers (inl none) = ap (λ (xs : List FaultLine). idle_numbers rs xs numbers) none
      ∙ no_lines numbers
  none_left lines numbers (inr none) = ap (idle_numbers rs lines) none ∙ none_numbered lines

  -- no line is left, or no number
  pub no_line_left : (lines : List FaultLine) (numbers idle all : List ℕ) → (lines ≡ []) ⊎ (numbers ≡ [])
      → idle ++ idle_numbers rs lines numbers ≡ all → idle ≡ all
  no_line_left lines numbers idle all none so_far =
      sym (append-nil idle) ∙ sym (ap (λ (xs : List ℕ). idle ++ xs) (none_left lines numbers none)) ∙ so_far
