-- The result of several steps of the cycle barrier.
use Rattle.std.proofs.Common.{◌≡◌, ℕ, zero, suc, ◌-◌, false, cond, Some, ap, arith, ◌∙◌}
use Rattle.std.specs.Prelude.{nat_le}
use Rattle.std.proofs.lemmas.Bool.Decides.{nat_tests}
use Rattle.fr_threads.specs.declared.pace.Progress.{Progress}
use Rattle.fr_threads.specs.Pacing.{is_last, arrived, task_done}

-- the same step, `n` times
unfoldable pub repeated : (Progress → Progress) → ℕ → Progress → Progress
repeated f zero p = p
repeated f (suc k) p = repeated f k (f p)

-- once each task that has lines has executed them, none is busy
pub all_done : (k : ℕ) (p : Progress) → p.busy ≡ k → (repeated task_done k p).busy ≡ 0
unfolding repeated
all_done zero p busy = busy
all_done (suc k) p busy = all_done k (task_done p) (let less : p.busy - 1 ≡ k = omega (arith, busy) in less)

module _ (nodes cycle tasks : ℕ) where
  abbrev pub all_due : Progress → Progress
  all_due p = record p { missing = nodes; due = Some cycle; busy = tasks }

  abbrev pub one_less : Progress → Progress
  one_less p = record p { missing = p.missing - 1 }

  -- When the last controller arrives, and not before, the lines of the cycle are due, and the tasks that have some are
  -- busy.
  pub all_came : (k : ℕ) (p : Progress) → p.missing ≡ suc k → repeated (arrived nodes cycle tasks) (suc k) p ≡ all_due p
  unfolding repeated
  all_came zero p missing = ap (λ b. cond b (all_due p) (one_less p)) (ap (λ n. nat_le n 1) missing)
  all_came (suc k) p missing =
      let more : is_last p ≡ false = grind (arith, nat_tests, missing) in
      ap (repeated (arrived nodes cycle tasks) (suc k)) (ap (λ b. cond b (all_due p) (one_less p)) more)
      ∙ all_came k (one_less p) (let less : p.missing - 1 ≡ suc k = omega (arith, missing) in less)
