-- The consequence of a test of each line beside the next.
use Rattle.std.proofs.Common.{◌≡◌, ◌≤◌, ℕ, Bool, true, false, List, [], ◌∷◌, Some, refl, sym, ◌∙◌, arith, rules, tests}
use Rattle.std.specs.Prelude.{◌↔◌, IsTrue}
use Rattle.std.specs.List.{IsAllAdjacentAnswer}
use Rattle.std.specs.Ordering.{is_le, is_some_and, nat_cmp}
use Rattle.std.proofs.lemmas.Bool.{true≢false}
use Rattle.fr_core.specs.declared.script.Line.{Line}
use Rattle.fr_runs.specs.Suiting.{AreInOrder}

tests_le : (a b : ℕ) → is_some_and is_le (Some (nat_cmp a b)) ≡ true → a ≤ b
tests_le a b e = search (rules, tests)

le_tests : (a b : ℕ) → a ≤ b → is_some_and is_le (Some (nat_cmp a b)) ≡ true
le_tests a b e = search (rules, tests)

pub in_order_told : (lines : List Line) (r : Bool)
    → IsAllAdjacentAnswer (λ (x : Line) (y : Line) b. b ≡ is_some_and is_le (Some (nat_cmp x.cycle y.cycle))) lines r
    → IsTrue r ↔ AreInOrder lines
in_order_told lines true told = (λ e k d below. tests_le _ _ (sym (told k d below)), λ in_order. refl)
in_order_told [] false told = (
  λ e. absurd (true≢false (sym e)),
  λ in_order. absurd (let below = told.1 in omega (arith, below)),
)
in_order_told (line ∷ lines) false told = (
  λ e. absurd (true≢false (sym e)),
  λ in_order. absurd (true≢false (sym (le_tests _ _ (in_order told.0 line told.1)) ∙ sym (told.2 line))),
)
