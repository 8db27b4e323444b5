-- The facts that follow from the tests of a fetch and of a commit.
use Rattle.std.proofs.Common.{◌≡◌, ℕ, ◌+◌, ◌*◌, ◌≤◌, ◌<◌, Bool, true, false, not, cond, ltb, List, length, Option, Some}
use Rattle.std.proofs.Common.{None, refl}
use Rattle.std.specs.Prelude.{IfSome, is_some, count_by}
use Rattle.std.proofs.lemmas.Bool.{leb-false, eqb-true, ltb-false}
use Rattle.fr_interface.specs.declared.errors.SlotError.TheVariants.{NotObserved, BadWindow, WindowOrder, SlotFull}
use Rattle.fr_interface.specs.State.{State, is_not_above, has_words, fetch_refusal}
use Rattle.fr_journal.specs.Entries.{is_slot}
use Rattle.fr_journal.specs.OpenWindow.{open_window, last_number}
use Rattle.fr_slots.specs.declared.plan.Buffer.{Buffer}
use Rattle.fr_slots.specs.Faults.{words_of}
use Rattle.fr_slots.specs.Parameters.{Parameters}
use Rattle.fr_slots.specs.Windows.{Opportunity, window_fits}

-- ---- the tests of a fetch

pub none_from_test : {A : Type 0} (t : Bool) (o : Option A) → t ≡ is_some o → t ≡ false → o ≡ None
none_from_test t None e f = refl
none_from_test t (Some x) e f = absurd cc

pub later_from_test : (number : ℕ) (o : Option ℕ) → is_not_above number o ≡ false → IfSome o (λ n. n < number)
later_from_test number None e = tt
later_from_test number (Some n) e = leb-false number n e

-- the facts of an accepted fetch
pub record IsFetchable (s : State) (window : Opportunity) : Type 0 where
  pub closed : open_window s.entries ≡ None
  pub fits : window_fits s.params window ≡ true
  pub later : IfSome (last_number s.entries) (λ n. n < window.number)
  pub room : count_by is_slot s.entries + 2 ≤ s.plan.slot_entries

passed : (p q r t : Bool) → cond p (Some NotObserved) (cond (not q) (Some BadWindow)
    (cond r (Some WindowOrder) (cond t (Some SlotFull) None))) ≡ None
    → (p ≡ false) × (q ≡ true) × (r ≡ false) × (t ≡ false)
passed true q r t is = absurd (let none : ⊥ = cc in none)
passed false false r t is = absurd (let none : ⊥ = cc in none)
passed false true true t is = absurd (let none : ⊥ = cc in none)
passed false true false true is = absurd (let none : ⊥ = cc in none)
passed false true false false is = (refl, refl, refl, refl)

pub fetchable : (s : State) (window : Opportunity) → fetch_refusal s window ≡ None → IsFetchable s window
fetchable s window none =
    let tests = passed (is_some (open_window s.entries)) (window_fits s.params window)
    (is_not_above window.number (last_number s.entries))
    (ltb s.plan.slot_entries (count_by is_slot s.entries + 2)) none in
    record {
      closed = none_from_test (is_some (open_window s.entries)) (open_window s.entries) refl tests.0;
      fits = tests.1;
      later = later_from_test window.number (last_number s.entries) tests.2;
      room = ltb-false s.plan.slot_entries (count_by is_slot s.entries + 2) tests.3;
    }

-- ---- the tests of a commit

pub words_from_test : (params : Parameters) (b : Buffer) (payload : List ℕ) → has_words params b payload ≡ true
    → length payload ≡ 2 * words_of params b
words_from_test params b payload h = eqb-true (length payload) (2 * words_of params b) h
