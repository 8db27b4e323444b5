-- Cycles that two lines name.
use Rattle.std.proofs.Common.{◌≡◌, ℕ, zero, suc, ◌+◌, ◌-◌, ◌<◌, ◌≤◌, Bool, true, false, ◌&&◌, ◌||◌}
use Rattle.std.proofs.Common.{refl, sym, ap, subst, ◌∙◌, arith, inl, inr}
use Rattle.std.specs.Prelude.{◌%◌, ◌==◌, nat_le, min, max, not}
use Rattle.std.specs.List.{list_any, range_with_len}
use Rattle.std.proofs.lemmas.Bool.{cases_Bool, eqb-true, le-leb, leb-false, leb-true, lt-leb}
use Rattle.std.proofs.lemmas.Bool.Decides.{eqb_tells}
use Rattle.fr_core.proofs.CaseLemmas.{both, both_first, both_rest}
use Rattle.fr_runs.specs.Cycles.{cycles_within, names_cycle}
use Rattle.fr_runs.specs.declared.cycles.RunCycles.{RunCycles}
use Rattle.fr_runs.specs.declared.cycles.RunCycles.TheVariants.{Every, Only, Span}
use Rattle.fr_runs.specs.Suiting.{names_both, cycles_meet}

-- ---- cycles from a first one on

or_true : (b : Bool) → (b || true) ≡ true
or_true true = refl
or_true false = refl

or_false : (b : Bool) → (b || false) ≡ b
or_false true = refl
or_false false = refl

-- one of the cycles passes the test
any_from : (p : ℕ → Bool) (n first cycle : ℕ) → first ≤ cycle → cycle < first + n → p cycle ≡ true
    → list_any p (range_with_len first n) ≡ true
any_from p zero first cycle from below passes = absurd (omega arith)
any_from p (suc n) first cycle from below passes = elim (eqb_tells cycle first) [
  | inl same ↦ ap (λ b. b || list_any p (range_with_len (first + 1) n)) (subst (λ k. p k ≡ true) same.1 passes)
  | inr other ↦ ap (λ b. p first || b)
      (any_from p n (first + 1) cycle (omega (arith, other.1)) (omega arith) passes)
      ∙ or_true (p first)
]

-- if the first of them fails, one passes exactly if one of the others does
pub any_next : (p : ℕ → Bool) (cycle last : ℕ) (one : Bool) → cycle < last → p cycle ≡ false
    → list_any p (range_with_len cycle (last + 1 - cycle)) ≡ one
    → list_any p (range_with_len (cycle + 1) (last + 1 - (cycle + 1))) ≡ one
any_next p cycle last one below fails all =
    let more : last + 1 - cycle ≡ suc (last + 1 - (cycle + 1)) = omega arith in
    sym (ap (λ n. list_any p (range_with_len cycle n)) more
    ∙ ap (λ b. b || list_any p (range_with_len (cycle + 1) (last + 1 - (cycle + 1)))) fails) ∙ all

-- the last of them
pub any_last : (p : ℕ → Bool) (cycle last : ℕ) → cycle ≡ last
    → p last ≡ list_any p (range_with_len cycle (last + 1 - cycle))
any_last p cycle last is =
    let one : last + 1 - cycle ≡ 1 = omega arith in
    sym (ap (λ n. list_any p (range_with_len cycle n)) one ∙ or_false (p cycle) ∙ ap p is)

-- ---- lines that name one cycle

starts : (first last step cycle : ℕ) → names_cycle (Span first last step) cycle ≡ true → first ≤ cycle
starts first last step cycle named =
    leb-true first cycle (both_rest (not (step == 0)) (nat_le first cycle)
    (both_first (not (step == 0) && nat_le first cycle) (nat_le cycle last)
    (both_first (not (step == 0) && nat_le first cycle && nat_le cycle last) ((cycle - first) % step == 0) named)))

ends : (first last step cycle : ℕ) → names_cycle (Span first last step) cycle ≡ true → cycle ≤ last
ends first last step cycle named =
    leb-true cycle last (both_rest (not (step == 0) && nat_le first cycle) (nat_le cycle last)
    (both_first (not (step == 0) && nat_le first cycle && nat_le cycle last) ((cycle - first) % step == 0) named))

pub cycles_both : (c e : RunCycles) (n : ℕ) → names_cycle c n ≡ true → names_cycle e n ≡ true → cycles_meet c e ≡ true
cycles_both Every e n p q = refl
cycles_both (Only a) e n p q = subst (λ m. names_cycle e m ≡ true) (sym (eqb-true a n p)) q
cycles_both (Span first last step) Every n p q = refl
cycles_both (Span first last step) (Only b) n p q =
    subst (λ m. names_cycle (Span first last step) m ≡ true) (sym (eqb-true b n q)) p
cycles_both (Span first last step) (Span from to by) n p q =
    let one = starts first last step n p in
    let two = ends first last step n p in
    let three = starts from to by n q in
    let four = ends from to by n q in
    any_from (names_both (Span first last step) (Span from to by)) (min last to + 1 - max first from) (max first from) n
    (omega arith) (omega arith)
    (both (names_cycle (Span first last step) n) (names_cycle (Span from to by) n) p q)

-- ---- the cycles that a run has

-- of the cycles that the run has, the same are up to the earlier last one
same_up_to : (cycle last n : ℕ) → cycle < n → nat_le cycle (min last (n - 1)) ≡ nat_le cycle last
same_up_to cycle last n below = elim (cases_Bool (nat_le cycle last)) [
  | inl named ↦ le-leb cycle (min last (n - 1)) (omega (arith, below, leb-true cycle last named)) ∙ sym named
  | inr past ↦ lt-leb cycle (min last (n - 1)) (omega (arith, below, leb-false cycle last past)) ∙ sym past
]

pub within_same : (n : ℕ) (named : RunCycles) (cycle : ℕ) → cycle < n
    → names_cycle (cycles_within n named) cycle ≡ names_cycle named cycle
within_same n Every cycle below = refl
within_same n (Only only) cycle below = refl
within_same n (Span first last step) cycle below =
    ap (λ (b : Bool). not (step == 0) && nat_le first cycle && b && (cycle - first) % step == 0)
    (same_up_to cycle last n below)
