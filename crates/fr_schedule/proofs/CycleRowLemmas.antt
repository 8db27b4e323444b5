-- The cycles of a class, one repetition after another.
use Rattle.std.proofs.Common.{◌≡◌, ℕ, zero, suc, ◌+◌, ◌-◌, ◌*◌, ◌/◌, ◌%◌, ◌<◌, ◌≤◌, ◌==◌, Bool, true, false, not, cond}
use Rattle.std.proofs.Common.{◌&&◌, ◌||◌, List, [], ◌∷◌, get_or, take, drop, replicate, Option, Some, None, refl, sym}
use Rattle.std.proofs.Common.{ap, subst, ◌∙◌, inl, inr, arith}
use Rattle.std.proofs.lemmas.Bool.{and_parts, cases_Bool, cases_lt, eqb-true, eq-eqb, false_from_ne_true}
use Rattle.std.proofs.lemmas.List.{get_or-drop, get_or-replicate, get_or-take}
use Rattle.std.proofs.lemmas.Nat.{mod-mul-add}
use Rattle.std.proofs.Math.Nat.{div-mul-le_self, mul-le-mul_right}
use Rattle.std.specs.List.{list_any}
use Rattle.fr_slots.specs.Admission.{CycleClass, cycle_admitted, is_repetition, repetitions}
use Rattle.fr_slots.specs.Faults.{first_of, numbers_from}
use Rattle.fr_slots.proofs.FaultLemmas.{first-goes_on, first-found, first-ended}
use Rattle.fr_schedule.specs.DenseTable.{IsRowFree, at_place, first_taken_in, nobody, taken_in}

-- a turn lies within the row
pub turn_within : (turn step : ℕ) → turn < 64 / step → turn * step + step ≤ 64
turn_within turn step below =
    let most : (turn + 1) * step ≤ 64 / step * step = mul-le-mul_right step (omega (arith, below)) in
    omega (arith, most, div-mul-le_self 64 step)

-- numbers that give nothing are passed over
pub first_passed : (f : ℕ → Option ℕ) (n end k : ℕ) (o : Option ℕ) → n + k ≤ end → ((j : ℕ) → j < k → f (n + j) ≡ None)
    → first_of f (numbers_from n (end - n)) ≡ o → first_of f (numbers_from (n + k) (end - (n + k))) ≡ o
first_passed f n end zero o within none first =
    let same : n ≡ n + 0 = omega arith in
    subst (λ (m : ℕ). first_of f (numbers_from m (end - m)) ≡ o) same first
first_passed f n end (suc k) o within none first =
    let here : n + 0 ≡ n = omega arith in
    let same : (n + 1) + k ≡ n + suc k = omega arith in
    subst (λ (m : ℕ). first_of f (numbers_from m (end - m)) ≡ o) same
    (first_passed f (n + 1) end k o (omega arith)
    (λ j lt. let later : (n + 1) + j ≡ n + suc j = omega arith in ap f later ∙ none (suc j) (omega arith))
    (first-goes_on f n end o (omega arith) (ap f (sym here) ∙ none 0 (omega arith)) first))

-- one of the cycles of a turn is admitted
not_admitted : (c : CycleClass) (turn j : ℕ) → j < c.repetition → (j ≡ c.base → ⊥)
    → cycle_admitted c (turn * c.repetition + j) ≡ false
not_admitted c turn j below other =
    false_from_ne_true _ (λ is. other (sym (mod-mul-add turn c.repetition j below) ∙ eqb-true _ _ is))

passed_at : (nodes : List ℕ) (start : ℕ) (c : CycleClass) (turn j : ℕ) → j < c.repetition → (j ≡ c.base → ⊥)
    → taken_in nodes start c (turn * c.repetition + j) ≡ None
passed_at nodes start c turn j below other =
    let cycle = turn * c.repetition + j in
    ap (λ (b : Bool). let r : Option ℕ = cond (b && not (at_place nodes (start + cycle) == nobody)) (Some cycle) None
    in r) (not_admitted c turn j below other)

admitted_at : (nodes : List ℕ) (start : ℕ) (c : CycleClass) (turn : ℕ) (taken : Bool) → c.base < c.repetition
    → not (at_place nodes (start + (turn * c.repetition + c.base)) == nobody) ≡ taken
    → taken_in nodes start c (turn * c.repetition + c.base) ≡ cond taken (Some (turn * c.repetition + c.base)) None
admitted_at nodes start c turn taken below is =
    let cycle = turn * c.repetition + c.base in
    ap (λ (b : Bool). let r : Option ℕ = cond (b && not (at_place nodes (start + cycle) == nobody)) (Some cycle) None
    in r)
    (eq-eqb (cycle % c.repetition) c.base (mod-mul-add turn c.repetition c.base below))
    ∙ ap (λ (b : Bool). let r : Option ℕ = cond b (Some cycle) None in r) is

-- the cycles before the admitted one
up_to_base : (nodes : List ℕ) (start : ℕ) (c : CycleClass) (turn : ℕ) (o : Option ℕ) → c.base < c.repetition
    → turn * c.repetition + c.repetition ≤ 64
    → first_of (taken_in nodes start c) (numbers_from (turn * c.repetition) (64 - turn * c.repetition)) ≡ o
    → first_of (taken_in nodes start c) (numbers_from (turn * c.repetition + c.base)
    (64 - (turn * c.repetition + c.base))) ≡ o
up_to_base nodes start c turn o below within =
    first_passed (taken_in nodes start c) (turn * c.repetition) 64 c.base o (omega (arith, below, within))
    (λ j lt. passed_at nodes start c turn j (omega (arith, below, lt)) (λ same. omega (arith, lt, same)))

pub turn_finds : (nodes : List ℕ) (start : ℕ) (c : CycleClass) (turn : ℕ) (o : Option ℕ) → c.base < c.repetition
    → turn * c.repetition + c.repetition ≤ 64
    → not (at_place nodes (start + (turn * c.repetition + c.base)) == nobody) ≡ true
    → first_of (taken_in nodes start c) (numbers_from (turn * c.repetition) (64 - turn * c.repetition)) ≡ o
    → Some (turn * c.repetition + c.base) ≡ o
turn_finds nodes start c turn o below within taken first =
    first-found (taken_in nodes start c) (turn * c.repetition + c.base) 64 o (turn * c.repetition + c.base)
    (omega (arith, below, within))
    (admitted_at nodes start c turn true below taken) (up_to_base nodes start c turn o below within first)

pub turn_passes : (nodes : List ℕ) (start : ℕ) (c : CycleClass) (turn : ℕ) (o : Option ℕ) → c.base < c.repetition
    → turn * c.repetition + c.repetition ≤ 64
    → not (at_place nodes (start + (turn * c.repetition + c.base)) == nobody) ≡ false
    → first_of (taken_in nodes start c) (numbers_from (turn * c.repetition) (64 - turn * c.repetition)) ≡ o
    → first_of (taken_in nodes start c) (numbers_from ((turn + 1) * c.repetition) (64 - (turn + 1) * c.repetition)) ≡ o
turn_passes nodes start c turn o below within free first =
    let next : turn * c.repetition + c.repetition ≡ (turn + 1) * c.repetition = omega arith in
    subst (λ (m : ℕ). first_of (taken_in nodes start c) (numbers_from m (64 - m)) ≡ o) next
    (first_passed (taken_in nodes start c) (turn * c.repetition) 64 c.repetition o within each first)
  where
    each : (j : ℕ) → j < c.repetition → taken_in nodes start c (turn * c.repetition + j) ≡ None
    each j lt =
        elim (cases_lt j c.base) [
          | inl less ↦ passed_at nodes start c turn j lt (λ same. omega (arith, less, same))
          | inr more ↦
              (elim (cases_lt c.base j) [
                | inl greater ↦ passed_at nodes start c turn j lt (λ same. omega (arith, greater, same))
                | inr least ↦
                    (let same : c.base ≡ j = omega (arith, more, least) in
                    subst (λ (k : ℕ). taken_in nodes start c (turn * c.repetition + k) ≡ None) same
                    (admitted_at nodes start c turn false below free))
              ])
        ]

-- each of the repetitions divides a row
abbrev each_divides : List ℕ → Bool
each_divides [] = true
each_divides (r ∷ rs) = (64 / r * r == 64) && each_divides rs

ended_of : (r : ℕ) (rs : List ℕ) → each_divides rs ≡ true → list_any (λ q. r == q) rs ≡ true → 64 / r * r ≡ 64
ended_of r [] all is = cc is
ended_of r (q ∷ qs) all is =
    let (this, others) = and_parts (64 / q * q == 64) (each_divides qs) all in
    elim (cases_Bool (r == q)) [
      | inl same ↦ subst (λ (n : ℕ). 64 / n * n ≡ 64) (sym (eqb-true r q same)) (eqb-true (64 / q * q) 64 this)
      | inr other ↦ ended_of r qs others (ap (λ (b : Bool). b || list_any (λ q. r == q) qs) (sym other) ∙ is)
    ]

pub turn_ended : (f : ℕ → Option ℕ) (turn r : ℕ) (o : Option ℕ) → is_repetition r ≡ true → 64 / r ≤ turn
    → first_of f (numbers_from (turn * r) (64 - turn * r)) ≡ o → None ≡ o
turn_ended f turn r o is all first =
    let whole : 64 / r * r ≡ 64 = ended_of r repetitions refl is in
    let end : 64 / r * r ≤ turn * r = mul-le-mul_right r all in
    first-ended f (turn * r) 64 o (omega (arith, whole, end)) first

-- ---- a row without a node

-- no place of a free row is occupied
pub row_is_free : (nodes : List ℕ) (start : ℕ) → take 64 (drop start nodes) ≡ replicate 64 nobody
    → IsRowFree start nodes
row_is_free nodes start same cycle below =
    sym (get_or-drop start nodes cycle nobody)
    ∙ sym (get_or-take 64 (drop start nodes) cycle nobody below)
    ∙ ap (λ (row : List ℕ). get_or row cycle nobody) same
    ∙ get_or-replicate 64 cycle nobody nobody below

not_taken : (nodes : List ℕ) (start : ℕ) (c : CycleClass) (cycle : ℕ) → at_place nodes (start + cycle) ≡ nobody
    → taken_in nodes start c cycle ≡ None
not_taken nodes start c cycle free =
    ap (λ (n : ℕ). let r : Option ℕ = cond (cycle_admitted c cycle && not (n == nobody)) (Some cycle) None in r) free
    ∙ either (cycle_admitted c cycle)
  where
    either : (b : Bool) → let r : Option ℕ = cond (b && false) (Some cycle) None in r ≡ None
    either true = refl
    either false = refl

pub free_row_gives_none : (nodes : List ℕ) (start : ℕ) (c : CycleClass) → IsRowFree start nodes
    → None ≡ first_taken_in nodes start c
free_row_gives_none nodes start c free =
    let f : ℕ → Option ℕ = taken_in nodes start c in
    first-ended f 64 64 (first_of f (numbers_from 0 64)) (omega arith)
    (first_passed f 0 64 64 (first_of f (numbers_from 0 64)) (omega arith)
    (λ j lt. let same : j ≡ 0 + j = omega arith in ap f (sym same) ∙ not_taken nodes start c j (free j lt)) refl)
