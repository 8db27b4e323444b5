-- The lines of a run, cycle after cycle, and the scripts of its tasks.
use mir.Val.{bool_byte}
use Rattle.std.proofs.Common.{◌≡◌, ℕ, zero, suc, ◌+◌, ◌-◌, ◌<◌, ◌≤◌, ◌==◌, Bool, true, false, cond, inl, inr, List, []}
use Rattle.std.proofs.Common.{◌∷◌}
use Rattle.std.proofs.Common.{◌++◌, refl, sym, ap, ◌∙◌, arith, append_assoc, ltb}
use Rattle.std.proofs.lemmas.Bool.{cases_Bool, cases_eq, eq-eqb, ltb-true, ltb-false}
use Rattle.std.proofs.lemmas.Bool.Decides.{nat_tests}
use Rattle.std.proofs.lemmas.List.{append-nil}
use Rattle.std.proofs.lemmas.List.Sums.{length-filter, sum_by-cons}
use Rattle.std.specs.List.{flat_map, range_with_len, sum_by}
use Rattle.std.specs.Prelude.{count_by, drop, length, map, slice_get, Some}
use Rattle.fr_expecting.proofs.PlaceLemmas.{here}
use Rattle.fr_runs.specs.declared.fault_line.FaultLine.{FaultLine}
use Rattle.fr_core.specs.Answers.{IsUnanswered, AreUnanswered}
use Rattle.fr_runs.specs.Cycles.{names_cycle}
use Rattle.fr_runs.specs.declared.cycles.RunCycles.{RunCycles}
use Rattle.fr_runs.specs.declared.cycles.RunCycles.TheVariants.{Every, Only}
use Rattle.fr_scenario.proofs.TextLemmas.{Each-append, script_unanswered}
use Rattle.fr_scenario.specs.Contents.{node_at, task_at}
use Rattle.fr_scenario.specs.declared.statement.Statement.{Statement}
use Rattle.fr_scenario.specs.RunContents.{faults_in_run, faults_on_line, numbers_in_run}
use Rattle.fr_scenario.specs.RunContents.{Planned, planned, lines_at, lines_in_run, script_in_run, scripts_in_run}
use Rattle.fr_slots.specs.Plans.{Each}

-- ---- one cycle or task more

next_in : (from to : ℕ) → from < to
    → range_with_len from (to - from) ≡ from ∷ range_with_len (from + 1) (to - (from + 1))
next_in from to less =
    let more : to - from ≡ suc (to - (from + 1)) = omega arith in
    ap (range_with_len from) more

none_in : (from to : ℕ) → to ≤ from → range_with_len from (to - from) ≡ []
none_in from to all =
    let none : to - from ≡ 0 = omega arith in
    ap (range_with_len from) none

module _ {X : Type 0} (F : ℕ → List X) where
  pub run_more : (xs ys : List X) (from to : ℕ) (all : List X) → from < to → ys ≡ xs ++ F from
      → xs ++ flat_map F (range_with_len from (to - from)) ≡ all
      → ys ++ flat_map F (range_with_len (from + 1) (to - (from + 1))) ≡ all
  run_more xs ys from to all less one so_far =
      let left = flat_map F (range_with_len (from + 1) (to - (from + 1))) in
      ap (λ (zs : List X). zs ++ left) one ∙ append_assoc xs (F from) left
      ∙ sym (ap (λ (ns : List ℕ). xs ++ flat_map F ns) (next_in from to less)) ∙ so_far

  pub run_begun : (to : ℕ) (xs : List X) → xs ≡ []
      → xs ++ flat_map F (range_with_len 0 (to - 0)) ≡ flat_map F (range_with_len 0 to)
  run_begun to xs none =
      let same : to - 0 ≡ to = omega arith in
      ap (λ (zs : List X). zs ++ flat_map F (range_with_len 0 (to - 0))) none
      ∙ ap (λ (n : ℕ). flat_map F (range_with_len 0 n)) same

  pub run_done : (xs : List X) (from to : ℕ) (all : List X) → to ≤ from
      → xs ++ flat_map F (range_with_len from (to - from)) ≡ all → xs ≡ all
  run_done xs from to all done so_far =
      sym (append-nil xs) ∙ sym (ap (λ (ns : List ℕ). xs ++ flat_map F ns) (none_in from to done)) ∙ so_far

-- ---- cycles that are counted

module _ (named : RunCycles) where
  counted_by : (b : Bool) (n : ℕ) (ns : List ℕ) → names_cycle named n ≡ b
      → count_by (names_cycle named) (n ∷ ns) ≡ cond b 1 0 + count_by (names_cycle named) ns
  counted_by true n ns is =
      let rest = length-filter (names_cycle named) ns in
      sym (length-filter (names_cycle named) (n ∷ ns)) ∙ rw is (omega (arith, rest))
  counted_by false n ns is =
      let rest = length-filter (names_cycle named) ns in
      sym (length-filter (names_cycle named) (n ∷ ns)) ∙ rw is (omega (arith, rest))

  pub count_more : (b : Bool) (count more from to all : ℕ) → names_cycle named from ≡ b → from < to
      → more ≡ count + cond b 1 0
      → count + count_by (names_cycle named) (range_with_len from (to - from)) ≡ all
      → more + count_by (names_cycle named) (range_with_len (from + 1) (to - (from + 1))) ≡ all
  count_more b count more from to all is less one so_far =
      let next = ap (count_by (names_cycle named)) (next_in from to less)
      ∙ counted_by b from (range_with_len (from + 1) (to - (from + 1))) is in
      omega (arith, next, one, so_far)

  pub count_done : (count from to all : ℕ) → to ≤ from
      → count + count_by (names_cycle named) (range_with_len from (to - from)) ≡ all → count ≡ all
  count_done count from to all done so_far =
      let none = ap (count_by (names_cycle named)) (none_in from to done) in
      omega (arith, none, so_far)

-- every cycle is named
count_all : (n from : ℕ) → count_by (names_cycle Every) (range_with_len from n) ≡ n
count_all zero from = refl
count_all (suc n) from =
    let rest = count_all n (from + 1) in
    let one = counted_by Every true from (range_with_len (from + 1) n) refl in
    omega (arith, one, rest)

pub count_every : (cycles : ℕ) → cycles ≡ count_by (names_cycle Every) (range_with_len 0 cycles)
count_every cycles = sym (count_all cycles 0)

-- one cycle is named, which stands before, after or in the range
module _ (only : ℕ) where
  count_before : (n from : ℕ) → only < from → count_by (names_cycle (Only only)) (range_with_len from n) ≡ 0
  count_before zero from less = refl
  count_before (suc n) from less =
      let other : (only == from) ≡ false = grind (arith, nat_tests) in
      let rest = count_before n (from + 1) (omega arith) in
      let none = counted_by (Only only) false from (range_with_len (from + 1) n) other in
      omega (arith, none, rest)

  count_after : (n from : ℕ) → from + n ≤ only → count_by (names_cycle (Only only)) (range_with_len from n) ≡ 0
  count_after zero from more = refl
  count_after (suc n) from more =
      let other : (only == from) ≡ false = grind (arith, nat_tests) in
      let rest = count_after n (from + 1) (omega arith) in
      let none = counted_by (Only only) false from (range_with_len (from + 1) n) other in
      omega (arith, none, rest)

  count_in : (n from : ℕ) → from ≤ only → only < from + n
      → count_by (names_cycle (Only only)) (range_with_len from n) ≡ 1
  count_in zero from low high = absurd (omega arith)
  count_in (suc n) from low high =
      elim (cases_eq only from) [
        | inl same ↦
            let rest = count_before n (from + 1) (omega (arith, same)) in
            let one = counted_by (Only only) true from (range_with_len (from + 1) n) (eq-eqb only from same) in
            omega (arith, one, rest)
        | inr different ↦
            let other : (only == from) ≡ false = grind (arith, nat_tests) in
            let rest = count_in n (from + 1) (omega (arith, different)) (omega arith) in
            let none = counted_by (Only only) false from (range_with_len (from + 1) n) other in
            omega (arith, none, rest)
      ]

  pub count_only : (cycles : ℕ)
      → bool_byte (ltb only cycles) ≡ count_by (names_cycle (Only only)) (range_with_len 0 cycles)
  count_only cycles = elim (cases_Bool (ltb only cycles)) [
    | inl less ↦ let low = ltb-true only cycles less in
        rw less (sym (count_in cycles 0 (omega arith) (omega (arith, low))))
    | inr more ↦ let high = ltb-false only cycles more in rw more (sym (count_after cycles 0 (omega (arith, high))))
  ]

-- ---- the statements of all lines, counted

pub lines_counted : {X : Type 0} (f : X → List Statement) (xs : List X)
    → sum_by (λ line. length line) (map f xs) ≡ sum_by (λ x. length (f x)) xs
lines_counted f [] = refl
lines_counted f (x ∷ xs) =
    sum_by-cons (λ line. length line) (f x) (map f xs)
    ∙ ap (λ (n : ℕ). length (f x) + n) (lines_counted f xs)
    ∙ sym (sum_by-cons (λ y. length (f y)) x xs)

-- ---- one line more

-- the line of this place, of which the statements are these
pub line_here : {X : Type 0} (f : X → List Statement) (xs : List X) (n : ℕ) (x : X) (line : List Statement)
    → slice_get xs n ≡ Some x → line ≡ f x → map f (drop n xs) ≡ line ∷ map f (drop (n + 1) xs)
line_here f xs n x line is same =
    ap (map f) (here xs n x is).left ∙ ap (λ (l : List Statement). l ∷ map f (drop (n + 1) xs)) (sym same)

pub faults_more : (cycles : ℕ) (line : List Statement) (left lines : List (List Statement))
    (old new all : List FaultLine)
    → lines ≡ line ∷ left → new ≡ old ++ faults_on_line cycles line → old ++ faults_in_run cycles lines ≡ all
    → new ++ faults_in_run cycles left ≡ all
faults_more cycles line left lines old new all here more so_far =
    ap (λ (fs : List FaultLine). fs ++ faults_in_run cycles left) more
    ∙ append_assoc old (faults_on_line cycles line) (faults_in_run cycles left)
    ∙ ap (λ (ls : List (List Statement)). old ++ faults_in_run cycles ls) (sym here)
    ∙ so_far

pub numbers_more : (cycles n next : ℕ) (line : List Statement) (left lines : List (List Statement))
    (old new all : List ℕ) → next ≡ n + 1 → lines ≡ line ∷ left
    → new ≡ old ++ map (λ f. n) (faults_on_line cycles line) → old ++ numbers_in_run cycles n lines ≡ all
    → new ++ numbers_in_run cycles next left ≡ all
numbers_more cycles n next line left lines old new all is here more so_far =
    ap (λ (k : ℕ). new ++ numbers_in_run cycles k left) is
    ∙ ap (λ (ns : List ℕ). ns ++ numbers_in_run cycles (n + 1) left) more
    ∙ append_assoc old (map (λ f. n) (faults_on_line cycles line)) (numbers_in_run cycles (n + 1) left)
    ∙ ap (λ (ls : List (List Statement)). old ++ numbers_in_run cycles n ls) (sym here)
    ∙ so_far

-- ---- no line has an answer

lines_unanswered_at : (plans : List Planned) (cycle : ℕ) → Each IsUnanswered (lines_at plans cycle)
lines_unanswered_at [] cycle = tt
lines_unanswered_at ((cycles, call) ∷ plans) cycle =
    let rest = lines_unanswered_at plans cycle in
    elim (cases_Bool (names_cycle cycles cycle)) [ inl here ↦ rw here (refl, rest) | inr there ↦ rw there rest ]

lines_unanswered_in : (plans : List Planned) (cycles : List ℕ) → Each IsUnanswered (flat_map (lines_at plans) cycles)
lines_unanswered_in plans [] = tt
lines_unanswered_in plans (c ∷ cycles) =
    Each-append IsUnanswered (lines_at plans c) (flat_map (lines_at plans) cycles) (lines_unanswered_at plans c)
    (lines_unanswered_in plans cycles)

scripts_unanswered_in : (cycles : ℕ) (statements : List Statement) (places : List ℕ)
    → AreUnanswered (flat_map (script_in_run cycles statements) places)
scripts_unanswered_in cycles statements [] = tt
scripts_unanswered_in cycles statements (k ∷ places) =
    let plans = planned (node_at k) (task_at k) statements in
    Each-append (λ script. Each IsUnanswered script.lines) (script_in_run cycles statements k)
    (flat_map (script_in_run cycles statements) places)
    (script_unanswered (node_at k) (task_at k) (lines_in_run cycles plans)
    (lines_unanswered_in plans (range_with_len 0 cycles)))
    (scripts_unanswered_in cycles statements places)

pub run_unanswered : (cycles : ℕ) (statements : List Statement) → AreUnanswered (scripts_in_run cycles statements)
unfolding scripts_in_run
run_unanswered cycles statements = scripts_unanswered_in cycles statements (range_with_len 0 128)
