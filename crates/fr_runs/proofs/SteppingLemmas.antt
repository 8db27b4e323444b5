-- One more entry of a journal, beside the record and the scripts.
use Rattle.std.proofs.Common.{◌≡◌, ◌<◌, ◌≤◌, ℕ, zero, suc, ◌+◌, Bool, true, false, List, [], ◌∷◌, length, set, Option}
use Rattle.std.proofs.Common.{Some, None, refl, sym, ap, subst, ◌∙◌, arith, take, get_or, inl, inr, IsTrue, ◌↔◌}
use Rattle.std.specs.Prelude.{count_by, slice_get, IfSome, replicate, ◌==◌}
use Rattle.std.proofs.lemmas.Bool.{eq-eqb}
use Rattle.std.proofs.lemmas.Bool.Decides.{eqb_tells}
use Rattle.std.proofs.lemmas.List.Sums.{count_by_more_no, count_by_more_yes, count_by-le-length}
use Rattle.std.proofs.lemmas.List.{take_all, length-take, length-take-le}
use Rattle.std.proofs.lemmas.Option.{slice_get_within, slice_get-get_or}
use Rattle.fr_bus.specs.Record.{Recorded}
use Rattle.fr_bus.specs.Windows.{begins_cycle, cycles_begun}
use Rattle.fr_core.specs.declared.script.Line.{Line}
use Rattle.fr_core.specs.Scripts.{Scripted}
use Rattle.fr_journal.specs.Forms.{Entry}
use Rattle.fr_journal.specs.declared.entry.Entry.TheVariants.{Commit, Withdraw, Read, Pop, Fetch, Observe}
use Rattle.fr_runs.specs.declared.stepping.Progress.{Progress}
use Rattle.fr_runs.specs.Stepping.{is_fetch, is_observe, task_of, is_task, is_by, is_beginning, lines_given, IsInStep}
use Rattle.fr_runs.specs.Stepping.{IsInTurn}
use Rattle.fr_runs.specs.Steps.{IsCountOf, IsProgress, Stands, StandsFor}
use Rattle.fr_slots.specs.Numbers.{most_tasks}

module _ {X : Type 0} where
  some_alike : (x y : X) → ◌≡◌ {A = Option X} (Some x) (Some y) → x ≡ y
  some_alike x y e = cc

  got : (xs : List X) (k : ℕ) (x : X) → slice_get xs k ≡ Some x → get_or xs k x ≡ x
  got xs k x at = some_alike (get_or xs k x) x (sym (slice_get-get_or xs k x (slice_get_within xs k x at)) ∙ at)

  -- the number of items that pass a test, with one more
  pub count_yes : (p : X → Bool) (xs : List X) (k : ℕ) (x : X) → slice_get xs k ≡ Some x → p x ≡ true
      → count_by p (take (k + 1) xs) ≡ count_by p (take k xs) + 1
  count_yes p xs k x at passes = count_by_more_yes p xs k x (slice_get_within xs k x at) (ap p (got xs k x at) ∙ passes)

  pub count_no : (p : X → Bool) (xs : List X) (k : ℕ) (x : X) → slice_get xs k ≡ Some x → p x ≡ false
      → count_by p (take (k + 1) xs) ≡ count_by p (take k xs)
  count_no p xs k x at fails = count_by_more_no p xs k x (slice_get_within xs k x at) (ap p (got xs k x at) ∙ fails)

  after_last : (xs : List X) (k : ℕ) → slice_get xs k ≡ None → length xs ≤ k
  after_last [] k none = omega arith
  after_last (x ∷ xs) zero none = absurd (let no : ⊥ = cc in no)
  after_last (x ∷ xs) (suc k) none = let rest = after_last xs k none in omega (arith, rest)

  get_set_here : (xs : List X) (i : ℕ) (y : X) → i < length xs → slice_get (set xs i y) i ≡ Some y
  get_set_here [] i y below = absurd (omega (arith, below))
  get_set_here (z ∷ xs) zero y below = refl
  get_set_here (z ∷ xs) (suc i) y below = get_set_here xs i y (omega (arith, below))

  get_set_other : (xs : List X) (i j : ℕ) (y : X) → ¬ (j ≡ i) → slice_get (set xs i y) j ≡ slice_get xs j
  get_set_other [] i j y other = refl
  get_set_other (z ∷ xs) zero zero y other = absurd (other refl)
  get_set_other (z ∷ xs) zero (suc j) y other = refl
  get_set_other (z ∷ xs) (suc i) zero y other = refl
  get_set_other (z ∷ xs) (suc i) (suc j) y other = get_set_other xs i j y (λ same. other (ap suc same))

  length_set : (xs : List X) (i : ℕ) (y : X) → length (set xs i y) ≡ length xs
  length_set [] i y = refl
  length_set (z ∷ xs) zero y = refl
  length_set (z ∷ xs) (suc i) y = ap suc (length_set xs i y)

  in_replicate : (y : X) (m k : ℕ) (x : X) → slice_get (replicate m y) k ≡ Some x → y ≡ x
  in_replicate y zero k x at = absurd (let none : ⊥ = cc in none)
  in_replicate y (suc m) zero x at = some_alike y x at
  in_replicate y (suc m) (suc k) x at = in_replicate y m k x at

-- ---- the cycles that began

begun_more : (rs : List Recorded) (k : ℕ) → is_beginning (slice_get rs k) ≡ true
    → cycles_begun (take (k + 1) rs) ≡ cycles_begun (take k rs) + 1
begun_more rs k begins = by_place (slice_get rs k) refl
  where
    by_place : (o : Option Recorded) → slice_get rs k ≡ o → cycles_begun (take (k + 1) rs) ≡ cycles_begun (take k rs) +
        1
    by_place None at = absurd (let none : false ≡ true = subst (λ o. is_beginning o ≡ true) at begins in let no : ⊥ =
        cc in no)
    by_place (Some r) at = count_yes begins_cycle rs k r at (subst (λ o. is_beginning o ≡ true) at begins)

begun_same : (rs : List Recorded) (k : ℕ) → is_beginning (slice_get rs k) ≡ false
    → cycles_begun (take (k + 1) rs) ≡ cycles_begun (take k rs)
begun_same rs k begins = by_place (slice_get rs k) refl
  where
    by_place : (o : Option Recorded) → slice_get rs k ≡ o → cycles_begun (take (k + 1) rs) ≡ cycles_begun (take k rs)
    by_place None at =
        let end = after_last rs k at in
        ap cycles_begun (take_all (k + 1) rs (omega (arith, end)) ∙ sym (take_all k rs end))
    by_place (Some r) at = count_no begins_cycle rs k r at (subst (λ o. is_beginning o ≡ false) at begins)

-- ---- kinds of entries

no_fetch : (e : Entry) (task : ℕ) → task_of e ≡ Some task → is_fetch e ≡ false
no_fetch (Commit t buffer payload) task is = refl
no_fetch (Withdraw t buffer of) task is = refl
no_fetch (Read t buffer from) task is = refl
no_fetch (Pop t from) task is = refl
no_fetch (Fetch window a b) task is = absurd (let none : ⊥ = cc in none)
no_fetch (Observe number a b) task is = refl

no_observe : (e : Entry) (task : ℕ) → task_of e ≡ Some task → is_observe e ≡ false
no_observe (Commit t buffer payload) task is = refl
no_observe (Withdraw t buffer of) task is = refl
no_observe (Read t buffer from) task is = refl
no_observe (Pop t from) task is = refl
no_observe (Fetch window a b) task is = refl
no_observe (Observe number a b) task is = absurd (let none : ⊥ = cc in none)

fetch_observes : (e : Entry) → is_fetch e ≡ true → is_observe e ≡ false
fetch_observes (Commit t buffer payload) is = absurd (let none : ⊥ = cc in none)
fetch_observes (Withdraw t buffer of) is = absurd (let none : ⊥ = cc in none)
fetch_observes (Read t buffer from) is = absurd (let none : ⊥ = cc in none)
fetch_observes (Pop t from) is = absurd (let none : ⊥ = cc in none)
fetch_observes (Fetch window a b) is = refl
fetch_observes (Observe number a b) is = absurd (let none : ⊥ = cc in none)

other_observes : (e : Entry) → task_of e ≡ None → is_fetch e ≡ false → is_observe e ≡ true
other_observes (Commit t buffer payload) none is = absurd (let no : ⊥ = cc in no)
other_observes (Withdraw t buffer of) none is = absurd (let no : ⊥ = cc in no)
other_observes (Read t buffer from) none is = absurd (let no : ⊥ = cc in no)
other_observes (Pop t from) none is = absurd (let no : ⊥ = cc in no)
other_observes (Fetch window a b) none is = absurd (let no : ⊥ = cc in no)
other_observes (Observe number a b) none is = refl

-- ---- one more entry

module _ (rs : List Recorded) (es : List Entry) (k : ℕ) (x : Progress) (far : IsProgress rs (take k es) x) (e : Entry)
    (at : slice_get es k ≡ Some e) where
  calls_on : task_of e ≡ None → (task : ℕ) (count : ℕ) → slice_get x.calls task ≡ Some count
      → IsCountOf (take (k + 1) es) task count
  calls_on none task count there = far.calls task count there ∙ sym
      (count_no (is_by task) es k e at (ap (is_task task) none))

  pub called : (task : ℕ) → task_of e ≡ Some task → task < most_tasks → (d : ℕ)
      → IsProgress rs (take (k + 1) es) (record x { calls = set x.calls task (get_or x.calls task d + 1) })
  called task is few d = record {
    fetches = far.fetches ∙ sym (count_no is_fetch es k e at (no_fetch e task is));
    observes = far.observes ∙ sym (count_no is_observe es k e at (no_observe e task is));
    begun = far.begun;
    as_many = length_set x.calls task _ ∙ far.as_many;
    calls = calls;
  }
    where
      below : task < length x.calls
      below = subst (λ n. task < n) (sym far.as_many) few

      calls : (of : ℕ) (count : ℕ) → slice_get (set x.calls task (get_or x.calls task d + 1)) of ≡ Some count
          → IsCountOf (take (k + 1) es) of count
      calls of count there = elim (eqb_tells task of) [
        | inl same ↦
            let counted : get_or x.calls task d ≡ count_by (is_by task) (take k es) =
            far.calls task _ (slice_get-get_or x.calls task d below) in
            let alike : get_or x.calls task d + 1 ≡ count =
            some_alike _ count (sym (get_set_here x.calls task _ below) ∙ ap
            (slice_get (set x.calls task (get_or x.calls task d + 1))) same.1 ∙ there) in
            subst (λ n. IsCountOf (take (k + 1) es) n count) same.1
            (sym alike ∙ ap (λ n. n + 1) counted ∙ sym (count_yes (is_by task) es k e at
            (ap (is_task task) is ∙ eq-eqb task task refl)))
        | inr other ↦
            far.calls of count (sym (get_set_other x.calls task of _ (λ same. other.1 (sym same))) ∙ there)
            ∙ sym (count_no (is_by of) es k e at (ap (is_task of) is ∙ other.0))
      ]

  pub fetched_first : task_of e ≡ None → is_fetch e ≡ true → is_beginning (slice_get rs x.fetches) ≡ true
      → IsProgress rs (take (k + 1) es) (record x { begun = x.begun + 1; fetches = x.fetches + 1 })
  fetched_first none is begins = record {
    fetches = ap (λ n. n + 1) far.fetches ∙ sym (count_yes is_fetch es k e at is);
    observes = far.observes ∙ sym (count_no is_observe es k e at (fetch_observes e is));
    begun = ap (λ n. n + 1) far.begun ∙ sym (begun_more rs x.fetches begins);
    as_many = far.as_many;
    calls = calls_on none;
  }

  pub fetched_more : task_of e ≡ None → is_fetch e ≡ true → is_beginning (slice_get rs x.fetches) ≡ false
      → IsProgress rs (take (k + 1) es) (record x { fetches = x.fetches + 1 })
  fetched_more none is begins = record {
    fetches = ap (λ n. n + 1) far.fetches ∙ sym (count_yes is_fetch es k e at is);
    observes = far.observes ∙ sym (count_no is_observe es k e at (fetch_observes e is));
    begun = far.begun ∙ sym (begun_same rs x.fetches begins);
    as_many = far.as_many;
    calls = calls_on none;
  }

  pub observed_more : task_of e ≡ None → is_fetch e ≡ false → IsProgress rs (take (k + 1) es)
      (record x { observes = x.observes + 1 })
  observed_more none is = record {
    fetches = far.fetches ∙ sym (count_no is_fetch es k e at is);
    observes = ap (λ n. n + 1) far.observes ∙ sym (count_yes is_observe es k e at (other_observes e none is));
    begun = far.begun;
    as_many = far.as_many;
    calls = calls_on none;
  }

  -- no count is above the number of entries
  within : k < length es
  within = slice_get_within es k e at

  as_long : length (take k es) ≡ k
  as_long = length-take-le k es (let below : k < length es = within in omega (arith, below))

  pub few_fetches : x.fetches ≤ k
  few_fetches =
      let counted = far.fetches in
      let upto = count_by-le-length is_fetch (take k es) in
      let long = as_long in
      omega (arith, counted, upto, long)

  pub few_observes : x.observes ≤ k
  few_observes =
      let counted = far.observes in
      let upto = count_by-le-length is_observe (take k es) in
      let long = as_long in
      omega (arith, counted, upto, long)

  pub few_begun : x.begun ≤ k
  few_begun =
      let counted = far.begun in
      let upto = count_by-le-length begins_cycle (take x.fetches rs) in
      let long = length-take x.fetches rs in
      let fetches = few_fetches in
      omega (arith, counted, upto, long, fetches)

  pub few_calls : (task d : ℕ) → task < most_tasks → get_or x.calls task d ≤ k
  few_calls task d few =
      let below : task < length x.calls = subst (λ n. task < n) (sym far.as_many) few in
      let counted = far.calls task _ (slice_get-get_or x.calls task d below) in
      let upto = count_by-le-length (is_by task) (take k es) in
      let long = as_long in
      omega (arith, counted, upto, long)

-- ---- the call that comes next

pub no_progress : (rs : List Recorded) → IsProgress rs []
    (record { fetches = 0; observes = 0; begun = 0; calls = replicate most_tasks 0 })
no_progress rs = record {
  fetches = refl;
  observes = refl;
  begun = refl;
  as_many = refl;
  calls = λ task count at. sym (in_replicate 0 most_tasks task count at);
}

module _ (rs : List Recorded) (before : List Entry) (x : Progress) (far : IsProgress rs before x) where
  in_step : (cycle : ℕ) → Stands rs cycle x → IsInStep rs cycle before
  in_step cycle stands = record {
    cycle_is = ap (λ n. cycles_begun (take n rs)) (sym far.fetches) ∙ sym far.begun ∙ stands.begun;
    beginning = subst (λ n. is_beginning (slice_get rs n) ≡ true) far.fetches stands.beginning;
    observed = sym far.observes ∙ stands.observed ∙ far.fetches;
  }

  stands_then : (cycle : ℕ) → IsInStep rs cycle before → Stands rs cycle x
  stands_then cycle step = record {
    begun = far.begun ∙ ap (λ n. cycles_begun (take n rs)) far.fetches ∙ step.cycle_is;
    beginning = subst (λ n. is_beginning (slice_get rs n) ≡ true) (sym far.fetches) step.beginning;
    observed = far.observes ∙ step.observed ∙ sym far.fetches;
  }

  turn_of : (lines : List Line) (task place : ℕ) → place ≡ count_by (is_by task) before
      → StandsFor rs lines place x ↔ IfSome (slice_get lines (count_by (is_by task) before))
      (λ line. IsInStep rs line.cycle before)
  turn_of lines task place same =
      subst (λ n. StandsFor rs lines place x ↔ IfSome (slice_get lines n) (λ line. IsInStep rs line.cycle before)) same
      (both_ways (slice_get lines place))
    where
      both_ways : (o : Option Line) → IfSome o (λ line. Stands rs line.cycle x) ↔ IfSome o
          (λ line. IsInStep rs line.cycle before)
      both_ways None = (λ a. a, λ a. a)
      both_ways (Some line) = (in_step line.cycle, stands_then line.cycle)

  -- the entry of a task is in its turn exactly if the walk is in step for the task's next line
  pub in_turn : (scripts : List Scripted) (node : ℕ) (e : Entry) (task d : ℕ) (b : Bool) → task_of e ≡ Some task
      → task < most_tasks
      → (IsTrue b ↔ StandsFor rs (lines_given scripts node task) (get_or x.calls task d) x)
      → IsTrue b ↔ IsInTurn rs scripts node before e
  in_turn scripts node e task d b is few tells =
      let below : task < length x.calls = subst (λ n. task < n) (sym far.as_many) few in
      let counted = far.calls task (get_or x.calls task d) (slice_get-get_or x.calls task d below) in
      let turn = turn_of (lines_given scripts node task) task (get_or x.calls task d) counted in
      subst (λ o. IsTrue b ↔ IfSome o (λ of. IfSome (slice_get (lines_given scripts node of)
      (count_by (is_by of) before)) (λ line. IsInStep rs line.cycle before))) (sym is)
      (λ yes. turn.0 (tells.0 yes), λ stands. tells.1 (turn.1 stands))
