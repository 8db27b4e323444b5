-- The calls of a run, gathered for each cycle and then for each task, and the scripts that they make.
use Rattle.std.proofs.Common.{◌≡◌, ◌≢◌, ℕ, zero, suc, ◌+◌, ◌<◌, ◌≤◌, ◌==◌, ◌&&◌, true, false, inl, inr, List}
use Rattle.std.proofs.Common.{[], ◌∷◌, ◌++◌, length, drop, get_or, set, replicate, refl, sym, ap, ◌∙◌, arith}
use Rattle.std.proofs.Common.{append_assoc}
use Rattle.std.proofs.lemmas.Bool.{cases_Bool, cases_eq, eq-eqb}
use Rattle.std.proofs.lemmas.Bool.Decides.{nat_tests}
use Rattle.std.proofs.lemmas.Grind.{flat_map-append}
use Rattle.std.proofs.lemmas.List.{append-nil, drop_more, get_or-set_same, get_or-set_other}
use Rattle.std.proofs.lemmas.List.FromFn.{fill_by_all}
use Rattle.std.specs.List.{flat_map, range_with_len}
use Rattle.fr_core.specs.declared.script.Line.{Line}
use Rattle.fr_interface.specs.declared.call.Call.{Call}
use Rattle.fr_runs.specs.Cycles.{names_cycle}
use Rattle.fr_runs.specs.declared.cycles.RunCycles.{RunCycles}
use Rattle.fr_runs.specs.declared.cycles.RunCycles.TheVariants.{Only}
use Rattle.fr_scenario.proofs.TaskLemmas.{line_more, nothing_yet, scripts_by}
use Rattle.fr_scenario.specs.Contents.{node_at, task_at}
use Rattle.fr_scenario.specs.declared.statement.Statement.{Statement}
use Rattle.fr_scenario.specs.declared.statement.Statement.TheVariants.{Nothing, Calls, Fault, Faults, Expected}
use Rattle.fr_scenario.specs.Gathering.{place_of, scripts_from, with_task_line}
use Rattle.fr_scenario.specs.RunCalls.{Made, calls_by, made_by, made_at, calls_at, place_in, place_by, lines_of}
use Rattle.fr_scenario.specs.RunCalls.{ArePlaces, AreLines}
use Rattle.fr_scenario.specs.RunContents.{planned, line_at, lines_at, lines_in_run, scripts_in_run}

-- ---- one place in the cycles so far

-- the cycles below this one have the place if they are named, and the others are unchanged
pub record Adding (named : RunCycles) (place : ℕ) (old now : List (List ℕ)) (cycle : ℕ) : Type 0 where
  pub done : (c : ℕ) → c < cycle → get_or now c [] ≡ get_or old c [] ++ place_in named place c
  pub left : (c : ℕ) → cycle ≤ c → get_or now c [] ≡ get_or old c []

pub adding_begun : (named : RunCycles) (place : ℕ) (old : List (List ℕ)) → Adding named place old old 0
adding_begun named place old = record { done = λ c less. absurd (omega arith); left = λ c more. refl }

module _ (named : RunCycles) (place : ℕ) (old now : List (List ℕ)) (cycle : ℕ) where
  pub skip_more : names_cycle named cycle ≡ false → Adding named place old now cycle
      → Adding named place old now (cycle + 1)
  skip_more is so_far = record {
    done = λ c less. elim (cases_eq c cycle) [
      | inl same ↦
          let none : place_in named place c ≡ [] = rw (same, is) refl in
          so_far.left c (omega (arith, same)) ∙ sym (append-nil (get_or old c []))
          ∙ ap (λ more. get_or old c [] ++ more) (sym none)
      | inr other ↦ so_far.done c (omega (arith, other))
    ];
    left = λ c more. so_far.left c (omega arith);
  }

  pub add_more : (new : List (List ℕ)) → names_cycle named cycle ≡ true → cycle < length now
      → new ≡ set now cycle (get_or now cycle [] ++ place ∷ []) → Adding named place old now cycle
      → Adding named place old new (cycle + 1)
  add_more new is inside set_is so_far =
      let with = get_or now cycle [] ++ place ∷ [] in
      let changed = λ (c : ℕ) (other : c ≢ cycle). ap (λ xs. get_or xs c []) set_is
      ∙ get_or-set_other now cycle c with [] other in
      record {
        done = λ c less. elim (cases_eq c cycle) [
          | inl same ↦
              let one : place_in named place c ≡ place ∷ [] = rw (same, is) refl in
              ap (λ xs. get_or xs c []) set_is ∙ ap (λ j. get_or (set now cycle with) j []) same
              ∙ get_or-set_same now cycle with [] inside
              ∙ ap (λ xs. xs ++ place ∷ []) (so_far.left cycle (omega arith) ∙ ap (λ j. get_or old j []) (sym same))
              ∙ ap (λ more. get_or old c [] ++ more) (sym one)
          | inr other ↦ changed c other ∙ so_far.done c (omega (arith, other))
        ];
        left = λ c more. changed c (λ same. omega (arith, same)) ∙ so_far.left c (omega arith);
      }

-- ---- one place in one cycle

pub one_more : (cycle place : ℕ) (old new : List (List ℕ)) → cycle < length old
    → new ≡ set old cycle (get_or old cycle [] ++ place ∷ [])
    → (c : ℕ) → get_or new c [] ≡ get_or old c [] ++ place_in (Only cycle) place c
one_more cycle place old new inside set_is c =
    let with = get_or old cycle [] ++ place ∷ [] in
    elim (cases_eq c cycle) [
      | inl same ↦
          let is : (cycle == c) ≡ true = eq-eqb cycle c (sym same) in
          let one : place_in (Only cycle) place c ≡ place ∷ [] = rw is refl in
          ap (λ xs. get_or xs c []) set_is ∙ ap (λ j. get_or (set old cycle with) j []) same
          ∙ get_or-set_same old cycle with [] inside ∙ ap (λ j. get_or old j [] ++ place ∷ []) (sym same)
          ∙ ap (λ more. get_or old c [] ++ more) (sym one)
      | inr other ↦
          let is : (cycle == c) ≡ false = grind (arith, nat_tests) in
          let none : place_in (Only cycle) place c ≡ [] = rw is refl in
          ap (λ xs. get_or xs c []) set_is ∙ get_or-set_other old cycle c with [] other
          ∙ sym (append-nil (get_or old c [])) ∙ ap (λ more. get_or old c [] ++ more) (sym none)
    ]

pub none_more : (cycle cycles place : ℕ) (old : List (List ℕ)) → cycles ≤ cycle
    → (c : ℕ) → c < cycles → get_or old c [] ≡ get_or old c [] ++ place_in (Only cycle) place c
none_more cycle cycles place old late c less =
    let is : (cycle == c) ≡ false = grind (arith, nat_tests) in
    let none : place_in (Only cycle) place c ≡ [] = rw is refl in
    sym (append-nil (get_or old c [])) ∙ ap (λ more. get_or old c [] ++ more) (sym none)

-- ---- one statement more

-- the call at a statement's place is the statement's
placed : (statements : List Statement) (place c : ℕ) (statement : Statement)
    → get_or statements place Nothing ≡ statement
    → calls_at statements (place_by statement place c) ≡ made_by c statement
placed statements place c Nothing is = refl
placed statements place c (Calls node task named call) is =
    elim (cases_Bool (names_cycle named c)) [
      | inl here ↦ rw here (ap (λ statement. calls_by statement ++ []) is)
      | inr there ↦ rw there refl
    ]
placed statements place c (Fault f) is = refl
placed statements place c (Faults a b) is = refl
placed statements place c (Expected node named buffer payload) is = refl

pub statement_more : (statements : List Statement) (place c : ℕ) (now new : List ℕ) → place < length statements
    → new ≡ now ++ place_by (get_or statements place Nothing) place c
    → calls_at statements now ++ made_at c (drop place statements) ≡ made_at c statements
    → calls_at statements new ++ made_at c (drop (place + 1) statements) ≡ made_at c statements
statement_more statements place c now new inside is so_far =
    let statement = get_or statements place Nothing in
    let rest = made_at c (drop (place + 1) statements) in
    let next : made_at c (drop place statements) ≡ made_by c statement ++ rest =
    ap (made_at c) (drop_more statements place Nothing inside) in
    ap (λ xs. calls_at statements xs ++ rest) is
    ∙ ap (λ xs. xs ++ rest) (flat_map-append (λ j. calls_by (get_or statements j Nothing)) now
    (place_by statement place c))
    ∙ ap (λ xs. (calls_at statements now ++ xs) ++ rest) (placed statements place c statement refl)
    ∙ append_assoc (calls_at statements now) (made_by c statement) rest
    ∙ ap (λ xs. calls_at statements now ++ xs) (sym next) ∙ so_far

pub no_places : (statements : List Statement) (cycles c : ℕ) (now : List (List ℕ)) → now ≡ replicate cycles []
    → calls_at statements (get_or now c []) ≡ []
no_places statements cycles c now none =
    ap (λ xs. calls_at statements (get_or xs c [])) none ∙ ap (calls_at statements) (nothing_yet cycles c)

-- ---- the lines of a task

-- the line of one call
pub call_line : (tasks new : List (List Line)) (cycle node task : ℕ) (call : Call) (k : ℕ)
    → node_at (place_of node task) ≡ node → task_at (place_of node task) ≡ task
    → place_of node task < length tasks → new ≡ with_task_line (place_of node task) (line_at cycle call) tasks
    → get_or new k [] ≡ get_or tasks k [] ++ lines_of (node_at k) (task_at k) cycle ((node, task, call) ∷ [])
call_line tasks new cycle node task call k of by inside is =
    sym (append-nil (get_or new k [])) ∙ ap (λ xs. get_or xs k [] ++ []) is
    ∙ line_more tasks node task (line_at cycle call) [] k of by inside

lines_append : (n t cycle : ℕ) (xs ys : List Made)
    → lines_of n t cycle (xs ++ ys) ≡ lines_of n t cycle xs ++ lines_of n t cycle ys
lines_append n t cycle [] ys = refl
lines_append n t cycle ((node, task, call) ∷ xs) ys =
    elim (cases_Bool (node == n && task == t)) [
      | inl own ↦ rw own (ap (λ lines. line_at cycle call ∷ lines) (lines_append n t cycle xs ys))
      | inr other ↦ rw other (lines_append n t cycle xs ys)
    ]

-- the lines of one place more
pub place_more : (statements : List Statement) (tasks new : List (List Line)) (cycle place k : ℕ) (places : List ℕ)
    (all : List Line)
    → get_or new k [] ≡ get_or tasks k [] ++ lines_of (node_at k) (task_at k) cycle (calls_at statements (place ∷ []))
    → get_or tasks k [] ++ lines_of (node_at k) (task_at k) cycle (calls_at statements (place ∷ places)) ≡ all
    → get_or new k [] ++ lines_of (node_at k) (task_at k) cycle (calls_at statements places) ≡ all
place_more statements tasks new cycle place k places all one so_far =
    let lines = lines_of (node_at k) (task_at k) cycle in
    let first = calls_at statements (place ∷ []) in
    let rest = calls_at statements places in
    let split : calls_at statements (place ∷ places) ≡ first ++ rest =
    flat_map-append (λ j. calls_by (get_or statements j Nothing)) (place ∷ []) places in
    ap (λ xs. xs ++ lines rest) one ∙ append_assoc (get_or tasks k []) (lines first) (lines rest)
    ∙ ap (λ xs. get_or tasks k [] ++ xs) (sym (ap lines split ∙ lines_append (node_at k) (task_at k) cycle first rest))
    ∙ so_far

-- those of the calls of a cycle are those of the statements that name it
lines_made : (n t cycle : ℕ) (statements : List Statement)
    → lines_of n t cycle (made_at cycle statements) ≡ lines_at (planned n t statements) cycle
lines_made n t cycle [] = refl
lines_made n t cycle (Nothing ∷ statements) = lines_made n t cycle statements
lines_made n t cycle (Fault f ∷ statements) = lines_made n t cycle statements
lines_made n t cycle (Faults a b ∷ statements) = lines_made n t cycle statements
lines_made n t cycle (Expected node named buffer payload ∷ statements) = lines_made n t cycle statements
lines_made n t cycle (Calls node task named call ∷ statements) =
    let rest = lines_made n t cycle statements in
    elim (cases_Bool (node == n && task == t)) [
      | inl own ↦ elim (cases_Bool (names_cycle named cycle)) [
        | inl here ↦ rw (own, here) (rw own (ap (λ lines. line_at cycle call ∷ lines) rest))
        | inr there ↦ rw (own, there) rest
      ]
      | inr other ↦ elim (cases_Bool (names_cycle named cycle)) [
        | inl here ↦ rw (other, here) (rw other rest)
        | inr there ↦ rw (other, there) rest
      ]
    ]

-- two functions that agree below a bound
module _ {X : Type 0} (f g : ℕ → List X) where
  agree_below : (n from to : ℕ) → from + n ≤ to → ((c : ℕ) → c < to → f c ≡ g c)
      → flat_map f (range_with_len from n) ≡ flat_map g (range_with_len from n)
  agree_below zero from to high same = refl
  agree_below (suc n) from to high same =
      ap (λ xs. xs ++ flat_map f (range_with_len (from + 1) n)) (same from (omega arith))
      ∙ ap (λ xs. g from ++ xs) (agree_below n (from + 1) to (omega arith) same)

task_made : (cycles : ℕ) (statements : List Statement) (places : List (List ℕ)) (n t : ℕ)
    → ArePlaces cycles statements places
    → flat_map (λ cycle. lines_of n t cycle (calls_at statements (get_or places cycle []))) (range_with_len 0 cycles)
    ≡ lines_in_run cycles (planned n t statements)
task_made cycles statements places n t are =
    agree_below (λ cycle. lines_of n t cycle (calls_at statements (get_or places cycle [])))
    (lines_at (planned n t statements)) cycles 0 cycles (omega arith)
    (λ c less. ap (lines_of n t c) (are c less) ∙ lines_made n t c statements)

pub scripts_made : (cycles : ℕ) (statements : List Statement) (places : List (List ℕ)) (tasks : List (List Line))
    → ArePlaces cycles statements places → AreLines cycles statements places tasks → length tasks ≡ 128
    → scripts_from 0 tasks ≡ scripts_in_run cycles statements
unfolding scripts_in_run
scripts_made cycles statements places tasks are lines len =
    let f = λ (k : ℕ). lines_in_run cycles (planned (node_at k) (task_at k) statements) in
    ap (scripts_from 0) (fill_by_all f tasks 128 [] len
    (λ k within. lines k within ∙ task_made cycles statements places (node_at k) (task_at k) are)) ∙ scripts_by f 128 0
