-- One more entry of a journal, beside the scripts.
use Rattle.std.proofs.Common.{◌≡◌, ◌<◌, ◌≤◌, ℕ, zero, suc, ◌+◌, true, cond, List, [], ◌∷◌, length, set, Option, Some}
use Rattle.std.proofs.Common.{None, refl, sym, ap, subst, ◌∙◌, arith, take, get_or, inl, inr}
use Rattle.std.specs.Prelude.{slice_get, option_to_list, replicate, ◌==◌, IfSome}
use Rattle.std.proofs.lemmas.Bool.{eq-eqb}
use Rattle.std.proofs.lemmas.Bool.Decides.{eqb_tells}
use Rattle.std.proofs.lemmas.List.{length-take-le}
use Rattle.std.proofs.lemmas.Option.{slice_get_within, slice_get-get_or}
use Rattle.fr_core.proofs.WalkLemmas.{as_many_past, as_many_on, as_many_all, stands, some_alike}
use Rattle.fr_core.specs.declared.tasks.Course.{Course}
use Rattle.fr_core.specs.Scripts.{Scripted, Executed, AreLines, is_for, call_in, call_at, calls_of}
use Rattle.fr_core.specs.Walks.{FindsTask, done_by, HasLine, HaveLines, IsCourse, AreCourses, CourseNext, IsWhole}
use Rattle.fr_core.specs.Walks.{Suits, SuitsAt, AreScripts, new_courses}
use Rattle.fr_interface.specs.State.{State}
use Rattle.fr_journal.specs.Forms.{Entry}
use Rattle.fr_journal.specs.declared.entry.Entry.TheVariants.{Commit, Withdraw, Read, Pop, Fetch, Observe}
use Rattle.fr_slots.specs.History.{each_after}
use Rattle.fr_slots.specs.Numbers.{last_task, most_tasks, most_entries}

pub eqb_of : (a b : ℕ) → a ≡ b → (a == b) ≡ true
eqb_of a b e = elim (eqb_tells a b) [
  | inl same ↦ same.0
  | inr other ↦ absurd (other.1 e)
]

-- ---- one element exchanged

get_set_here : {X : Type 0} (xs : List X) (i : ℕ) (x y : X) → slice_get xs i ≡ Some x
    → slice_get (set xs i y) i ≡ Some y
get_set_here [] i x y at = absurd (let none : ⊥ = cc in none)
get_set_here (z ∷ xs) zero x y at = refl
get_set_here (z ∷ xs) (suc i) x y at = get_set_here xs i x y at

get_set_other : {X : Type 0} (xs : List X) (i j : ℕ) (y : X) → ¬ (j ≡ i) → slice_get (set xs i y) j ≡ slice_get xs j
get_set_other [] i j y other = refl
get_set_other (z ∷ xs) zero zero y other = absurd (other refl)
get_set_other (z ∷ xs) zero (suc j) y other = refl
get_set_other (z ∷ xs) (suc i) zero y other = refl
get_set_other (z ∷ xs) (suc i) (suc j) y other = get_set_other xs i j y (λ same. other (ap suc same))

length_set : {X : Type 0} (xs : List X) (i : ℕ) (y : X) → length (set xs i y) ≡ length xs
length_set [] i y = refl
length_set (z ∷ xs) zero y = refl
length_set (z ∷ xs) (suc i) y = ap suc (length_set xs i y)

pub get_within : {X : Type 0} (xs : List X) (k : ℕ) → k < length xs → (x : X) × (slice_get xs k ≡ Some x)
get_within [] k below = absurd (let none : ⊥ = omega (arith, below) in none)
get_within (x ∷ xs) zero below = (x, refl)
get_within (x ∷ xs) (suc k) below = get_within xs k (omega (arith, below))

nil_of : (f : List Entry → Entry → List Executed) → each_after f [] [] ≡ []
unfolding each_after
nil_of f = refl

in_replicate : {X : Type 0} (y : X) (m k : ℕ) (x : X) → slice_get (replicate m y) k ≡ Some x → y ≡ x
in_replicate y zero k x at = absurd (let none : ⊥ = cc in none)
in_replicate y (suc m) zero x at = some_alike y x at
in_replicate y (suc m) (suc k) x at = in_replicate y m k x at

new_course : (task : ℕ) (x : Course) → slice_get new_courses task ≡ Some x → record { calls = 0; agrees = true } ≡ x
new_course task x at = in_replicate _ most_tasks task x at

-- ---- the task of an entry

own_task : {X : Type 0} (t : ℕ) (d : X) → cond (t == t) (Some d) None ≡ Some d
own_task t d = ap (λ b. cond b (Some d) None) (eq-eqb t t refl)

other_task : {X : Type 0} (t task : ℕ) (d : X) → ¬ (t ≡ task) → cond (t == task) (Some d) None ≡ None
other_task t task d other = elim (eqb_tells t task) [
  | inl same ↦ absurd (other same.1)
  | inr not_same ↦ ap (λ b. cond b (Some d) None) not_same.0
]

module _ (s : State) (k : ℕ) where
  none_done : (task : ℕ) (e : Entry) → done_by s k e ≡ None → call_in s task k e ≡ None
  none_done task (Commit t buffer payload) none = absurd (let no : ⊥ = cc in no)
  none_done task (Withdraw t buffer of) none = absurd (let no : ⊥ = cc in no)
  none_done task (Read t buffer from) none = absurd (let no : ⊥ = cc in no)
  none_done task (Pop t from) none = absurd (let no : ⊥ = cc in no)
  none_done task (Fetch window a b) none = refl
  none_done task (Observe number a b) none = refl

  own_done : (e : Entry) (done : ℕ × Executed) → done_by s k e ≡ Some done → call_in s done.0 k e ≡ Some done.1
  own_done e done is = by_entry e is
    where
      of_pair : (t : ℕ) (d : Executed) → (t, d) ≡ done → cond (t == done.0) (Some d) None ≡ Some done.1
      of_pair t d same = subst (λ (x : ℕ × Executed). cond (t == x.0) (Some d) None ≡ Some x.1) same (own_task t d)

      by_entry : (x : Entry) → done_by s k x ≡ Some done → call_in s done.0 k x ≡ Some done.1
      by_entry (Commit t buffer payload) told = of_pair t _ (some_alike _ done told)
      by_entry (Withdraw t buffer of) told = of_pair t _ (some_alike _ done told)
      by_entry (Read t buffer from) told = of_pair t _ (some_alike _ done told)
      by_entry (Pop t from) told = of_pair t _ (some_alike _ done told)
      by_entry (Fetch window a b) told = absurd (let none : ⊥ = cc in none)
      by_entry (Observe number a b) told = absurd (let none : ⊥ = cc in none)

  others_done : (task : ℕ) (e : Entry) (done : ℕ × Executed) → done_by s k e ≡ Some done → ¬ (done.0 ≡ task)
      → call_in s task k e ≡ None
  others_done task e done is other = by_entry e is
    where
      of_pair : (t : ℕ) (d : Executed) → (t, d) ≡ done → cond (t == task) (Some d) None ≡ None
      of_pair t d same = other_task t task d (λ is_it. other (sym (ap (λ (x : ℕ × Executed). x.0) same) ∙ is_it))

      by_entry : (x : Entry) → done_by s k x ≡ Some done → call_in s task k x ≡ None
      by_entry (Commit t buffer payload) told = of_pair t _ (some_alike _ done told)
      by_entry (Withdraw t buffer of) told = of_pair t _ (some_alike _ done told)
      by_entry (Read t buffer from) told = of_pair t _ (some_alike _ done told)
      by_entry (Pop t from) told = of_pair t _ (some_alike _ done told)
      by_entry (Fetch window a b) told = refl
      by_entry (Observe number a b) told = refl

-- ---- the course of one task

module _ (s : State) (scripts : List Scripted) (n : ℕ) where
  done_at : (task k : ℕ) (e : Entry) (o : Option Executed) → slice_get s.entries k ≡ Some e → call_in s task k e ≡ o
      → call_at s task (take k s.entries) e ≡ option_to_list o
  done_at task k e o at is =
      let within : k < length s.entries = slice_get_within s.entries k e at in
      ap (λ m. option_to_list (call_in s task m e)) (length-take-le k s.entries (omega (arith, within)))
      ∙ ap option_to_list is

  course_past : (task k : ℕ) (x : Course) (e : Entry) → IsCourse s scripts n task k x → slice_get s.entries k ≡ Some e
      → call_in s task k e ≡ None → IsCourse s scripts n task (k + 1) x
  course_past task k x e far at is =
      let few = far.few in
      record {
        as_many = as_many_past (call_at s task) s.entries k x.calls e at far.as_many (done_at task k e None at is);
        few = omega (arith, few);
        fits = far.fits;
      }

  course_on : (task k : ℕ) (x y : Course) (e : Entry) (d : Executed) → IsCourse s scripts n task k x
      → slice_get s.entries k ≡ Some e → call_in s task k e ≡ Some d
      → CourseNext scripts n task d x y → IsCourse s scripts n task (k + 1) y
  course_on task k x y e d far at is next =
      let few = far.few in
      let one_more = next.calls in
      let given : call_at s task (take k s.entries) e ≡ d ∷ [] = done_at task k e (Some d) at is in
      let here : slice_get (calls_of s task) x.calls ≡ Some d =
      stands (call_at s task) s.entries k x.calls e at far.as_many d given in
      record {
        as_many = as_many_on (call_at s task) s.entries k x.calls e at far.as_many d given ∙ sym next.calls;
        few = omega (arith, few, one_more);
        fits = (
          λ yes. let both = next.agrees.0 yes in λ j below.
              elim (eqb_tells j x.calls) [
                | inl same ↦ λ other there.
                    let alike : d ≡ other = some_alike d other
                    (sym here ∙ ap (slice_get (calls_of s task)) (sym same.1) ∙ there) in
                    subst (λ m. HaveLines scripts n task m other) (sym same.1)
                    (subst (HaveLines scripts n task x.calls) alike both.1)
                | inr other ↦ far.fits.0 both.0 j (let less : j < x.calls =
                    omega (arith, below, one_more, other.1) in less)
              ],
          λ all. next.agrees.1 (
            far.fits.1 (λ j below. all j (omega (arith, below, one_more))),
            all x.calls (omega (arith, one_more)) d here,
          ),
        );
      }

  -- ---- the courses of all tasks

  pub courses_first : AreCourses s scripts n 0 new_courses
  courses_first = record {
    as_many = refl;
    each = λ task x at. subst (IsCourse s scripts n task 0)
        (new_course task x at) (first task);
  }
    where
      first : (task : ℕ) → IsCourse s scripts n task 0 (record { calls = 0; agrees = true })
      first task = record {
        as_many = ap length (nil_of (call_at s task));
        few = omega arith;
        fits =
            (λ yes j below. absurd (omega (arith, below)), λ all. refl);
      }

  pub courses_past : (k : ℕ) (xs : List Course) (e : Entry) → AreCourses s scripts n k xs
      → slice_get s.entries k ≡ Some e → done_by s k e ≡ None → AreCourses s scripts n (k + 1) xs
  courses_past k xs e far at none = record {
    as_many = far.as_many;
    each = λ task x there. course_past task k x e (far.each task x there) at (none_done s k task e none);
  }

  pub courses_on : (k : ℕ) (xs : List Course) (e : Entry) (done : ℕ × Executed) (x y : Course)
      → AreCourses s scripts n k xs → slice_get s.entries k ≡ Some e
      → done_by s k e ≡ Some done → slice_get xs done.0 ≡ Some x → CourseNext scripts n done.0 done.1 x y
      → AreCourses s scripts n (k + 1) (set xs done.0 y)
  courses_on k xs e done x y far at is there next = record {
    as_many = length_set xs done.0 y ∙ far.as_many;
    each = λ task z here.
        elim (eqb_tells done.0 task) [
          | inl same ↦
              let alike : y ≡ z = some_alike y z (sym (get_set_here xs done.0 x y there) ∙ ap
              (slice_get (set xs done.0 y)) same.1 ∙ here) in
              subst (λ m. IsCourse s scripts n m (k + 1) z) same.1 (subst (IsCourse s scripts n done.0 (k + 1)) alike
              (course_on done.0 k x y e done.1 (far.each done.0 x there) at (own_done s k e done is) next))
          | inr other ↦
              course_past task k z e (far.each task z (sym (get_set_other xs done.0 task y (λ same. other.1 (sym same)))
              ∙ here)) at (others_done s k task e done is other.1)
        ];
  }

  pub few_calls : (k : ℕ) (xs : List Course) (place : ℕ) (x : Course) → AreCourses s scripts n k xs → place < most_tasks
      → k < most_entries → (get_or xs place x).calls < most_entries
  few_calls k xs place x far few below =
      let many = far.as_many in
      let upto = (far.each place (get_or xs place x) (slice_get-get_or xs place x (omega (arith, few, many)))).few in
      omega (arith, upto, below)

  pub courses_set : (k : ℕ) (xs : List Course) (e : Entry) (done : ℕ × Executed) (place : ℕ) (x y : Course)
      → AreCourses s scripts n k xs → slice_get s.entries k ≡ Some e
      → done_by s k e ≡ Some done → place ≡ done.0 → place < most_tasks
      → CourseNext scripts n done.0 done.1 (get_or xs place x) y → AreCourses s scripts n (k + 1) (set xs place y)
  courses_set k xs e done place x y far at is same few next =
      let many = far.as_many in
      let there : slice_get xs place ≡ Some (get_or xs place x) =
      slice_get-get_or xs place x (omega (arith, few, many)) in
      subst (λ m. AreCourses s scripts n (k + 1) (set xs m y)) (sym same)
      (courses_on k xs e done (get_or xs place x) y far at is
      (subst (λ m. slice_get xs m ≡ Some (get_or xs place x)) same there) next)

  -- ---- all executed calls

  whole : (task : ℕ) (x : Course) → IsCourse s scripts n task (length s.entries) x
      → IsWhole scripts n task (calls_of s task) x
  whole task x far = record { as_many = as_many_all (call_at s task) s.entries x.calls far.as_many; fits = far.fits }

  pub whole_at : (k : ℕ) (xs : List Course) → k ≡ length s.entries → AreCourses s scripts n k xs
      → (task : ℕ) (x : Course) → slice_get xs task ≡ Some x
      → IsWhole scripts n task (calls_of s task) x
  whole_at k xs end far task x at = whole task x (subst (λ m. IsCourse s scripts n task m x) end (far.each task x at))

module _ (scripts : List Scripted) (n task : ℕ) (calls : List Executed) (x : Course)
    (all : IsWhole scripts n task calls x) where
  lines_from : (o : Option Scripted) → ((j : ℕ) (d : Executed) → slice_get calls j ≡ Some d
      → IfSome o (λ script. is_for n task script ≡ true → HasLine (slice_get script.lines j) d))
      → IfSome o (λ script. is_for n task script ≡ true → length script.lines ≡ x.calls)
      → IfSome o (λ script. is_for n task script ≡ true → AreLines script.lines calls)
  lines_from None lines long = tt
  lines_from (Some script) lines long = λ own. record {
    as_many = long own ∙ sym all.as_many;
    each = λ j line d told there. subst (λ o. HasLine o d) told (lines j d there own);
  }

  pub suits_are : Suits scripts n task x → AreScripts scripts n task calls
  suits_are suits = record {
    given = λ k. lines_from (slice_get scripts k)
        (λ j d there. all.fits.0 suits.agrees j (let long = all.as_many in let within : j < length calls =
        slice_get_within calls j d there in omega (arith, long, within)) d there k)
        (suits.given k);
    missing = λ none. none_left calls (all.as_many ∙ suits.missing none);
  }
    where
      none_left : (ds : List Executed) → length ds ≡ 0 → ds ≡ []
      none_left [] long = refl
      none_left (d ∷ ds) long = absurd (let none : ⊥ = omega (arith, long) in none)

  line_from : (o : Option Scripted) (j : ℕ) (d : Executed) → slice_get calls j ≡ Some d
      → IfSome o (λ script. is_for n task script ≡ true → AreLines script.lines calls)
      → IfSome o (λ script. is_for n task script ≡ true → HasLine (slice_get script.lines j) d)
  line_from None j d there are = tt
  line_from (Some script) j d there are = λ own.
      let lines = are own in
      let long = lines.as_many in
      let within : j < length calls = slice_get_within calls j d there in
      let line = get_within script.lines j (omega (arith, long, within)) in
      subst (λ o. HasLine o d) (sym line.1) (lines.each j line.0 d line.1 there)

  long_from : (o : Option Scripted) → IfSome o (λ script. is_for n task script ≡ true → AreLines script.lines calls)
      → IfSome o (λ script. is_for n task script ≡ true → length script.lines ≡ x.calls)
  long_from None are = tt
  long_from (Some script) are = λ own. (are own).as_many ∙ all.as_many

  pub are_suit : AreScripts scripts n task calls → Suits scripts n task x
  are_suit are = record {
    agrees = all.fits.1 (λ j below d there k. line_from (slice_get scripts k) j d there (are.given k));
    given = λ k. long_from (slice_get scripts k) (are.given k);
    missing = λ none. sym all.as_many ∙ ap length (are.missing none);
  }

-- the first task that differs by the courses is the first that differs by its executed calls
pub task_found : (scripts : List Scripted) (n : ℕ) (calls : ℕ → List Executed) (xs : List Course) (r : Option ℕ)
    → length xs ≡ most_tasks
    → ((task : ℕ) (x : Course) → slice_get xs task ≡ Some x → IsWhole scripts n task (calls task) x)
    → FindsTask (SuitsAt scripts n xs) r
    → FindsTask (λ task. AreScripts scripts n task (calls task)) r
task_found scripts n calls xs r many all found = by_result r found
  where
    are : (task : ℕ) → task ≤ last_task → SuitsAt scripts n xs task → AreScripts scripts n task (calls task)
    are task few suits =
        let x = get_within xs task (omega (arith, few, many)) in
        suits_are scripts n task (calls task) x.0 (all task x.0 x.1) (suits x.0 x.1)

    by_result : (o : Option ℕ) → FindsTask (SuitsAt scripts n xs) o
        → FindsTask (λ task. AreScripts scripts n task (calls task)) o
    by_result None each = λ task few. are task few (each task few)
    by_result (Some task) first = (
      first.0,
      let few = first.0 in
          record {
            fails = λ holds. first.1.fails (λ x at. are_suit scripts n task (calls task) x (all task x at) holds);
            before = λ m below. are m (omega (arith, below, few)) (first.1.before m below);
          },
    )

whole_new : (scripts : List Scripted) (n task : ℕ) (x : Course) → slice_get new_courses task ≡ Some x
    → IsWhole scripts n task [] x
whole_new scripts n task x at = subst (IsWhole scripts n task []) (new_course task x at)
    (record { as_many = refl; fits = (λ yes j below. absurd (omega (arith, below)), λ all. refl) })

-- a node that doesn't exist executed no call
pub task_found_new : (scripts : List Scripted) (n : ℕ) (xs : List Course) (r : Option ℕ) → xs ≡ new_courses
    → FindsTask (SuitsAt scripts n xs) r
    → FindsTask (λ task. AreScripts scripts n task []) r
task_found_new scripts n xs r is found =
    task_found scripts n (λ task. []) new_courses r refl (whole_new scripts n)
    (subst (λ l. FindsTask (SuitsAt scripts n l) r) is found)
