-- Searches over nodes and tasks, and the first difference.
use Rattle.std.proofs.Common.{◌≡◌, ◌<◌, ◌≤◌, ◌↔◌, ℕ, ◌+◌, Bool, true, false, ◌&&◌, ◌||◌, List, Option, Some, None, ◌⊎◌}
use Rattle.std.proofs.Common.{refl, sym, ap, subst, ◌∙◌, arith, inl, inr}
use Rattle.std.specs.Prelude.{slice_get, nat_lt, ◌==◌, IsTrue, if◌then◌else◌}
use Rattle.std.proofs.lemmas.Bool.{ltb-true, ltb-false}
use Rattle.std.proofs.lemmas.Bool.Decides.{eqb_tells}
use Rattle.fr_bus.specs.Record.{Recorded}
use Rattle.fr_core.proofs.WalkLemmas.{next_below}
use Rattle.fr_core.specs.declared.settle.Differences.{Differences}
use Rattle.fr_core.specs.declared.walk.Findings.{Findings}
use Rattle.fr_core.specs.Scripts.{Scripted, ScriptAgrees, calls_in}
use Rattle.fr_core.specs.Settling.{IsFirst, EachNode, EachTask, IfThere, WindowsAgree, IsHandedAt, IsShownAt, IsFatedAt}
use Rattle.fr_core.specs.Settling.{IsOfferedAt}
use Rattle.fr_core.specs.Walks.{Finds, FindsBelow, FindsNext, FindsTask, FindsPlace, FindsPlaceBelow, FindsScriptBelow}
use Rattle.fr_core.specs.Walks.{AreFindings, AreDifferences, AreScripts, found_or, is_before, earlier}
use Rattle.fr_interface.specs.State.{State}
use Rattle.fr_schedule.specs.Descriptions.{Description}
use Rattle.fr_slots.specs.Numbers.{last_node, last_task}
use Rattle.fr_slots.specs.Parameters.{Parameters}

-- those before this number, and this one
pub one_more : (P : ℕ → Type 0) (number node : ℕ) → node ≡ number → ((n : ℕ) → n < number → P n) → P node → (n : ℕ)
    → n < number + 1 → P n
one_more P number node same before here n below =
    elim (eqb_tells n number) [
      | inl is ↦ subst P (sym (is.1 ∙ sym same)) here
      | inr other ↦ before n (let less : n < number = omega (arith, below, other.1) in less)
    ]

-- the first node that fails, and its first place
pub found_at : (P : ℕ → ℕ → Type 0) (number node place : ℕ) → node ≡ number → ((n : ℕ) → n < number → (k : ℕ) → P n k)
    → number ≤ last_node → IsFirst (P node) place
    → (node ≤ last_node) × IsFirst (λ n. (k : ℕ) → P n k) node × IsFirst (P node) place
found_at P number node place same before few first = (
  omega (arith, same, few),
  record {
    fails = λ all. first.fails (all place);
    before =
        λ m below. before m (omega (arith, below, same));
  },
  first,
)

-- the first node that fails, and its first task
found_task : (P : ℕ → ℕ → Type 0) (number node task : ℕ) → node ≡ number → ((n : ℕ) → n < number → EachTask (P n))
    → task ≤ last_task → IsFirst (P node) task
    → IsFirst (λ n. EachTask (P n)) node × IsFirst (P node) task
found_task P number node task same before few first = (
  record { fails = λ all. first.fails (all task few); before = λ m below. before m (omega (arith, below, same)) },
  first,
)

-- ---- one more node

places_on : (P : ℕ → ℕ → Type 0) (number node : ℕ) (found : Option (ℕ × ℕ)) (here : Option ℕ) → node ≡ number
    → number ≤ last_node
    → FindsPlaceBelow number P found → Finds (P node) here → FindsPlaceBelow (number + 1) P (found_or found node here)
places_on P number node (Some found) here same few before first = before
places_on P number node None None same few before all = one_more (λ n. (k : ℕ) → P n k) number node same before all
places_on P number node None (Some place) same few before first = found_at P number node place same before few first

tasks_on : (P : ℕ → ℕ → Type 0) (number node : ℕ) (found : Option (ℕ × ℕ)) (here : Option ℕ) → node ≡ number
    → FindsScriptBelow number P found → FindsTask (P node) here
    → FindsScriptBelow (number + 1) P (found_or found node here)
tasks_on P number node (Some found) here same before first = before
tasks_on P number node None None same before all = one_more (λ n. EachTask (P n)) number node same before all
tasks_on P number node None (Some task) same before first = found_task P number node task same before first.0 first.1

module _ (is : List State) (scripts : List Scripted) (n : ℕ) where
  scripts_agree : (task : ℕ) → AreScripts scripts n task (calls_in (slice_get is n) task)
      → ScriptAgrees is scripts n task
  scripts_agree task are = record { given = are.given; missing = are.missing }

  agreeing_scripts : (task : ℕ) → ScriptAgrees is scripts n task
      → AreScripts scripts n task (calls_in (slice_get is n) task)
  agreeing_scripts task agrees = record { given = agrees.given; missing = agrees.missing }

  scripts_found : (r : Option ℕ) → FindsTask (λ task. AreScripts scripts n task (calls_in (slice_get is n) task)) r
      → FindsTask (ScriptAgrees is scripts n) r
  scripts_found None all = λ task few. scripts_agree task (all task few)
  scripts_found (Some task) first = (
    first.0,
    record {
      fails = λ agrees. first.1.fails (agreeing_scripts task agrees);
      before =
          λ m below. scripts_agree m (first.1.before m below);
    },
  )

module _ (p : Parameters) (is : List State) (rs : List Recorded) (scripts : List Scripted) where
  differences_first : AreDifferences p is rs scripts 0
      (record { window = None; offer = None; sight = None; script = None })
  differences_first = record {
    windows = λ n below. absurd (let none : ⊥ = omega (arith, below) in none);
    offers = λ n below. absurd (let none : ⊥ = omega (arith, below) in none);
    sights = λ n below. absurd (let none : ⊥ = omega (arith, below) in none);
    scripts = λ n below. absurd (let none : ⊥ = omega (arith, below) in none);
  }

  window_on : (number node : ℕ) (has : Bool) (o r : Option ℕ) → node ≡ number → (IsTrue has ↔ WindowsAgree is rs node)
      → FindsBelow number (WindowsAgree is rs) o
      → FindsNext (IsTrue has) node o r → FindsBelow (number + 1) (WindowsAgree is rs) r
  window_on number node has o r same told before next =
      let w : IsTrue has ↔ WindowsAgree is rs number = subst (λ m. IsTrue has ↔ WindowsAgree is rs m) same told in
      next_below (WindowsAgree is rs) (IsTrue has) number o r w.0 w.1 before
      (subst (λ m. FindsNext (IsTrue has) m o r) same next)

  pub differences_on : (number node : ℕ) (x y : Differences) (found : Findings) → node ≡ number → number ≤ last_node
      → AreDifferences p is rs scripts number x
      → AreFindings p (slice_get is node) rs scripts node found
      → FindsNext (IsTrue found.has_windows) node x.window y.window
      → y.offer ≡ found_or x.offer node found.offer → y.sight ≡ found_or x.sight node found.sight
      → y.script ≡ found_or x.script node found.task
      → AreDifferences p is rs scripts (number + 1) y
  differences_on number node x y found same few before here window offer sight script = record {
    windows = window_on number node found.has_windows x.window y.window same here.windows before.windows window;
    offers = subst (FindsPlaceBelow (number + 1) (λ n k. IfThere (slice_get is n) (IsHandedAt rs n k))) (sym offer)
        (places_on (λ n k. IfThere (slice_get is n) (IsHandedAt rs n k)) number node x.offer found.offer same few
        before.offers here.offers);
    sights = subst (FindsPlaceBelow (number + 1) (λ n k. IfThere (slice_get is n) (IsShownAt p rs n k))) (sym sight)
        (places_on (λ n k. IfThere (slice_get is n) (IsShownAt p rs n k)) number node x.sight found.sight same few
        before.sights here.sights);
    scripts = subst (FindsScriptBelow (number + 1) (ScriptAgrees is scripts)) (sym script)
        (tasks_on (ScriptAgrees is scripts) number node x.script found.task same before.scripts
        (scripts_found is scripts node found.task here.scripts));
  }

-- ---- the first of two kinds

before_told : (a b c d : ℕ) → (nat_lt a b || (a == b && nat_lt c d)) ≡ true → (a < b) ⊎ ((a ≡ b) × (c ≤ d))
before_told a b c d told = by_first (nat_lt a b) refl told
  where
    by_first : (t : Bool) → nat_lt a b ≡ t → (t || (a == b && nat_lt c d)) ≡ true → (a < b) ⊎ ((a ≡ b) × (c ≤ d))
    by_first true test told = inl (ltb-true a b test)
    by_first false test told =
        elim (eqb_tells a b) [
          | inl same ↦
              let less : c < d = ltb-true c d (ap (λ t. t && nat_lt c d) (sym same.0) ∙ told) in
              inr (same.1, omega (arith, less))
          | inr other ↦ absurd (let none : ⊥ = (let e : false ≡ true =
              ap (λ t. t && nat_lt c d) (sym other.0) ∙ told in cc) in none)
        ]

after_told : (a b c d : ℕ) → (nat_lt a b || (a == b && nat_lt c d)) ≡ false → (b < a) ⊎ ((b ≡ a) × (d ≤ c))
after_told a b c d told = by_first (nat_lt a b) refl told
  where
    by_first : (t : Bool) → nat_lt a b ≡ t → (t || (a == b && nat_lt c d)) ≡ false → (b < a) ⊎ ((b ≡ a) × (d ≤ c))
    by_first true test told = absurd (let none : ⊥ = cc in none)
    by_first false test told =
        let upto : b ≤ a = ltb-false a b test in
        elim (eqb_tells a b) [
          | inl same ↦ inr (sym same.1, ltb-false c d (ap (λ t. t && nat_lt c d) (sym same.0) ∙ told))
          | inr other ↦ inl (let less : b < a = omega (arith, upto, other.1) in less)
        ]

module _ (P Q R : ℕ → ℕ → Type 0) (join : (n k : ℕ) → P n k → Q n k → R n k) (left : (n k : ℕ) → R n k → P n k) where
  first_here : (x : ℕ × ℕ) → FindsPlace P (Some x) → ((m : ℕ) → m < x.0 → (k : ℕ) → Q m k)
      → ((j : ℕ) → j < x.1 → Q x.0 j) → FindsPlace R (Some x)
  first_here x first nodes places = (
    first.0,
    record {
      fails = λ all. first.2.fails (left x.0 x.1 (all x.1));
      before =
          λ m below k. join m k (first.1.before m below k) (nodes m below k);
    },
    record {
      fails = λ holds. first.2.fails (left x.0 x.1 holds);
      before =
          λ j below. join x.0 j (first.2.before j below) (places j below);
    },
  )

  first_alone : (x : ℕ × ℕ) → FindsPlace P (Some x) → FindsPlace Q None → FindsPlace R (Some x)
  first_alone x first all =
      let few = first.0 in
      first_here x first (λ m below k. all m (omega (arith, below, few)) k) (λ j below. all x.0 (omega (arith, few)) j)

  first_of_both : (x y : ℕ × ℕ) → FindsPlace P (Some x) → FindsPlace Q (Some y)
      → (x.0 < y.0) ⊎ ((x.0 ≡ y.0) × (x.1 ≤ y.1)) → FindsPlace R (Some x)
  first_of_both x y first other order =
      elim order [
        | inl less ↦ first_here x first (λ m below k. other.1.before m (omega (arith, below, less)) k)
            (λ j below. other.1.before x.0 less j)
        | inr same ↦
            let node = same.0 in
            let upto = same.1 in
            first_here x first (λ m below k. other.1.before m (omega (arith, below, node)) k)
            (λ j below. subst (λ n. Q n j) (sym node) (other.2.before j (omega (arith, below, upto))))
      ]

module _ (P Q R : ℕ → ℕ → Type 0) (join : (n k : ℕ) → P n k → Q n k → R n k) (left : (n k : ℕ) → R n k → P n k)
    (right : (n k : ℕ) → R n k → Q n k) where
  earlier_is : (a b : Option (ℕ × ℕ)) → FindsPlace P a → FindsPlace Q b → FindsPlace R (earlier a b)
  earlier_is None None p q = λ n below k. join n k (p n below k) (q n below k)
  earlier_is None (Some y) p q = first_alone Q P R (λ n k q p. join n k p q) right y q p
  earlier_is (Some x) None p q = first_alone P Q R join left x p q
  earlier_is (Some x) (Some y) p q = by_order (is_before y x) refl
    where
      by_order : (t : Bool) → is_before y x ≡ t → FindsPlace R (if t then Some y else Some x)
      by_order true test = first_of_both Q P R (λ n k q p. join n k p q) right y x q p
          (before_told y.0 x.0 y.1 x.1 test)
      by_order false test = first_of_both P Q R join left x y p q (after_told y.0 x.0 y.1 x.1 test)

pub offers_found : (d : Description) (is : List State) (rs : List Recorded) (a b : Option (ℕ × ℕ))
    → FindsPlace (λ n k. IfThere (slice_get is n) (IsHandedAt rs n k)) a
    → FindsPlace (IsFatedAt d rs) b → FindsPlace (λ n k. IsOfferedAt d rs n (slice_get is n) k) (earlier a b)
offers_found d is rs a b =
    earlier_is (λ n k. IfThere (slice_get is n) (IsHandedAt rs n k)) (IsFatedAt d rs)
    (λ n k. IsOfferedAt d rs n (slice_get is n) k)
    (λ n k handed fated. record { offers = handed; fates = fated }) (λ n k offered. offered.offers)
    (λ n k offered. offered.fates) a b

-- each possible node
pub each_node : (P : ℕ → Type 0) → ((n : ℕ) → n < last_node + 1 → P n) → EachNode P
each_node P all = λ n few. all n (omega (arith, few))
