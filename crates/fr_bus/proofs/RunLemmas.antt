-- A new bus, a seal and an advance keep the properties of every bus.
use Rattle.std.proofs.Common.{◌≡◌, ℕ, ◌-◌, ◌*◌, ◌^◌, ◌<◌, ◌≤◌, Bool, true, false, cond, List, [], ◌∷◌, ◌++◌}
use Rattle.std.proofs.Common.{length, length-append, replicate, Option, Some, None, slice_get, refl, subst, sym, ap}
use Rattle.std.proofs.Common.{◌∙◌, arith}
use Rattle.std.proofs.lemmas.Bool.{lt-ltb, ltb-false}
use Rattle.std.proofs.lemmas.List.{length-replicate}
use Rattle.std.specs.Prelude.{◌%◌, is_some, nat_lt, option_map}
use Rattle.std.specs.Option.{option_or}
use Rattle.fr_bus.proofs.CourseLemmas.{course_more}
use Rattle.fr_bus.proofs.NextLemmas.{next_is}
use Rattle.fr_bus.specs.Courses.{Standpoint, IsCourse, opportunities, course_of, passed, next_of}
use Rattle.fr_bus.specs.declared.error.Phase.{Phase}
use Rattle.fr_bus.specs.declared.error.Phase.TheVariants.{Collect, Sealed as InSealed, Finished}
use Rattle.fr_bus.specs.Stations.{Station}
use Rattle.fr_bus.specs.Windows.{cycles_begun, following}
use Rattle.fr_bus.specs.Outcome.{longest}
use Rattle.fr_bus.specs.Record.{Recorded}
use Rattle.fr_bus.specs.States.{BusState, IsRecorded, IsRun, Stands, collects, next_of_bus, outcome_of, new_bus}
use Rattle.fr_bus.specs.States.{phase_at, advanced, idle_station}
use Rattle.fr_schedule.specs.Clusters.{IsCluster}
use Rattle.fr_schedule.specs.Descriptions.{Description}
use Rattle.fr_slots.proofs.HistoryLemmas.{AllAfter-snoc}
use Rattle.fr_slots.specs.declared.channel.Channel.TheVariants.{A, B}
use Rattle.fr_slots.specs.History.{AllAfter}
use Rattle.fr_slots.specs.Parameters.{Parameters}
use Rattle.fr_slots.specs.Windows.{Opportunity, static_window}

-- ---- a new bus

begins : (p : Parameters) (cycles : ℕ) → 1 ≤ cycles → is_some (following p cycles []) ≡ true
begins p cycles some = ap (λ b. is_some (cond b (Some (static_window 0 0 1)) None))
    (lt-ltb 0 cycles (omega (arith, some)))

pub run_new : (d : Description) (cycles : ℕ) → IsCluster d → 1 ≤ cycles
    → cycles * opportunities d.params < 2 ^ 32 → IsRun (new_bus d cycles)
unfolding AllAfter
run_new d cycles lawful some few = record {
  lawful = lawful;
  some_cycles = some;
  few_windows = few;
  one_each = length-replicate (length d.plans) idle_station;
  recorded = tt;
  stands = (refl, begins d.params cycles some);
}

-- ---- a seal

stands_open : (phase : Phase) (b : BusState) → collects phase ≡ true → Stands phase b
    → (b.opened ≡ next_of_bus b) × (is_some b.opened ≡ true)
stands_open Collect b e stands = stands
stands_open InSealed b e stands = absurd (let none : ⊥ = cc in none)
stands_open Finished b e stands = absurd (let none : ⊥ = cc in none)

-- the open window is the next one of the course
pub opened_is_next : (b : BusState) (c : Standpoint) (w : Opportunity) → IsRun b
    → c ≡ course_of b.cluster.params b.cycles b.sealed → collects b.phase ≡ true → b.opened ≡ Some w
    → next_of c ≡ Some w
opened_is_next b c w run course collecting opened =
    ap next_of course ∙ next_is b.cluster.params b.cycles b.sealed ∙ sym (stands_open b.phase b collecting run.stands).0
    ∙ opened

at_end : {X : Type 0} (xs : List X) (x : X) → slice_get (xs ++ x ∷ []) (length xs) ≡ Some x
at_end [] x = refl
at_end (y ∷ ys) x = at_end ys x

pub last_more : {X : Type 0} (xs : List X) (x : X) → slice_get (xs ++ x ∷ []) (length (xs ++ x ∷ []) - 1) ≡ Some x
last_more xs x =
    let place : length (xs ++ x ∷ []) - 1 ≡ length xs = omega (arith, length-append xs (x ∷ [])) in
    ap (slice_get (xs ++ x ∷ [])) place ∙ at_end xs x

-- the appended window has the next window's outcome
recorded_more : (b : BusState) (w : Opportunity) → IsRun b → collects b.phase ≡ true → b.opened ≡ Some w
    → IsRecorded b.cluster b.cycles b.sealed (outcome_of b w)
recorded_more b w run collecting opened = (
  sym (stands_open b.phase b collecting run.stands).0 ∙ opened,
  record { stations = b.stations; one_each = run.one_each; sent_is = refl },
)

abbrev with_sealed : BusState → List Recorded → BusState
with_sealed b sealed = record b { phase = InSealed; sealed = sealed }

pub run_sealed : (b : BusState) (w : Opportunity) (sealed : List Recorded) → sealed ≡ b.sealed ++ outcome_of b w ∷ []
    → IsRun b → collects b.phase ≡ true → b.opened ≡ Some w → IsRun (with_sealed b sealed)
run_sealed b w sealed same run collecting opened =
    subst (λ rs. IsRun (with_sealed b rs)) (sym same) (record {
      lawful = run.lawful;
      some_cycles = run.some_cycles;
      few_windows = run.few_windows;
      one_each = run.one_each;
      recorded = AllAfter-snoc (IsRecorded b.cluster b.cycles) b.sealed (outcome_of b w) run.recorded
          (recorded_more b w run collecting opened);
      stands = (
        opened ∙ sym (ap (λ o. option_map (λ (r : Recorded). r.window) o)
            (last_more b.sealed (outcome_of b w))),
        ap is_some opened,
      );
    })

-- the course that passed the window is that of the record
pub course_sealed : (b : BusState) (w : Opportunity) (c new : Standpoint) (x y : ℕ) (sealed : List Recorded)
    → new ≡ passed c w x y → c ≡ course_of b.cluster.params b.cycles b.sealed
    → x ≡ longest A (outcome_of b w).sent → y ≡ longest B (outcome_of b w).sent
    → sealed ≡ b.sealed ++ outcome_of b w ∷ [] → new ≡ course_of b.cluster.params b.cycles sealed
course_sealed b w c new x y sealed passes course on_a on_b same =
    passes
    ∙ (λ i. passed (course i) w (on_a i) (on_b i))
    ∙ sym (course_more b.cluster.params b.cycles b.sealed (outcome_of b w))
    ∙ ap (course_of b.cluster.params b.cycles) (sym same)

-- ---- an advance

stands_at : (next : Option Opportunity) (b : BusState) → b.opened ≡ next → next_of_bus b ≡ next
    → Stands (phase_at next) b
stands_at None b opened is = (opened, is)
stands_at (Some w) b opened is = (opened ∙ sym is, ap is_some opened)

pub run_advanced : (b : BusState) → IsRun b → IsRun (advanced b)
run_advanced b run = record {
  lawful = run.lawful;
  some_cycles = run.some_cycles;
  few_windows = run.few_windows;
  one_each = length-replicate (length b.stations) idle_station ∙ run.one_each;
  recorded = run.recorded;
  stands = stands_at (next_of_bus b) (advanced b) refl refl;
}

-- the bus after an advance, by its parts
pub advanced_is : (b : BusState) (c : Standpoint) (phase : Phase) (opened : Option Opportunity)
    (stations : List Station) → c ≡ course_of b.cluster.params b.cycles b.sealed
    → opened ≡ next_of c → phase ≡ phase_at opened → stations ≡ replicate (length b.stations) idle_station
    → record b { phase = phase; opened = opened; stations = stations; corrupt_a = None; corrupt_b = None } ≡ advanced b
advanced_is b c phase opened stations course opened_is phase_is stations_are =
    let next : opened ≡ next_of_bus b = opened_is ∙ ap next_of course ∙ next_is b.cluster.params b.cycles b.sealed in
    let at : phase ≡ phase_at (next_of_bus b) = phase_is ∙ ap phase_at next in
    λ i. record b { phase = at i; opened = next i; stations = stations_are i; corrupt_a = None; corrupt_b = None }

-- ---- the end

-- a run without a further window has begun all its cycles
all_begun : (p : Parameters) (cycles : ℕ) (rs : List Recorded) → following p cycles rs ≡ None → cycles ≤ cycles_begun rs
all_begun p cycles [] e = by_case (nat_lt 0 cycles) refl e
  where
    by_case : (b : Bool) → nat_lt 0 cycles ≡ b → cond b (Some (static_window 0 0 1)) None ≡ None → cycles ≤ 0
    by_case true f e = absurd (let none : ⊥ = cc in none)
    by_case false f e = ltb-false 0 cycles f
all_begun p cycles (r ∷ rs) e = by_case (nat_lt (cycles_begun (r ∷ rs)) cycles) refl _ e
  where
    by_case : (b : Bool) → nat_lt (cycles_begun (r ∷ rs)) cycles ≡ b → (inner : Option Opportunity)
        → option_or inner (cond b (Some (static_window (length (r ∷ rs)) (cycles_begun (r ∷ rs) % 64) 1)) None) ≡ None
        → cycles ≤ cycles_begun (r ∷ rs)
    by_case b f (Some w) e = absurd (let none : ⊥ = cc in none)
    by_case true f None e = absurd (let none : ⊥ = cc in none)
    by_case false f None e = ltb-false (cycles_begun (r ∷ rs)) cycles f

pub all_cycles : (b : BusState) (c : Standpoint) → IsRun b → IsCourse c
    → c ≡ course_of b.cluster.params b.cycles b.sealed → b.phase ≡ Finished → cycles_begun b.sealed ≡ b.cycles
all_cycles b c run course same finished =
    let at_most = subst (λ (s : Standpoint). s.begun ≤ s.cycles) same course.begun_fit in
    let stands : Stands Finished b = subst (λ (phase : Phase). Stands phase b) finished run.stands in
    omega (arith, at_most, all_begun b.cluster.params b.cycles b.sealed stands.1)
