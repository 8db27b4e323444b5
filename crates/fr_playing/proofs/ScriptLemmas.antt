-- The scripts of an accepted run: one for each task, with lines that rise and are of cycles of the run.
use Rattle.std.proofs.Common.{◌≡◌, ℕ, suc, Bool, true, false, cond, ◌||◌, List, [], ◌∷◌, ◌++◌}
use Rattle.std.proofs.Common.{length, map, take, Option, Some, None, refl, sym, ap, ap₂, subst, ◌∙◌, slice_get}
use Rattle.std.specs.Prelude.{◌==◌, nat_lt, IfSome}
use Rattle.std.specs.List.{list_any, list_all}
use Rattle.std.proofs.lemmas.Bool.{eq-eqb, eqb-true}
use Rattle.std.proofs.lemmas.List.{map-append}
use Rattle.std.proofs.lemmas.List.Elements.{filter-append}
use Rattle.fr_core.proofs.CaseLemmas.{both, both_first, both_rest, differ}
use Rattle.fr_core.specs.declared.script.Line.{Line}
use Rattle.fr_core.specs.Scripts.{Scripted, is_for}
use Rattle.fr_playing.specs.Calls.{Asked, asked_of}
use Rattle.fr_playing.specs.declared.call.ExecutedCall.{ExecutedCall}
use Rattle.fr_playing.specs.Playing.{asked_by}
use Rattle.fr_playing.proofs.AskedLemmas.{is_mine, mine, ask, cycle_of, Once, mine_are_lines, neither_first}
use Rattle.fr_playing.proofs.AskedLemmas.{neither_rest}
use Rattle.fr_playing.proofs.RisingLemmas.{is_below, Rises, rises}
use Rattle.fr_runs.specs.Refusing.{EachScriptSuits}
use Rattle.fr_runs.specs.Stepping.{lines_given}
use Rattle.fr_runs.specs.Suiting.{IsScriptAfter, SuitsNode, call_suits, line_suits}
use Rattle.fr_schedule.specs.Descriptions.{Description}
use Rattle.fr_slots.proofs.PlaceLemmas.{IsMapped, get-after, get-map}
use Rattle.fr_slots.specs.Parameters.{Parameters}
use Rattle.fr_slots.specs.Plans.{Plan}

-- ---- one script for a task

none_passes : {X : Type 0} (p : X → Bool) (xs : List X) → ((k : ℕ) (x : X) → slice_get xs k ≡ Some x → p x ≡ false)
    → list_any p xs ≡ false
none_passes p [] none = refl
none_passes p (x ∷ xs) none =
    ap₂ (λ (a : Bool) (b : Bool). a || b) (none 0 x refl) (none_passes p xs (λ k y at. none (suc k) y at))

-- no script before another is for its task
abbrev AreApart : List Scripted → Type 0
AreApart scripts = (k : ℕ) (s : Scripted) → slice_get scripts k ≡ Some s
    → list_any (is_for s.node s.task) (take k scripts) ≡ false

rest_apart : (script : Scripted) (scripts : List Scripted) → AreApart (script ∷ scripts) → AreApart scripts
rest_apart script scripts apart k s at =
    neither_rest (is_for s.node s.task script) (list_any (is_for s.node s.task) (take k scripts)) (apart (suc k) s at)

same_task : (n task : ℕ) (script s : Scripted) → is_for n task script ≡ true → is_for n task s ≡ true
    → is_for s.node s.task script ≡ true
same_task n task script s own other =
    let node : s.node ≡ n = eqb-true s.node n (both_first (s.node == n) (s.task == task) other) in
    let of_task : s.task ≡ task = eqb-true s.task task (both_rest (s.node == n) (s.task == task) other) in
    ap₂ (λ (m : ℕ) (t : ℕ). is_for m t script) node of_task ∙ own

not_again : (n task : ℕ) (script : Scripted) (scripts : List Scripted) → AreApart (script ∷ scripts)
    → is_for n task script ≡ true → (k : ℕ) (s : Scripted) → slice_get scripts k ≡ Some s → is_for n task s ≡ false
not_again n task script scripts apart own k s at = by_test (is_for n task s) refl
  where
    by_test : (b : Bool) → is_for n task s ≡ b → b ≡ false
    by_test false is = refl
    by_test true is =
        differ (same_task n task script s own is)
        (neither_first (is_for s.node s.task script) (list_any (is_for s.node s.task) (take k scripts))
        (apart (suc k) s at))

once : (n task : ℕ) (scripts : List Scripted) → AreApart scripts → Once n task scripts
once n task [] apart = tt
once n task (script ∷ scripts) apart = (
  λ own. none_passes (is_for n task) scripts (not_again n task script scripts apart own),
  once n task scripts (rest_apart script scripts apart),
)

suits_at : (d : Description) (cycles : ℕ) (scripts : List Scripted) → EachScriptSuits d cycles scripts → (k : ℕ)
    (s : Scripted) → slice_get scripts k ≡ Some s → IsScriptAfter d cycles (take k scripts) s
suits_at d cycles scripts suits k s at =
    subst (λ (o : Option Scripted). IfSome o (IsScriptAfter d cycles (take k scripts))) at (suits k)

-- ---- the lines of a script

-- what holds of the lines of each script, and of no lines, holds of the lines that are given to a task
given_case : (P : List Line → Type 0) → P [] → (n task : ℕ) (scripts : List Scripted)
    → ((k : ℕ) (s : Scripted) → slice_get scripts k ≡ Some s → P s.lines) → P (lines_given scripts n task)
given_case P none n task [] each = none
given_case P none n task (script ∷ scripts) each =
    by_test (is_for n task script) (each 0 script refl) (given_case P none n task scripts (λ k s at. each (suc k) s at))
  where
    by_test : (b : Bool) → P script.lines → P (lines_given scripts n task)
        → P (cond b script.lines (lines_given scripts n task))
    by_test true here rest = here
    by_test false here rest = rest

few_lines : (p : Parameters) (plan : Plan) (cycles : ℕ) (lines : List Line)
    → list_all (line_suits p plan cycles) lines ≡ true
    → list_all (is_below cycle_of cycles) lines ≡ true
few_lines p plan cycles [] suit = refl
few_lines p plan cycles (line ∷ lines) suit =
    both (is_below cycle_of cycles line) (list_all (is_below cycle_of cycles) lines)
    (both_first (nat_lt line.cycle cycles) (call_suits p plan line.action)
    (both_first (line_suits p plan cycles line) (list_all (line_suits p plan cycles) lines) suit))
    (few_lines p plan cycles lines
    (both_rest (line_suits p plan cycles line) (list_all (line_suits p plan cycles) lines) suit))

record AreTimely (cycles : ℕ) (lines : List Line) : Type 0 where
  pub rise : Rises cycle_of 0 lines
  pub few : list_all (is_below cycle_of cycles) lines ≡ true

timely : (p : Parameters) (cycles : ℕ) (script : Scripted) (plan : Option Plan) → SuitsNode p cycles script plan
    → AreTimely cycles script.lines
timely p cycles script None suits = absurd suits
timely p cycles script (Some plan) suits =
    record {
      rise = rises cycle_of script.lines suits.in_order;
      few = few_lines p plan cycles script.lines
          suits.lines_suit;
    }

given_timely : (d : Description) (cycles : ℕ) (scripts : List Scripted) → EachScriptSuits d cycles scripts
    → (n task : ℕ)
    → AreTimely cycles (lines_given scripts n task)
given_timely d cycles scripts suits n task =
    given_case (AreTimely cycles) (record { rise = tt; few = refl }) n task scripts
    (λ k s at. timely d.params cycles s (slice_get d.plans s.node) (suits_at d cycles scripts suits k s at).suits)

-- ---- the calls of a task

module _ (d : Description) (cycles : ℕ) (scripts : List Scripted) (suits : EachScriptSuits d cycles scripts) where
  pub given_once : (n task : ℕ) → Once n task scripts
  given_once n task = once n task scripts (λ k s at. (suits_at d cycles scripts suits k s at).only)

  -- the calls of a run that are a task's are the lines that are given to it
  pub task_lines : (n task : ℕ) → mine n task (asked_by cycles scripts) ≡ map (ask n task) (lines_given scripts n task)
  task_lines n task =
      let t = given_timely d cycles scripts suits n task in
      mine_are_lines n task scripts cycles (given_once n task) t.rise t.few

  pub record IsGiven (before : List ExecutedCall) (call : ExecutedCall) : Type 0 where
    pub line : Line
    pub at : slice_get (lines_given scripts call.node call.task)
        (length (mine call.node call.task (map asked_of before))) ≡ Some line
    pub cycle_is : line.cycle ≡ call.cycle

  own : (call : ExecutedCall) → is_mine call.node call.task (asked_of call) ≡ true
  own call = both (call.node == call.node) (call.task == call.task) (eq-eqb call.node call.node refl)
      (eq-eqb call.task call.task refl)

  -- a call of the run is the line at the place of its task's calls before it
  pub line_of : (before : List ExecutedCall) (call : ExecutedCall) (later : List ExecutedCall)
      → map asked_of (before ++ call ∷ later) ≡ asked_by cycles scripts → IsGiven before call
  line_of before call later all =
      let n : ℕ = call.node in
      let task : ℕ = call.task in
      let front : List Asked = mine n task (map asked_of before) in
      let back : List Asked = mine n task (map asked_of later) in
      let cut : mine n task (map asked_of (before ++ call ∷ later)) ≡ front ++ asked_of call ∷ back =
      ap (mine n task) (map-append asked_of before (call ∷ later))
      ∙ filter-append (is_mine n task) (map asked_of before) (asked_of call ∷ map asked_of later)
      ∙ ap (λ (b : Bool). front ++ cond b (asked_of call ∷ back) back) (own call) in
      let whole : map (ask n task) (lines_given scripts n task) ≡ front ++ asked_of call ∷ back =
      sym (task_lines n task) ∙ ap (mine n task) (sym all) ∙ cut in
      let m : IsMapped (ask n task) (lines_given scripts n task) (length front) (asked_of call) =
      get-map (ask n task) (lines_given scripts n task) (length front) (asked_of call)
      (ap (λ (l : List Asked). slice_get l (length front)) whole ∙ get-after front back (asked_of call)) in
      record { line = m.source; at = m.at; cycle_is = ap (λ (a : Asked). a.cycle) m.value }
