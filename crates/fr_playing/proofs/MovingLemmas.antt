-- A list of events that are executed one after another.
use Rattle.std.proofs.Common.{◌≡◌, ◌<◌, ℕ, zero, suc, ◌+◌, ◌-◌, Bool, true, false, ◌&&◌, cond, List, [], ◌∷◌, ◌++◌}
use Rattle.std.proofs.Common.{length, take, drop, get_or, Option, Some, None, refl, ap, sym}
use Rattle.std.proofs.Common.{Result, Ok, Err, subst, ◌∙◌, arith, take_all, true≢false}
use Rattle.std.specs.List.{flat_map, fold, list_all, range_with_len}
use Rattle.std.proofs.lemmas.Bool.{lt-ltb}
use Rattle.std.proofs.lemmas.Grind.{flat_map-append}
use Rattle.std.proofs.lemmas.List.{append-nil, length-drop, take-append-drop}
use Rattle.std.proofs.lemmas.List.Sums.{fold-append}
use Rattle.fr_bus.specs.States.{collecting_of}
use Rattle.fr_core.specs.Carried.{Carried, Idle, Knows, Offers, Waits, Took}
use Rattle.fr_core.specs.declared.error.StepError.{StepError}
use Rattle.fr_core.specs.declared.error.StepError.TheVariants.{UnknownNode, WrongTurn}
use Rattle.fr_core.specs.declared.event.Event.{Event}
use Rattle.fr_core.specs.declared.event.Event.TheVariants.{Observe}
use Rattle.fr_core.specs.Runs.{Answer, StepsAll}
use Rattle.fr_core.specs.declared.event.Reply.{Reply}
use Rattle.fr_core.specs.Steps.{Steps, answered, observe_in_turn, step_refusal}
use Rattle.fr_core.specs.Worlds.{WorldState, carried_at, is_between}
use Rattle.fr_interface.specs.State.{State}
use Rattle.fr_runs.specs.declared.fault_line.FaultLine.{FaultLine}
use Rattle.fr_playing.specs.Moving.{first_refusal, run_cycle_after, struck_after, Strikes, DoesAll, MovesOn, for_nodes}
use Rattle.fr_playing.specs.Moving.{IsObserveOf}
use Rattle.fr_playing.specs.Moving.{is_at_cycle, WithinCycle, PassesCycles, EndsCycle}
use Rattle.fr_playing.specs.Striking.{strike_events, Tries}
use Rattle.fr_playing.proofs.StrikingLemmas.{tries_none}
use Rattle.fr_slots.specs.Windows.{Opportunity}

steps_more : (old : WorldState) (events : List Event) (answers : List Answer) (between : WorldState) (event : Event)
    (answer : Answer) (new : WorldState)
    → StepsAll old events answers between → Steps between event answer new
    → StepsAll old (events ++ event ∷ []) (answers ++ answer ∷ []) new
unfolding StepsAll
steps_more old [] [] between event answer new so_far step = (
  new,
  subst (λ (w : WorldState). Steps w event answer new) so_far step,
  refl,
)
steps_more old [] (a ∷ answers) between event answer new so_far step = absurd so_far
steps_more old (e ∷ events) [] between event answer new so_far step = absurd so_far
steps_more old (e ∷ events) (a ∷ answers) between event answer new so_far step =
    (so_far.0, so_far.1, steps_more so_far.0 events answers between event answer new so_far.2 step)

pub does_none : (w : WorldState) → DoesAll w [] None w
unfolding StepsAll
does_none w = ([], refl, refl)

-- what is found depends on no reply
pub found_so : (found : Option StepError) (outcome : Result (Unit {0}) StepError) (reply other : Reply)
    → first_refusal found (answered reply outcome) ≡ first_refusal found (answered other outcome)
found_so (Some e) outcome reply other = refl
found_so None (Ok done) reply other = refl
found_so None (Err e) reply other = refl

pub does_more : (old : WorldState) (events : List Event) (found : Option StepError) (between : WorldState)
    (event : Event) (answer : Answer) (new : WorldState)
    → DoesAll old events found between → Steps between event answer new
    → DoesAll old (events ++ event ∷ []) (first_refusal found answer) new
does_more old events found between event answer new so_far step =
    let (answers, steps, is) = so_far in (
      answers ++ answer ∷ [],
      steps_more old events answers between event answer new steps step,
      ap (λ f. first_refusal f answer) is ∙ sym (fold-append first_refusal None answers (answer ∷ [])),
    )

-- ---- observes between two windows

first_of : (a b : Bool) → (a && b) ≡ true → a ≡ true
first_of true b both = refl
first_of false b both = both

second_of : (a b : Bool) → (a && b) ≡ true → b ≡ true
second_of true b both = both
second_of false b both = absurd (true≢false (sym both))

between_at : (l : List Carried) (n : ℕ) → list_all is_between l ≡ true → is_between (get_or l n Idle) ≡ true
between_at [] n all = refl
between_at (c ∷ l) zero all = first_of (is_between c) (list_all is_between l) all
between_at (c ∷ l) (suc n) all = between_at l n (second_of (is_between c) (list_all is_between l) all)

wrong_turn : (w : WorldState) (n : ℕ) (c : Carried) → is_between c ≡ true → observe_in_turn w n c ≡ Some WrongTurn
wrong_turn w n Idle between = refl
wrong_turn w n (Knows window) between = refl
wrong_turn w n (Offers window offer) between = refl
wrong_turn w n (Waits window) between = refl
wrong_turn w n (Took window a b) between = absurd (true≢false (sym between))

late_one : (w : WorldState) (n : ℕ) → list_all is_between w.carried ≡ true → n < length w.interfaces
    → step_refusal w (Observe n) ≡ Some WrongTurn
late_one w n between known =
    ap (λ (b : Bool). cond b (observe_in_turn w n (carried_at w n)) (Some UnknownNode))
    (lt-ltb n (length w.interfaces) known)
    ∙ wrong_turn w n (carried_at w n) (between_at w.carried n between)

-- between two windows an observe changes nothing, and no refusal is found
pub late_more : (w : WorldState) (events : List Event) (event : Event) (interfaces : List State)
    → interfaces ≡ w.interfaces → DoesAll w events None w → list_all is_between w.carried ≡ true
    → IsObserveOf (length interfaces) event → DoesAll w (events ++ event ∷ []) None w
late_more w events event interfaces same so_far between observes =
    let (n, known, is) = observes in
    let within : n < length w.interfaces = subst (λ (l : List State). n < length l) same known in
    does_more w events None w event (Err WrongTurn) w so_far
    (subst (λ (e : Event). Steps w e (Err WrongTurn) w) (sym is) (late_one w n between within, refl))

steps_all : (old : WorldState) (events : List Event) (answers : List Answer) (mid : WorldState) (rest : List Event)
    (others : List Answer) (new : WorldState) → StepsAll old events answers mid → StepsAll mid rest others new
    → StepsAll old (events ++ rest) (answers ++ others) new
unfolding StepsAll
steps_all old [] [] mid rest others new first second =
    subst (λ (w : WorldState). StepsAll w rest others new) first second
steps_all old [] (a ∷ answers) mid rest others new first second = absurd first
steps_all old (e ∷ events) [] mid rest others new first second = absurd first
steps_all old (e ∷ events) (a ∷ answers) mid rest others new first second =
    (first.0, first.1, steps_all first.0 events answers mid rest others new first.2 second)

pub rest_all : {X : Type 0} (i : ℕ) (xs : List X) → take (length xs - i) (drop i xs) ≡ drop i xs
rest_all i xs = take_all (length xs - i) (drop i xs) (omega (arith, length-drop i xs))

-- the events before a place change nothing, and no refusal is found among them
pub does_after : (w : WorldState) (place : ℕ) (events : List Event) (found : Option StepError) (new : WorldState)
    → DoesAll w (take place events) None w → DoesAll w (drop place events) found new → DoesAll w events found new
does_after w place events found new first second =
    let (answers, steps, none) = first in
    let (others, further, is) = second in
    subst (λ (l : List Event). DoesAll w l found new) (take-append-drop place events) (
      answers ++ others,
      steps_all w (take place events) answers w (drop place events) others new steps further,
      is ∙ ap (λ f. fold first_refusal f others) none ∙ sym (fold-append first_refusal None answers others),
    )

-- ---- nodes

pub range-more : (first count : ℕ) → range_with_len first (count + 1) ≡ range_with_len first count ++
    (first + count) ∷ []
range-more first zero = ap (λ (n : ℕ). n ∷ []) (omega arith)
range-more first (suc count) =
    let next : suc count + 1 ≡ suc (count + 1) = omega arith in
    let here : first + 1 + count ≡ first + suc count = omega arith in
    ap (λ (n : ℕ). range_with_len first n) next
    ∙ ap (λ (xs : List ℕ). first ∷ xs) (range-more (first + 1) count ∙ ap
    (λ (n : ℕ). range_with_len (first + 1) count ++ n ∷ []) here)

-- one node more
pub nodes_more : (events : ℕ → List Event) (count : ℕ) → for_nodes events (count + 1) ≡ for_nodes events count ++ events
    count
nodes_more events count =
    let here : 0 + count ≡ count = omega arith in
    ap (flat_map events) (range-more 0 count ∙ ap (λ (n : ℕ). range_with_len 0 count ++ n ∷ []) here)
    ∙ flat_map-append events (range_with_len 0 count) (count ∷ [])
    ∙ ap (λ l. for_nodes events count ++ l) (append-nil (events count))

-- ---- the open window

pub strikes_none : (faults : List FaultLine) (w : WorldState) → collecting_of w.bus ≡ None → Strikes faults w w
strikes_none faults w none = subst (λ (o : Option Opportunity). Tries w (struck_after faults w.bus.sealed o) w)
    (sym none) (tries_none w)

pub strikes_some : (faults : List FaultLine) (old : WorldState) (window : Opportunity) (cycle : ℕ) (new : WorldState)
    → collecting_of old.bus ≡ Some window
    → cycle ≡ run_cycle_after old.bus.sealed window → Tries old (flat_map (strike_events cycle window) faults) new
    → Strikes faults old new
strikes_some faults old window cycle new opened is tries =
    subst (λ (o : Option Opportunity). Tries old (struck_after faults old.bus.sealed o) new) (sym opened)
    (subst (λ (c : ℕ). Tries old (flat_map (strike_events c window) faults) new) is tries)

-- ---- windows

pub within_none : (faults : List FaultLine) (due : List Event) (w : WorldState) → WithinCycle faults due 0 w w
unfolding WithinCycle
within_none faults due w = refl

within_next : (faults : List FaultLine) (due : List Event) (count : ℕ) (old mid new : WorldState)
    → WithinCycle faults due count old mid → MovesOn faults due mid None new
    → is_at_cycle new.bus.opened ≡ false → WithinCycle faults due (suc count) old new
unfolding WithinCycle
within_next faults due count old mid new so_far moves within = (mid, so_far, moves, within)

pub within_more : (faults : List FaultLine) (due : List Event) (count : ℕ) (found : Option StepError)
    (old mid new : WorldState) → WithinCycle faults due count old mid
    → MovesOn faults due mid found new → found ≡ None → is_at_cycle new.bus.opened ≡ false
    → WithinCycle faults due (count + 1) old new
within_more faults due count found old mid new so_far moves none within =
    subst (λ k. WithinCycle faults due k old new) (omega arith)
    (within_next faults due count old mid new so_far (subst (λ (f : Option StepError). MovesOn faults due mid f new)
    none moves) within)

pub passes_none : (faults : List FaultLine) (due : List Event) (w : WorldState) → PassesCycles faults due 0 w w
unfolding PassesCycles
passes_none faults due w = refl

passes_next : (faults : List FaultLine) (due : List Event) (count : ℕ) (old mid new : WorldState)
    → PassesCycles faults due count old mid → EndsCycle faults due mid None new
    → PassesCycles faults due (suc count) old new
unfolding PassesCycles
passes_next faults due count old mid new so_far ends = (mid, so_far, ends)

pub passes_more : (faults : List FaultLine) (due : List Event) (count : ℕ) (found : Option StepError)
    (old mid new : WorldState) → PassesCycles faults due count old mid
    → EndsCycle faults due mid found new → found ≡ None → PassesCycles faults due (count + 1) old new
passes_more faults due count found old mid new so_far ends none =
    subst (λ k. PassesCycles faults due k old new) (omega arith)
    (passes_next faults due count old mid new so_far (subst (λ (f : Option StepError). EndsCycle faults due mid f new)
    none ends))
