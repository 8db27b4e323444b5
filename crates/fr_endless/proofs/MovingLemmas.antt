-- Each world with its history moves as the kept data do.
use Rattle.std.proofs.Common.{◌≡◌, ℕ, ◌+◌, ◌-◌, ◌<◌, ◌≤◌, Bool, true}
use Rattle.std.proofs.Common.{false, cond, List, [], ◌∷◌, ◌++◌, length, take, get_or}
use Rattle.std.proofs.Common.{Option, Some, None, Result, Err, refl, sym, ap}
use Rattle.std.proofs.Common.{ap₂, subst, ◌∙◌, inl, inr, drop}
use Rattle.std.proofs.lemmas.List.{take_all, take_more}
use Rattle.std.specs.List.{flat_map}
use Rattle.fr_bus.specs.Standing.{bare}
use Rattle.fr_bus.specs.States.{collecting_of}
use Rattle.fr_core.proofs.FrontLemmas.{index_any}
use Rattle.fr_core.specs.declared.error.StepError.{StepError}
use Rattle.fr_core.specs.declared.event.Event.{Event}
use Rattle.fr_core.specs.declared.event.Event.TheVariants.{Observe, Inject, Advance}
use Rattle.fr_core.specs.declared.error.StepError.TheVariants.{UnknownNode, WrongTurn}
use Rattle.fr_core.specs.Carried.{Carried, Idle, Knows, Offers, Waits, Took}
use Rattle.fr_endless.specs.Fronts.{AreLate, HasNothing, IsLate}
use Rattle.fr_interface.specs.Standing.{Standing}
use Rattle.fr_live.proofs.RefusalLemmas.{observe_refuses}
use Rattle.fr_live.specs.LiveSteps.{observe_in_turn}
use Rattle.fr_live.specs.LiveWorlds.{LiveState, IsWorldHistory, carried_at}
use Rattle.std.proofs.lemmas.Bool.{lt-ltb}
use Rattle.std.specs.Prelude.{nat_lt}
use Rattle.fr_core.specs.declared.event.Reply.TheVariants.{Done}
use Rattle.fr_core.specs.Runs.{Answer, StepsAll}
use Rattle.fr_core.specs.Steps.{Applies, Steps, answered, step_refusal, step_reply}
use Rattle.fr_live.specs.LiveSteps.{Accepts}
use Rattle.fr_core.specs.Worlds.{WorldState}
use Rattle.fr_endless.proofs.AlikeLemmas.{opened_same, begun_same, collecting_is}
use Rattle.fr_slots.specs.Windows.{run_cycle}
use Rattle.fr_endless.specs.Taps.{TapsState, ToldAlike, ToldState, with_taps}
use Rattle.fr_playing.proofs.MovingLemmas.{does_none, does_more, found_so, strikes_none, strikes_some, within_none}
use Rattle.fr_playing.proofs.MovingLemmas.{within_more}
use Rattle.fr_playing.proofs.PassingLemmas.{does_accepted, take_split}
use Rattle.fr_playing.proofs.MovingLemmas.{passes_none, passes_more}
use Rattle.fr_playing.proofs.StrikingLemmas.{flat-more, steps_append, tries_none}
use Rattle.fr_playing.specs.Moving.{first_refusal, hindrance, Strikes, DoesAll, MovesOn, is_at_cycle, WithinCycle}
use Rattle.fr_playing.specs.Moving.{most_windows, EndsCycle, PassesCycles, RunsCycles}
use Rattle.fr_playing.specs.Striking.{strike_events, Tries}
use Rattle.fr_runs.specs.declared.fault_line.FaultLine.{FaultLine}
use Rattle.fr_runs.specs.Striking.{strikes}
use Rattle.fr_slots.specs.Windows.{Opportunity}

-- ---- faults

tries_one : (old : WorldState) (event : Event) (answer : Answer) (new : WorldState) → Steps old event answer new
    → Tries old (event ∷ []) new
unfolding StepsAll
tries_one old event answer new step = (answer ∷ [], (new, step, refl))

tries_append : (old : WorldState) (xs : List Event) (mid : WorldState) (ys : List Event) (new : WorldState)
    → Tries old xs mid → Tries mid ys new → Tries old (xs ++ ys) new
tries_append old xs mid ys new first second =
    (first.0 ++ second.0, steps_append old xs first.0 mid ys second.0 new first.1 second.1)

module _ (cycle : ℕ) (window : Opportunity) where
  pub strike_one : (l new : ToldState) (line : FaultLine) (answer : Answer) → strikes line cycle window ≡ true
      → ToldAlike l (λ w v. Steps w (Inject line.fault) answer v) new
      → ToldAlike l (λ w v. Tries w (strike_events cycle window line) v) new
  strike_one l new line answer occurs step s w is =
      let got = step s w is in (
        got.0,
        subst (λ (b : Bool). Tries w (cond b (Inject line.fault ∷ []) []) got.0) (sym occurs)
            (tries_one w (Inject line.fault) answer got.0 got.1),
        got.2,
      )

  pub strike_none : (l : ToldState) (line : FaultLine) → strikes line cycle window ≡ false
      → ToldAlike l (λ w v. Tries w (strike_events cycle window line) v) l
  strike_none l line absent s w is =
      (w, subst (λ (b : Bool). Tries w (cond b (Inject line.fault ∷ []) []) w) (sym absent) (tries_none w), is)

  pub tried_none : (l : ToldState) → ToldAlike l (λ w v. Tries w (flat_map (strike_events cycle window) []) v) l
  tried_none l s w is = (w, tries_none w, is)

  pub tried_more : (l mid new : ToldState) (faults : List FaultLine) (i : ℕ) (line : FaultLine) → i < length faults
      → line ≡ get_or faults i line
      → ToldAlike l (λ w v. Tries w (flat_map (strike_events cycle window) (take i faults)) v) mid
      → ToldAlike mid (λ w v. Tries w (strike_events cycle window line) v) new
      → ToldAlike l (λ w v. Tries w (flat_map (strike_events cycle window) (take (i + 1) faults)) v) new
  tried_more l mid new faults i line lt line_is so_far next s w is =
      let first = so_far s w is in
      let second = next s first.0 first.2 in
      let xs = flat_map (strike_events cycle window) (take i faults) in (
        second.0,
        subst (λ (events : List Event). Tries w events second.0)
            (sym (flat-more (strike_events cycle window) faults i line lt line_is))
            (tries_append w xs first.0 (strike_events cycle window line) second.0 first.1 second.1),
        second.2,
      )

  pub tried_all : (l new : ToldState) (faults : List FaultLine) (i : ℕ) → length faults ≤ i
      → ToldAlike l (λ w v. Tries w (flat_map (strike_events cycle window) (take i faults)) v) new
      → ToldAlike l (λ w v. Tries w (flat_map (strike_events cycle window) faults) v) new
  tried_all l new faults i all so_far =
      subst (λ (lines : List FaultLine). ToldAlike l (λ w v. Tries w (flat_map (strike_events cycle window) lines) v)
      new)
      (take_all i faults all) so_far

-- ---- the open window

pub strikes_open : (l new : ToldState) (faults : List FaultLine) (window : Opportunity) (cycle : ℕ)
    → collecting_of (bare l.live.bus.bus) ≡ Some window → cycle ≡ run_cycle l.live.bus.bus.course.begun window
    → ToldAlike l (λ w v. Tries w (flat_map (strike_events cycle window) faults) v) new
    → ToldAlike l (λ w v. Strikes faults w v) new
strikes_open l new faults window cycle opened cycle_is tries s w is =
    let got = tries s w is in
    let cycle_there = cycle_is ∙ ap (λ (n : ℕ). run_cycle n window) (sym (begun_same l.live w is.leads)) in (
      got.0,
      strikes_some faults w window cycle got.0 (collecting_is l.live w is.leads ∙ opened) cycle_there got.1,
      got.2,
    )

pub strikes_nothing : (l : ToldState) (faults : List FaultLine) → collecting_of (bare l.live.bus.bus) ≡ None
    → ToldAlike l (λ w v. Strikes faults w v) l
strikes_nothing l faults none s w is = (w, strikes_none faults w (collecting_is l.live w is.leads ∙ none), is)

-- ---- the events

pub did_none : (l : ToldState) → ToldAlike l (λ w v. DoesAll w [] None v) l
did_none l s w is = (w, does_none w, is)

pub did_more : (l mid new : ToldState) (events : List Event) (i : ℕ) (event : Event) (found after : Option StepError)
    (outcome : Result (Unit {0}) StepError) → i < length events → event ≡ get_or events i event
    → after ≡ first_refusal found (answered Done outcome) → ToldAlike l (λ w v. DoesAll w (take i events) found v) mid
    → ToldAlike mid (λ w v. Applies w event outcome v) new → ToldAlike l
    (λ w v. DoesAll w (take (i + 1) events) after v) new
did_more l mid new events i event found after outcome lt event_is found_is so_far step s w is =
    let first = so_far s w is in
    let second = step s first.0 first.2 in
    let answer = answered (step_reply first.0 event) outcome in
    let after_is = found_is ∙ found_so found outcome Done (step_reply first.0 event) in
    let more : take (i + 1) events ≡ take i events ++ event ∷ [] =
    take_more events i event lt ∙ ap (λ (e : Event). take i events ++ e ∷ []) (sym event_is) in
    let did : DoesAll w (take i events ++ event ∷ []) (first_refusal found answer) second.0 =
    does_more w (take i events) found first.0 event answer second.0 first.1 second.1 in (
      second.0,
      subst (λ (es : List Event). DoesAll w es after second.0) (sym more)
          (subst (λ (f : Option StepError). DoesAll w (take i events ++ event ∷ []) f second.0) (sym after_is) did),
      second.2,
    )

-- ---- events that aren't due

in_turn : (l : LiveState) (n : ℕ) (k : Carried) → HasNothing k → observe_in_turn l n k ≡ Some WrongTurn
in_turn l n Idle none = refl
in_turn l n (Knows window) none = refl
in_turn l n (Offers window offer) none = refl
in_turn l n (Waits window) none = refl
in_turn l n (Took window a b) none = absurd none

-- the observe of a node that has nothing to observe
pub late_one : (l : LiveState) (n place : ℕ) (interfaces : List Standing) (controllers : List Carried) (k : Carried)
    → interfaces ≡ l.interfaces → controllers ≡ l.carried → place ≡ n → place < length interfaces
    → place < length controllers → k ≡ get_or controllers place k → HasNothing k → (w : WorldState)
    → IsWorldHistory l w → IsLate w (Observe n)
late_one l n place interfaces controllers k all_is every_is place_is within known taken none w is =
    let here : nat_lt n (length l.interfaces) ≡ true =
    lt-ltb n (length l.interfaces) (subst (λ (m : ℕ). m < length l.interfaces) place_is
    (subst (λ (hs : List Standing). place < length hs) all_is within)) in
    let carried : k ≡ carried_at l n =
    taken ∙ index_any controllers place k Idle known
    ∙ ap₂ (λ (ks : List Carried) (m : ℕ). get_or ks m Idle) every_is place_is in
    let refused : step_refusal w (Observe n) ≡ Some WrongTurn =
    sym (observe_refuses w l is.leads n)
    ∙ ap (λ (b : Bool). cond b (observe_in_turn l n (carried_at l n)) (Some UnknownNode)) here
    ∙ ap (observe_in_turn l n) (sym carried) ∙ in_turn l n k none in
    (refused, refl)

late_more : (w : WorldState) (es : List Event) (e : Event) → AreLate w es → IsLate w e → AreLate w (es ++ e ∷ [])
late_more w [] e all one = (one, tt)
late_more w (x ∷ xs) e all one = (all.0, late_more w xs e all.1 one)

pub late_next : (w : WorldState) (events : List Event) (i : ℕ) (event : Event) → i < length events
    → event ≡ get_or events i event → AreLate w (take i events) → IsLate w event → AreLate w (take (i + 1) events)
late_next w events i event lt event_is all one =
    let more : take (i + 1) events ≡ take i events ++ event ∷ [] =
    take_more events i event lt ∙ ap (λ (e : Event). take i events ++ e ∷ []) (sym event_is) in
    subst (AreLate w) (sym more) (late_more w (take i events) event all one)

late_does : (w : WorldState) (es : List Event) → AreLate w es → DoesAll w es None w
unfolding StepsAll
late_does w [] all = ([], refl, refl)
late_does w (e ∷ es) all =
    let (answers, steps, found) = late_does w es all.1 in
    (Err WrongTurn ∷ answers, (w, all.0, steps), found)

-- they change nothing
pub did_late : (l : ToldState) (events : List Event) (n : ℕ)
    → ((w : WorldState) → IsWorldHistory l.live w → AreLate w (take n events))
    → ToldAlike l (λ w v. DoesAll w (take n events) None v) l
did_late l events n late s w is = (w, late_does w (take n events) (late w is.leads), is)

-- the first of the remaining events are accepted
pub did_passed : (l mid new : ToldState) (events rest : List Event) (i n : ℕ) (found : Option StepError)
    → rest ≡ drop i events → ToldAlike l (λ w v. DoesAll w (take i events) found v) mid
    → ToldAlike mid (λ w v. Accepts w (take n rest) v) new
    → ToldAlike l (λ w v. DoesAll w (take (i + n) events) found v) new
did_passed l mid new events rest i n found rest_is so_far accepts s w is =
    let first = so_far s w is in
    let second = accepts s first.0 first.2 in
    let did : DoesAll w (take i events ++ take n rest) found second.0 =
    does_accepted w (take n rest) (take i events) found first.0 second.0 first.1 second.1 in (
      second.0,
      subst (λ (es : List Event). DoesAll w es found second.0)
          (ap (λ (r : List Event). take i events ++ take n r) rest_is ∙ sym (take_split i n events)) did,
      second.2,
    )

-- the same by other names
pub turn_as : (l : ToldState) (events : List Event) (p q : ℕ) (f h : Option StepError) (a b : LiveState)
    (t u : TapsState) → q ≡ p → h ≡ f → b ≡ a → u ≡ t
    → ToldAlike l (λ w v. DoesAll w (take p events) f v) (with_taps a t)
    → ToldAlike l (λ w v. DoesAll w (take q events) h v) (with_taps b u)
turn_as l events p q f h a b t u place_is found_is world_is taps_is told =
    subst (λ (n : ℕ). ToldAlike l (λ w v. DoesAll w (take n events) h v) (with_taps b u)) (sym place_is)
    (subst (λ (o : Option StepError). ToldAlike l (λ w v. DoesAll w (take p events) o v) (with_taps b u)) (sym found_is)
    (subst (λ (x : LiveState). ToldAlike l (λ w v. DoesAll w (take p events) f v) (with_taps x u)) (sym world_is)
    (subst (λ (x : TapsState). ToldAlike l (λ w v. DoesAll w (take p events) f v) (with_taps a x)) (sym taps_is)
    told)))

pub did_all : (l new : ToldState) (events : List Event) (i : ℕ) (found : Option StepError) → length events ≤ i
    → ToldAlike l (λ w v. DoesAll w (take i events) found v) new → ToldAlike l (λ w v. DoesAll w events found v) new
did_all l new events i found all so_far =
    subst (λ (es : List Event). ToldAlike l (λ w v. DoesAll w es found v) new) (take_all i events all) so_far

-- ---- windows

module _ (faults : List FaultLine) (due : List Event) where
  pub moved_on : (l a b new : ToldState) (found hinders : Option StepError) (last : Answer)
      → ToldAlike l (λ w v. Strikes faults w v) a → ToldAlike a (λ w v. DoesAll w due found v) b
      → ToldAlike b (λ w v. Steps w Advance last v) new
      → hinders ≡ hindrance found last → ToldAlike l (λ w v. MovesOn faults due w hinders v) new
  moved_on l a b new found hinders last strikes does step hinders_is s w is =
      let first = strikes s w is in
      let second = does s first.0 first.2 in
      let third = step s second.0 second.2 in
      (third.0, (first.0, second.0, found, last, first.1, second.1, third.1, hinders_is), third.2)

  pub within_start : (l : ToldState) → ToldAlike l (λ w v. WithinCycle faults due 0 w v) l
  within_start l s w is = (w, within_none faults due w, is)

  module _ (l mid new : ToldState) (count : ℕ)
      (so_far : ToldAlike l (λ w v. WithinCycle faults due count w v) mid) where
    pub within_next : (found : Option StepError) → ToldAlike mid (λ w v. MovesOn faults due w found v) new →
        found ≡ None
        → is_at_cycle new.live.bus.bus.opened ≡ false → ToldAlike l (λ w v. WithinCycle faults due (count + 1) w v) new
    within_next found moves none within s w is =
        let first = so_far s w is in
        let second = moves s first.0 first.2 in (
          second.0,
          within_more faults due count found w first.0 second.0 first.1 second.1 none
              (ap is_at_cycle (opened_same new.live second.0 second.2.leads) ∙ within),
          second.2,
        )

    pub cycle_hindered : (error : StepError) → ToldAlike mid (λ w v. MovesOn faults due w (Some error) v) new
        → ToldAlike l (λ w v. EndsCycle faults due w (Some error) v) new
    cycle_hindered error moves s w is =
        let first = so_far s w is in
        let second = moves s first.0 first.2 in (
          second.0,
          inl (
            count,
            first.0,
            first.1,
            second.1,
            λ (none : Some error ≡ None). absurd
                (let none_is : ⊥ = cc in none_is),
          ),
          second.2,
        )

    pub cycle_ended : (found : Option StepError) → ToldAlike mid (λ w v. MovesOn faults due w found v) new →
        found ≡ None
        → is_at_cycle new.live.bus.bus.opened ≡ true → ToldAlike l (λ w v. EndsCycle faults due w None v) new
    cycle_ended found moves none at s w is =
        let first = so_far s w is in
        let second = moves s first.0 first.2 in (
          second.0,
          inl (
            count,
            first.0,
            first.1,
            subst (λ (f : Option StepError). MovesOn faults due first.0 f second.0) none second.1,
            λ same. ap is_at_cycle (opened_same new.live second.0 second.2.leads) ∙ at,
          ),
          second.2,
        )

  pub cycle_full : (l new : ToldState) (count : ℕ) → ToldAlike l (λ w v. WithinCycle faults due count w v) new
      → count ≡ most_windows → ToldAlike l (λ w v. EndsCycle faults due w None v) new
  cycle_full l new count so_far full s w is =
      let got = so_far s w is in
      (got.0, inr (subst (λ (n : ℕ). WithinCycle faults due n w got.0) full got.1, refl), got.2)

  -- ---- cycles

  pub passed_none : (l : ToldState) → ToldAlike l (λ w v. PassesCycles faults due 0 w v) l
  passed_none l s w is = (w, passes_none faults due w, is)

  module _ (l mid new : ToldState) (count : ℕ)
      (so_far : ToldAlike l (λ w v. PassesCycles faults due count w v) mid) where
    pub passed_more : (found : Option StepError) → ToldAlike mid (λ w v. EndsCycle faults due w found v) new →
        found ≡ None
        → ToldAlike l (λ w v. PassesCycles faults due (count + 1) w v) new
    passed_more found ends none s w is =
        let first = so_far s w is in
        let second = ends s first.0 first.2 in
        (second.0, passes_more faults due count found w first.0 second.0 first.1 second.1 none, second.2)

    pub run_hindered : (cycles : ℕ) (error : StepError) → count < cycles
        → ToldAlike mid (λ w v. EndsCycle faults due w (Some error) v) new
        → ToldAlike l (λ w v. RunsCycles faults due cycles w (Some error) v) new
    run_hindered cycles error fewer ends s w is =
        let first = so_far s w is in
        let second = ends s first.0 first.2 in
        (second.0, (count, first.0, fewer, first.1, second.1), second.2)

  pub run_over : (l new : ToldState) (count cycles : ℕ) → ToldAlike l (λ w v. PassesCycles faults due count w v) new
      → count ≡ cycles → ToldAlike l (λ w v. RunsCycles faults due cycles w None v) new
  run_over l new count cycles so_far all s w is =
      let got = so_far s w is in (got.0, subst (λ (n : ℕ). PassesCycles faults due n w got.0) all got.1, got.2)
