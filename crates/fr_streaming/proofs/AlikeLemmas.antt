-- What happens one after another to each world that leads to the kept data.
use Rattle.std.proofs.Common.{◌≡◌, ℕ, ◌+◌, ◌<◌, ◌≤◌, Bool, true, false, cond, List, [], ◌∷◌, ◌++◌, length, take, get_or}
use Rattle.std.proofs.Common.{Some, Result, Ok, Err, sym, ap, subst, drop, ◌∙◌}
use Rattle.std.specs.Prelude.{OnOk}
use Rattle.std.proofs.lemmas.List.{take_all}
use Rattle.std.specs.List.{flat_map}
use Rattle.fr_core.specs.declared.event.Event.{Event}
use Rattle.fr_core.specs.declared.event.Event.TheVariants.{Inject, Advance}
use Rattle.fr_core.specs.declared.error.StepError.{StepError}
use Rattle.fr_core.specs.Steps.{Applies, step_reply}
use Rattle.fr_core.specs.Worlds.{WorldState}
use Rattle.fr_endless.proofs.AlikeLemmas.{opened_same}
use Rattle.fr_endless.specs.Alike.{Alike}
use Rattle.fr_live.specs.LiveSteps.{AcceptsAlike, AppliesAlike}
use Rattle.fr_live.specs.LiveWorlds.{LiveState, IsWorldHistory}
use Rattle.fr_playing.proofs.PassingLemmas.{accepts_pass, take_split}
use Rattle.fr_playing.proofs.PlayLemmas.{passes_window}
use Rattle.fr_playing.proofs.StrikingLemmas.{flat-more, passes_none, passes_one, passes_append, passes_more}
use Rattle.fr_playing.specs.Striking.{strike_events, Passes}
use Rattle.fr_playing.specs.Windows.{PlaysWindow}
use Rattle.fr_runs.specs.declared.fault_line.FaultLine.{FaultLine}
use Rattle.fr_runs.specs.Striking.{strikes}
use Rattle.fr_slots.specs.Windows.{Opportunity}

-- ---- any relations

pub alike_same : (l : LiveState) (R : WorldState → WorldState → Type 0) → ((w : WorldState) → R w w) → Alike l R l
alike_same l R same w is = (w, same w, is)

pub alike_then : (l m n : LiveState) (R S Q : WorldState → WorldState → Type 0) → Alike l R m → Alike m S n
    → ((w u v : WorldState) → R w u → S u v → Q w v) → Alike l Q n
alike_then l m n R S Q first second joins w is =
    let (u, one, mid) = first w is in
    let (v, two, end) = second u mid in
    (v, joins w u v one two, end)

pub alike_as : (l n : LiveState) (R Q : WorldState → WorldState → Type 0) → Alike l R n
    → ((w v : WorldState) → IsWorldHistory l w → IsWorldHistory n v → R w v → Q w v) → Alike l Q n
alike_as l n R Q given means w is =
    let (v, one, end) = given w is in
    (v, means w v is end one, end)

-- the same of a result
pub ok_as : {A E : Type 0} (r : Result A E) (P Q : Type 0) → OnOk r P → (P → Q) → OnOk r Q
ok_as (Ok x) P Q given means = means given
ok_as (Err e) P Q given means = tt

-- ---- events

pub passed_one : (l new : LiveState) (event : Event) (outcome : Result (Unit {0}) StepError) (done : Unit {0})
    → outcome ≡ Ok done → AppliesAlike l event outcome new → Alike l (λ w v. Passes w (event ∷ []) v) new
passed_one l new event outcome done is step w history =
    let got = step w history in (
      got.0,
      passes_one w event (step_reply w event) got.0
          (subst (λ (o : Result (Unit {0}) StepError). Applies w event o got.0) is got.1),
      got.2,
    )

pub passed_none : (l : LiveState) → Alike l (λ w v. Passes w [] v) l
passed_none l = alike_same l (λ w v. Passes w [] v) passes_none

pub passed_more : (l mid new : LiveState) (events : List Event) (i : ℕ) (event : Event) → i < length events
    → event ≡ get_or events i event → Alike l (λ w v. Passes w (take i events) v) mid
    → Alike mid (λ w v. Passes w (event ∷ []) v) new → Alike l (λ w v. Passes w (take (i + 1) events) v) new
passed_more l mid new events i event lt is first second =
    alike_then l mid new (λ w v. Passes w (take i events) v) (λ w v. Passes w (event ∷ []) v)
    (λ w v. Passes w (take (i + 1) events) v) first second
    (λ w u v one two. passes_more events i event w u v lt is one two)

-- the first of the remaining events are accepted
pub passed_front : (l mid new : LiveState) (events rest : List Event) (i n : ℕ) → rest ≡ drop i events
    → Alike l (λ w v. Passes w (take i events) v) mid → AcceptsAlike mid (take n rest) new
    → Alike l (λ w v. Passes w (take (i + n) events) v) new
passed_front l mid new events rest i n rest_is first second w is =
    let before = first w is in
    let after = second before.0 before.2 in
    let all : Passes w (take i events ++ take n rest) after.0 =
    passes_append w (take i events) before.0 (take n rest) after.0 before.1
    (accepts_pass (take n rest) before.0 after.0 after.1) in (
      after.0,
      subst (λ (es : List Event). Passes w es after.0)
          (ap (λ (r : List Event). take i events ++ take n r) rest_is ∙ sym (take_split i n events)) all,
      after.2,
    )

-- the same by other names
pub passed_as : (l : LiveState) (events : List Event) (p q : ℕ) (a b : LiveState) → q ≡ p → b ≡ a
    → Alike l (λ w v. Passes w (take p events) v) a → Alike l (λ w v. Passes w (take q events) v) b
passed_as l events p q a b place_is world_is given =
    subst (λ (n : ℕ). Alike l (λ w v. Passes w (take n events) v) b) (sym place_is)
    (subst (λ (x : LiveState). Alike l (λ w v. Passes w (take p events) v) x) (sym world_is) given)

pub passed_all : (l new : LiveState) (events : List Event) (i : ℕ) → length events ≤ i
    → Alike l (λ w v. Passes w (take i events) v) new → Alike l (λ w v. Passes w events v) new
passed_all l new events i all given =
    subst (λ (es : List Event). Alike l (λ w v. Passes w es v) new) (take_all i events all) given

-- ---- faults

module _ (cycle : ℕ) (window : Opportunity) where
  pub struck_one : {A E : Type 0} (r : Result A E) (l new : LiveState) (line : FaultLine)
      → strikes line cycle window ≡ true → OnOk r (Alike l (λ w v. Passes w (Inject line.fault ∷ []) v) new)
      → OnOk r (Alike l (λ w v. Passes w (strike_events cycle window line) v) new)
  struck_one r l new line occurs given =
      subst (λ (b : Bool). OnOk r (Alike l (λ w v. Passes w (cond b (Inject line.fault ∷ []) []) v) new)) (sym occurs)
      given

  pub struck_none : (l : LiveState) (line : FaultLine) → strikes line cycle window ≡ false
      → Alike l (λ w v. Passes w (strike_events cycle window line) v) l
  struck_none l line absent =
      subst (λ (b : Bool). Alike l (λ w v. Passes w (cond b (Inject line.fault ∷ []) []) v) l) (sym absent)
      (passed_none l)

  pub struck_more : (l mid new : LiveState) (faults : List FaultLine) (i : ℕ) (line : FaultLine) → i < length faults
      → line ≡ get_or faults i line
      → Alike l (λ w v. Passes w (flat_map (strike_events cycle window) (take i faults)) v) mid
      → Alike mid (λ w v. Passes w (strike_events cycle window line) v) new
      → Alike l (λ w v. Passes w (flat_map (strike_events cycle window) (take (i + 1) faults)) v) new
  struck_more l mid new faults i line lt is first second =
      let xs = flat_map (strike_events cycle window) (take i faults) in
      let ys = strike_events cycle window line in
      subst (λ (events : List Event). Alike l (λ w v. Passes w events v) new)
      (sym (flat-more (strike_events cycle window) faults i line lt is))
      (alike_then l mid new (λ w v. Passes w xs v) (λ w v. Passes w ys v) (λ w v. Passes w (xs ++ ys) v) first second
      (λ w u v one two. passes_append w xs u ys v one two))

  pub struck_all : (l new : LiveState) (faults : List FaultLine) (i : ℕ) → length faults ≤ i
      → Alike l (λ w v. Passes w (flat_map (strike_events cycle window) (take i faults)) v) new
      → Alike l (λ w v. Passes w (flat_map (strike_events cycle window) faults) v) new
  struck_all l new faults i all given =
      subst (λ (lines : List FaultLine). Alike l (λ w v. Passes w (flat_map (strike_events cycle window) lines) v) new)
      (take_all i faults all) given

-- ---- a window

pub window_played : {A E : Type 0} (r : Result A E) (cycle : ℕ) (faults : List FaultLine) (due : List Event)
    (window : Opportunity) (l a b new : LiveState) → l.bus.bus.opened ≡ Some window
    → Alike l (λ w v. Passes w (flat_map (strike_events cycle window) faults) v) a
    → Alike a (λ w v. Passes w due v) b → OnOk r (Alike b (λ w v. Passes w (Advance ∷ []) v) new)
    → OnOk r (Alike l (λ w v. PlaysWindow cycle faults due w v) new)
window_played r cycle faults due window l a b new opened first second third =
    ok_as r (Alike b (λ w v. Passes w (Advance ∷ []) v) new) (Alike l (λ w v. PlaysWindow cycle faults due w v) new)
    third (λ last w is.
    let (struck, one, at_a) = first w is in
    let (done, two, at_b) = second struck at_a in
    let (v, three, end) = last done at_b in
    (v, passes_window cycle faults due window w struck done v (opened_same l w is ∙ opened) one two three, end))
