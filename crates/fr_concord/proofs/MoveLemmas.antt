-- Windows and cycles that nothing hinders determine the world after them.
use Rattle.std.proofs.Common.{◌⊎◌, ◌≡◌, ℕ, zero, suc, ◌<◌, Bool, true, false, inl, inr, List, Option, Some, None, Ok}
use Rattle.std.proofs.Common.{Err, refl, sym, ap, subst, ◌∙◌, arith}
use Rattle.std.specs.List.{fold}
use Rattle.std.proofs.lemmas.Bool.{cases_lt}
use Rattle.fr_bus.specs.States.{collects, collecting_of}
use Rattle.fr_concord.proofs.StepLemmas.{plain_step, plain_steps, seals_last, two_lists, struck_plain, advance_sealed}
use Rattle.fr_concord.specs.Determined.{IsPastOffers, HasShortCycles}
use Rattle.fr_core.specs.declared.error.StepError.{StepError}
use Rattle.fr_core.specs.declared.event.Event.{Event}
use Rattle.fr_core.specs.declared.event.Event.TheVariants.{Advance}
use Rattle.fr_core.specs.Runs.{Answer, StepsAll}
use Rattle.fr_core.specs.Steps.{Steps, step_done}
use Rattle.fr_core.specs.Worlds.{WorldState}
use Rattle.fr_playing.specs.Moving.{first_refusal, hindrance, Strikes, MovesOn, struck_events, WithinCycle, is_at_cycle}
use Rattle.fr_playing.specs.Moving.{most_windows, LastWindow, EndsCycle, PassesCycles}
use Rattle.fr_runs.specs.declared.fault_line.FaultLine.{FaultLine}

-- ---- one window

-- nothing hinders the bus exactly if its advance is accepted
record IsAdvanced (between : WorldState) (last : Answer) (new : WorldState) : Type 0 where
  sealed : collects between.bus.phase ≡ false
  done : new ≡ step_done between Advance

advance_done : (found : Option StepError) (between : WorldState) (last : Answer) (new : WorldState)
    → None ≡ hindrance found last → Steps between Advance last new → IsAdvanced between last new
advance_done found between (Ok reply) new free step =
    record { sealed = advance_sealed between step.0; done = step.2 }
advance_done None between (Err e) new free step = absurd (let none : ⊥ = cc free in none)
advance_done (Some f) between (Err e) new free step = absurd (let none : ⊥ = cc free in none)

pub no_both : (b : Bool) → b ≡ false → b ≡ true → ⊥
no_both true h k = cc h
no_both false h k = cc k

module _ (faults : List FaultLine) (due : List Event) (last_is : seals_last due ≡ true) where
  struck_same : (old x y : WorldState) → Strikes faults old x → Strikes faults old y → x ≡ y
  struck_same old x y first second =
      (plain_steps old (struck_events faults old.bus) first.0 second.0 x y
      (struck_plain faults old.bus.sealed (collecting_of old.bus)) first.1 second.1).1

  pub moves_same : (old x y : WorldState) → MovesOn faults due old None x → MovesOn faults due old None y → x ≡ y
  moves_same old x y first second =
      let (struck, between, found, answer, strikes, all, step, free) = first in
      let (struck', between', found', answer', strikes', all', step', free') = second in
      let one = advance_done found between answer x free step in
      let other = advance_done found' between' answer' y free' step' in
      let start = struck_same old struck struck' strikes strikes' in
      let steps' = subst (λ (w : WorldState). StepsAll w due all'.0 between') (sym start) all'.1 in
      elim (two_lists struck due all.0 all'.0 between between' last_is all.1 steps') [
        | inl same ↦ one.done ∙ ap (λ (w : WorldState). step_done w Advance) same.1 ∙ sym other.done
        | inr late ↦
            elim late [
              | inl c ↦ absurd (no_both (collects between.bus.phase) one.sealed c)
              | inr c ↦ absurd (no_both (collects between'.bus.phase) other.sealed c)
            ]
      ]

  -- nothing hinders the bus, or it is past its offers
  abbrev pub IsFree : Option StepError → WorldState → Type 0
  IsFree hinders w = (hinders ≡ None) ⊎ IsPastOffers w.bus

  some_hindrance : (found : Option StepError) (e : StepError) → hindrance found (Err e) ≡ None → ⊥
  some_hindrance None e none = cc none
  some_hindrance (Some f) e none = cc none

  -- a bus that still collects can't advance
  not_collecting : (found : Option StepError) (between : WorldState) (last : Answer) (new : WorldState)
      (hinders : Option StepError) → hinders ≡ hindrance found last → Steps between Advance last new
      → IsFree hinders new → collects between.bus.phase ≡ true → ⊥
  not_collecting found between (Ok reply) new hinders is step free collecting =
      no_both (collects between.bus.phase) (advance_sealed between step.0) collecting
  not_collecting found between (Err e) new hinders is step (inl none) collecting =
      some_hindrance found e (sym is ∙ none)
  not_collecting found between (Err e) new hinders is step (inr past) collecting =
      no_both (collects between.bus.phase)
      (sym (ap (λ (w : WorldState). collects w.bus.phase) step.1) ∙ past) collecting

  pub moved_same : (old x y : WorldState) (h k : Option StepError) → MovesOn faults due old h x
      → MovesOn faults due old k y → IsFree h x → IsFree k y → (h ≡ k) × (x ≡ y)
  moved_same old x y h k first second free free' =
      let (struck, between, found, answer, strikes, all, step, is) = first in
      let (struck', between', found', answer', strikes', all', step', is') = second in
      let start = struck_same old struck struck' strikes strikes' in
      let steps' = subst (λ (w : WorldState). StepsAll w due all'.0 between') (sym start) all'.1 in
      elim (two_lists struck due all.0 all'.0 between between' last_is all.1 steps') [
        | inl same ↦
            let other = subst (λ (w : WorldState). Steps w Advance answer' y) (sym same.1) step' in
            let last = plain_step between Advance answer answer' x y refl step other in
            let found_same : found ≡ found' =
            all.2 ∙ ap (λ (l : List Answer). fold first_refusal None l) same.0 ∙ sym all'.2 in (
              is ∙ ap (λ (f : Option StepError). hindrance f answer) found_same
                  ∙ ap (λ (a : Answer). hindrance found' a) last.0 ∙ sym is',
              last.1,
            )
        | inr late ↦
            elim late [
              | inl c ↦ absurd (not_collecting found between answer x h is step free c)
              | inr c ↦ absurd (not_collecting found' between' answer' y k is' step' free' c)
            ]
      ]

  -- ---- windows of a cycle

  within_same : (n : ℕ) (old x y : WorldState) → WithinCycle faults due n old x → WithinCycle faults due n old y
      → x ≡ y
  unfolding WithinCycle
  within_same zero old x y first second = first ∙ sym second
  within_same (suc n) old x y first second =
      let mid = within_same n old first.0 second.0 first.1 second.1 in
      let move = subst (λ (w : WorldState). MovesOn faults due w None y) (sym mid) second.2 in
      moves_same first.0 x y first.2 move

  -- a window more of the same cycle comes after the first of them
  record GoesOn (n : ℕ) (old : WorldState) : Type 0 where
    mid : WorldState
    next : WorldState
    within : WithinCycle faults due n old mid
    move : MovesOn faults due mid None next
    inside : is_at_cycle next.bus.opened ≡ false

  goes_on : (n m : ℕ) (old new : WorldState) → n < m → WithinCycle faults due m old new → GoesOn n old
  unfolding WithinCycle
  goes_on n zero old new less within = absurd (omega arith)
  goes_on n (suc m) old new less within =
      elim (cases_lt n m) [
        | inl lower ↦ goes_on n m old within.0 lower within.1
        | inr at ↦
            let same : m ≡ n = omega arith in
            record {
              mid = within.0;
              next = new;
              within = subst (λ (k : ℕ). WithinCycle faults due k old within.0) same within.1;
              move = within.2;
              inside = within.3;
            }
      ]

  -- no cycle goes on after the window that ended it
  ended : (n : ℕ) (old before new : WorldState) → WithinCycle faults due n old before
      → MovesOn faults due before None new → is_at_cycle new.bus.opened ≡ true → GoesOn n old → ⊥
  ended n old before new within move at on =
      let mid = within_same n old before on.mid within on.within in
      let other = subst (λ (w : WorldState). MovesOn faults due w None on.next) (sym mid) on.move in
      let same = moves_same before new on.next move other in
      no_both (is_at_cycle new.bus.opened)
      (ap (λ (w : WorldState). is_at_cycle w.bus.opened) same ∙ on.inside) at

  last_same : (old x y : WorldState) → LastWindow faults due old None x → LastWindow faults due old None y → x ≡ y
  last_same old x y first second =
      let (n, before, within, move, at) = first in
      let (m, before', within', move', at') = second in
      elim (cases_lt n m) [
        | inl less ↦ absurd (ended n old before x within move (at refl) (goes_on n m old before' less within'))
        | inr rest ↦
            elim (cases_lt m n) [
              | inl less ↦ absurd (ended m old before' y within' move' (at' refl) (goes_on m n old before less within))
              | inr rest' ↦
                  let count : m ≡ n = omega arith in
                  let other = subst (λ (k : ℕ). WithinCycle faults due k old before') count within' in
                  let mid = within_same n old before before' within other in
                  moves_same before x y move (subst (λ (w : WorldState). MovesOn faults due w None y) (sym mid) move')
            ]
      ]

  cycle_same : (old x y : WorldState) → ((new : WorldState) → WithinCycle faults due most_windows old new → ⊥)
      → EndsCycle faults due old None x → EndsCycle faults due old None y → x ≡ y
  cycle_same old x y short (inl first) (inl second) = last_same old x y first second
  cycle_same old x y short (inl first) (inr second) = absurd (short y second.0)
  cycle_same old x y short (inr first) second = absurd (short x first.0)

  -- ---- cycles

  pub passes_same : (n : ℕ) (old x y : WorldState) → HasShortCycles faults due old
      → PassesCycles faults due n old x → PassesCycles faults due n old y → x ≡ y
  unfolding PassesCycles
  passes_same zero old x y short first second = first ∙ sym second
  passes_same (suc n) old x y short first second =
      let mid = passes_same n old first.0 second.0 short first.1 second.1 in
      let cycle = subst (λ (w : WorldState). EndsCycle faults due w None y) (sym mid) second.2 in
      cycle_same first.0 x y (λ new within. short n first.0 new first.1 within) first.2 cycle
