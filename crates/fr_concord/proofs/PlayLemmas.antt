-- The scenario of a single-threaded run determines its calls and its world.
use Rattle.std.proofs.Common.{◌≡◌, ℕ, zero, suc, ◌<◌, true, false, inl, inr, List, [], ◌∷◌, ◌++◌, length, map, refl}
use Rattle.std.proofs.Common.{sym, ap, subst, ◌∙◌, arith, slice_get}
use Rattle.std.proofs.lemmas.Bool.{cases_lt}
use Rattle.fr_concord.proofs.MoveLemmas.{no_both}
use Rattle.fr_concord.specs.Determined.{AreRunsDetermined}
use Rattle.fr_core.specs.declared.event.Event.{Event}
use Rattle.fr_core.specs.declared.event.Reply.{Reply}
use Rattle.fr_core.specs.Scripts.{Scripted}
use Rattle.fr_core.specs.Steps.{event_of, step_done, step_reply}
use Rattle.fr_core.specs.Worlds.{WorldState, opening_world}
use Rattle.fr_playing.specs.Calls.{Asked, asked_of, entries_in, DoesCall, DoesCalls}
use Rattle.fr_playing.specs.declared.call.ExecutedCall.{ExecutedCall}
use Rattle.fr_playing.specs.Moving.{is_at_cycle, whole_window}
use Rattle.fr_playing.specs.Playing.{PlaysCycle, PlaysCycles}
use Rattle.fr_playing.specs.Striking.{Passes}
use Rattle.fr_playing.specs.Windows.{played_events, PlaysWindow, PlaysWithin, PlaysWindows}
use Rattle.fr_runs.specs.declared.fault_line.FaultLine.{FaultLine}
use Rattle.fr_slots.proofs.PlaceLemmas.{same_some}
use Rattle.fr_slots.specs.Windows.{Opportunity}

-- ---- accepted events

pub passes_same : (old : WorldState) (events : List Event) (x y : WorldState) → Passes old events x
    → Passes old events y → x ≡ y
unfolding Passes
passes_same old [] x y first second = first ∙ sym second
passes_same old (e ∷ events) x y first second =
    let start : first.0 ≡ second.0 = first.2.2 ∙ sym second.2.2 in
    passes_same first.0 events x y first.3 (subst (λ (w : WorldState). Passes w events y) (sym start) second.3)

module _ (cycle : ℕ) (faults : List FaultLine) (due : List Event) where
  window_same : (old x y : WorldState) → PlaysWindow cycle faults due old x → PlaysWindow cycle faults due old y
      → x ≡ y
  window_same old x y first second =
      let window = same_some first.0 second.0 (sym first.1 ∙ second.1) in
      passes_same old (played_events cycle faults due first.0) x y first.2
      (subst (λ (w : Opportunity). Passes old (played_events cycle faults due w) y) (sym window) second.2)

  within_same : (n : ℕ) (old x y : WorldState) → PlaysWithin cycle faults due n old x
      → PlaysWithin cycle faults due n old y → x ≡ y
  unfolding PlaysWithin
  within_same zero old x y first second = first ∙ sym second
  within_same (suc n) old x y first second =
      let mid = within_same n old first.0 second.0 first.1 second.1 in
      window_same first.0 x y first.2 (subst (λ (w : WorldState). PlaysWindow cycle faults due w y) (sym mid) second.2)

  -- a window more of the same cycle comes after the first of them
  record GoesOn (n : ℕ) (old : WorldState) : Type 0 where
    mid : WorldState
    next : WorldState
    within : PlaysWithin cycle faults due n old mid
    move : PlaysWindow cycle faults due mid next
    inside : is_at_cycle next.bus.opened ≡ false

  goes_on : (n m : ℕ) (old new : WorldState) → n < m → PlaysWithin cycle faults due m old new → GoesOn n old
  unfolding PlaysWithin
  goes_on n zero old new less within = absurd (omega arith)
  goes_on n (suc m) old new less within =
      elim (cases_lt n m) [
        | inl lower ↦ goes_on n m old within.0 lower within.1
        | inr at ↦
            let same : m ≡ n = omega arith in
            record {
              mid = within.0;
              next = new;
              within = subst (λ (k : ℕ). PlaysWithin cycle faults due k old within.0) same within.1;
              move = within.2;
              inside = within.3;
            }
      ]

  -- no cycle goes on after the window that ended it
  ended : (n : ℕ) (old before new : WorldState) → PlaysWithin cycle faults due n old before
      → PlaysWindow cycle faults due before new → is_at_cycle new.bus.opened ≡ true → GoesOn n old → ⊥
  ended n old before new within move at on =
      let mid = within_same n old before on.mid within on.within in
      let other = subst (λ (w : WorldState). PlaysWindow cycle faults due w on.next) (sym mid) on.move in
      let same = window_same before new on.next move other in
      no_both (is_at_cycle new.bus.opened)
      (ap (λ (w : WorldState). is_at_cycle w.bus.opened) same ∙ on.inside) at

  pub windows_same : (old x y : WorldState) → PlaysWindows cycle faults due old x → PlaysWindows cycle faults due old y
      → x ≡ y
  windows_same old x y first second =
      let (n, before, within, move, at) = first in
      let (m, before', within', move', at') = second in
      elim (cases_lt n m) [
        | inl less ↦ absurd (ended n old before x within move at (goes_on n m old before' less within'))
        | inr rest ↦
            elim (cases_lt m n) [
              | inl less ↦ absurd (ended m old before' y within' move' at' (goes_on m n old before less within))
              | inr rest' ↦
                  let count : m ≡ n = omega arith in
                  let other = subst (λ (k : ℕ). PlaysWithin cycle faults due k old before') count within' in
                  let mid = within_same n old before before' within other in
                  window_same before x y move
                  (subst (λ (w : WorldState). PlaysWindow cycle faults due w y) (sym mid) move')
            ]
      ]

-- ---- calls

abbrev done_by : Asked → ℕ → Reply → ExecutedCall
done_by asked entry reply = record {
  node = asked.node;
  task = asked.task;
  cycle = asked.cycle;
  call = asked.call;
  entry = entry;
  reply = reply;
}

abbrev reply_to : WorldState → Asked → Reply
reply_to w asked = step_reply w (event_of asked.node asked.task asked.call)

abbrev entry_of : WorldState → Asked → ℕ
entry_of w asked = entries_in (slice_get w.interfaces asked.node)

abbrev after_asked : WorldState → Asked → WorldState
after_asked w asked = step_done w (event_of asked.node asked.task asked.call)

call_is : (old : WorldState) (x : ExecutedCall) (new : WorldState) → DoesCall old x new
    → x ≡ done_by (asked_of x) (entry_of old (asked_of x)) (reply_to old (asked_of x))
call_is old x new does =
    ap (λ (n : ℕ). done_by (asked_of x) n x.reply) does.1
    ∙ ap (λ (r : Reply). done_by (asked_of x) (entry_of old (asked_of x)) r) does.0.1

call_same : (old : WorldState) (x y : ExecutedCall) (v w : WorldState) → asked_of x ≡ asked_of y
    → DoesCall old x v → DoesCall old y w → (x ≡ y) × (v ≡ w)
call_same old x y v w asked first second = (
  call_is old x v first
      ∙ ap (λ (a : Asked). done_by a (entry_of old a) (reply_to old a)) asked ∙ sym (call_is old y w second),
  first.0.2 ∙ ap (λ (a : Asked). after_asked old a) asked ∙ sym second.0.2,
)

first_same : (x y : Asked) (xs ys : List Asked) → x ∷ xs ≡ y ∷ ys → (x ≡ y) × (xs ≡ ys)
first_same x y xs ys e = (cc e, cc e)

calls_same : (old : WorldState) (xs ys : List ExecutedCall) (v w : WorldState)
    → map asked_of xs ≡ map asked_of ys → DoesCalls old xs v → DoesCalls old ys w → (xs ≡ ys) × (v ≡ w)
unfolding DoesCalls
calls_same old [] [] v w asked first second = (refl, first ∙ sym second)
calls_same old [] (y ∷ ys) v w asked first second = absurd (let none : ⊥ = cc asked in none)
calls_same old (x ∷ xs) [] v w asked first second = absurd (let none : ⊥ = cc asked in none)
calls_same old (x ∷ xs) (y ∷ ys) v w asked first second =
    let parts = first_same (asked_of x) (asked_of y) (map asked_of xs) (map asked_of ys) asked in
    let one = call_same old x y first.0 second.0 parts.0 first.1 second.1 in
    let later = subst (λ (u : WorldState). DoesCalls u ys w) (sym one.1) second.2 in
    let rest = calls_same first.0 xs ys v w parts.1 first.2 later in
    (ap (λ (z : ExecutedCall). z ∷ xs) one.0 ∙ ap (λ (zs : List ExecutedCall). y ∷ zs) rest.0, rest.1)

-- ---- cycles

cycle_same : (cycle : ℕ) (scripts : List Scripted) (faults : List FaultLine) (due : List Event) (old : WorldState)
    (xs ys : List ExecutedCall) (v w : WorldState) → PlaysCycle cycle scripts faults due old xs v
    → PlaysCycle cycle scripts faults due old ys w → (xs ≡ ys) × (v ≡ w)
cycle_same cycle scripts faults due old xs ys v w first second =
    let (called, asked, does, windows) = first in
    let (called', asked', does', windows') = second in
    let calls = calls_same old xs ys called called' (asked ∙ sym asked') does does' in
    let other = subst (λ (u : WorldState). PlaysWindows cycle faults due u w) (sym calls.1) windows' in
    (calls.0, windows_same cycle faults due called v w windows other)

cycles_same : (scripts : List Scripted) (faults : List FaultLine) (due : List Event) (n : ℕ) (old : WorldState)
    (xs ys : List ExecutedCall) (v w : WorldState) → PlaysCycles scripts faults due n old xs v
    → PlaysCycles scripts faults due n old ys w → (xs ≡ ys) × (v ≡ w)
unfolding PlaysCycles
cycles_same scripts faults due zero old xs ys v w first second =
    (first.0 ∙ sym second.0, first.1 ∙ sym second.1)
cycles_same scripts faults due (suc n) old xs ys v w first second =
    let (mid, before, later, earlier, cycle, are) = first in
    let (mid', before', later', earlier', cycle', are') = second in
    let start = cycles_same scripts faults due n old before before' mid mid' earlier earlier' in
    let other = subst (λ (u : WorldState). PlaysCycle n scripts faults due u later' w) (sym start.1) cycle' in
    let here = cycle_same n scripts faults due mid later later' v w cycle other in (
      are ∙ ap (λ (l : List ExecutedCall). l ++ later) start.0
          ∙ ap (λ (l : List ExecutedCall). before' ++ l) here.0 ∙ sym are',
      here.1,
    )

-- ---- the law

pub runs_determined : AreRunsDetermined
runs_determined d scripts faults cycles played other first second =
    cycles_same scripts faults (whole_window (length d.plans)) cycles (opening_world d cycles) played.calls.items
    other.calls.items played.world other.world first.cycles_are second.cycles_are
