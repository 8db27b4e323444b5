-- The events of a node that one call of a world executes.
use Rattle.std.proofs.Common.{◌≡◌, ℕ, zero, suc, ◌<◌, ◌≤◌, Bool, true, false, cond, List, [], ◌∷◌, ◌++◌, Option}
use Rattle.std.proofs.Common.{Some, None, length, take, refl, sym, subst, ap, ◌∙◌, arith, get_or-set_same}
use Rattle.std.specs.Option.{is_some}
use Rattle.std.specs.Prelude.{slice_index_or, slice_set, option_map, Result, Ok, Err, OnOk, OnErr}
use Rattle.std.specs.Prelude.{is_err, is_ok}
use Rattle.std.specs.Result.{result_err}
use Rattle.fr_bus.specs.States.{seen_last, take_done, take_refusal}
use Rattle.fr_core.proofs.WorldLemmas.{kept_step}
use Rattle.fr_core.specs.Agreement.{IsWorld}
use Rattle.fr_core.specs.Carried.{Carried, Idle, Waits, Took}
use Rattle.fr_core.specs.declared.error.StepError.{StepError}
use Rattle.fr_core.specs.declared.error.StepError.TheVariants.{UnknownNode, Bus, Slot}
use Rattle.fr_core.specs.declared.event.Event.{Event}
use Rattle.fr_core.specs.declared.event.Event.TheVariants.{Look, Take, Observe}
use Rattle.fr_core.specs.declared.event.Reply.TheVariants.{Done}
use Rattle.fr_core.specs.Fronts.{Accepts, IsRefused}
use Rattle.fr_core.specs.Steps.{Refuses, Steps, answered, with_window, step_done, step_refusal, step_reply, if_node}
use Rattle.fr_core.specs.Steps.{observed, observe_in_turn, taken, take_in_turn}
use Rattle.fr_core.specs.Worlds.{WorldState, carried_at, has_node, interface_at}
use Rattle.fr_interface.specs.State.{observe_refusal, with_entry}
use Rattle.fr_journal.specs.declared.entry.Entry.TheVariants as entries
use Rattle.fr_slots.specs.declared.channel.Channel.TheVariants.{A, B}
use Rattle.fr_slots.specs.Windows.{Opportunity}
use Rattle.fr_status.specs.Forms.{Seen}

-- ---- answers

no_refused : {X E : Type 0} (r : Result X E) → is_err r ≡ false → result_err r ≡ None
no_refused (Ok x) accepted = refl
no_refused (Err e) accepted = absurd (let none : ⊥ = cc accepted in none)

-- an answer that refuses nothing holds what it promises
module _ {X E : Type 0} (P : Type 0) where
  pub accepted_holds : (r : Result X E) → is_err r ≡ false → OnOk r P → P
  accepted_holds (Ok x) accepted holds = holds
  accepted_holds (Err e) accepted holds = absurd (let none : ⊥ = cc accepted in none)

  pub ok_holds : (r : Result X E) → is_ok r ≡ true → OnOk r P → P
  ok_holds (Ok x) accepted holds = holds
  ok_holds (Err e) accepted holds = absurd (let none : ⊥ = cc accepted in none)

  pub err_holds : (r : Result X E) → is_err r ≡ true → OnErr r P → P
  err_holds (Ok x) refused holds = absurd (let none : ⊥ = cc refused in none)
  err_holds (Err e) refused holds = holds

pub accepted_none : {X E : Type 0} (r : Result X E) (found : Option E) → is_err r ≡ false → result_err r ≡ found
    → found ≡ None
accepted_none r found accepted told = sym told ∙ no_refused r accepted

-- ---- lists

pub set_again : {X : Type 0} (xs : List X) (n : ℕ) (x y : X) → slice_set (slice_set xs n x) n y ≡ slice_set xs n y
set_again [] n x y = refl
set_again (z ∷ zs) zero x y = refl
set_again (z ∷ zs) (suc n) x y = ap (λ ws. z ∷ ws) (set_again zs n x y)

pub index_any : {X : Type 0} (xs : List X) (n : ℕ) (d e : X) → n < length xs
    → slice_index_or xs n d ≡ slice_index_or xs n e
index_any [] n d e within = absurd (let none : ⊥ = omega (arith, within) in none)
index_any (x ∷ xs) zero d e within = refl
index_any (x ∷ xs) (suc n) d e within = index_any xs n d e (omega (arith, within))

-- the first events of a list
pub take_front : {X : Type 0} (n : ℕ) (xs ys : List X) → n ≤ length xs → take n (xs ++ ys) ≡ take n xs
take_front zero xs ys few = refl
take_front (suc n) [] ys few = absurd (let no : ⊥ = omega (arith, few) in no)
take_front (suc n) (x ∷ xs) ys few = ap (λ (l : List _). x ∷ l) (take_front n xs ys (omega (arith, few)))

-- the place of a node that there is
pub place_ok : (there : Bool) (n place : ℕ) → Ok place ≡ cond there (Ok n) (Err UnknownNode)
    → (there ≡ true) × (place ≡ n)
place_ok true n place e = (refl, let same : place ≡ n = cc in same)
place_ok false n place e = absurd (let none : ⊥ = cc in none)

-- ---- accepted events

pub accepts_none : (w v : WorldState) → v ≡ w → Accepts w [] v
unfolding Accepts
accepts_none w v same = same

pub accepts_then : (w u v : WorldState) (xs ys : List Event) → Accepts w xs u → Accepts u ys v
    → Accepts w (xs ++ ys) v
unfolding Accepts
accepts_then w u v [] ys first second = subst (λ (x : WorldState). Accepts x ys v) first second
accepts_then w u v (x ∷ xs) ys first second = (first.0, accepts_then (step_done w x) u v xs ys first.1 second)

-- accepted events keep the properties of every world
pub accepts_kept : (w v : WorldState) (events : List Event) → Accepts w events v → IsWorld w → IsWorld v
unfolding Accepts
accepts_kept w v [] accepts is = subst IsWorld (sym accepts) is
accepts_kept w v (event ∷ events) accepts is =
    accepts_kept (step_done w event) v events accepts.1
    (kept_step w event (Ok (step_reply w event)) (step_done w event) (accepts.0, refl, refl) is)

refused_still : (w v : WorldState) (event : Event) → v ≡ w → is_some (step_refusal w event) ≡ true
    → IsRefused v (Some event)
refused_still w v event same refused = ap (λ (x : WorldState). is_some (step_refusal x event)) same ∙ refused

-- ---- one event

module _ (w v : WorldState) (n : ℕ) where
  pub look_accepted : (r : Result Opportunity StepError) → is_err r ≡ false → Steps w (Look n) (with_window r) v
      → Accepts w (Look n ∷ []) v
  unfolding Accepts
  look_accepted (Ok window) accepted step = (step.0, step.2)
  look_accepted (Err e) accepted step = absurd (let none : ⊥ = cc accepted in none)

  pub look_refused : (r : Result Opportunity StepError) → is_err r ≡ true → Steps w (Look n) (with_window r) v
      → (v ≡ w) × IsRefused v (Some (Look n))
  look_refused (Ok window) refused step = absurd (let none : ⊥ = cc refused in none)
  look_refused (Err e) refused step = (step.1, refused_still w v (Look n) step.1 (ap is_some step.0))

module _ (w v : WorldState) (event : Event) where
  pub done_accepted : (r : Result (Unit {0}) StepError) → is_err r ≡ false → Steps w event (answered Done r) v
      → Accepts w (event ∷ []) v
  unfolding Accepts
  done_accepted (Ok x) accepted step = (step.0, step.2)
  done_accepted (Err e) accepted step = absurd (let none : ⊥ = cc accepted in none)

  pub done_refused : ((e : StepError) (found : Option StepError) → Refuses event e found → found ≡ Some e)
      → (r : Result (Unit {0}) StepError) → is_err r ≡ true → Steps w event (answered Done r) v
      → (v ≡ w) × IsRefused v (Some event)
  done_refused plain (Ok x) refused step = absurd (let none : ⊥ = cc refused in none)
  done_refused plain (Err e) refused step =
      (step.1, refused_still w v event step.1 (ap is_some (plain e (step_refusal w event) step.0)))

-- ---- a take and an observe of a node as one step

module _ (w : WorldState) (n : ℕ) (window : Opportunity) (there : has_node w n ≡ true)
    (carries : n < length w.carried) (waits : carried_at w n ≡ Waits window)
    (taking : take_refusal w.bus n window.number ≡ None)
    (observing : observe_refusal (interface_at w n) window.number ≡ None) where
  abbrev pub on_a : Seen
  on_a = seen_last w.bus A n

  abbrev pub on_b : Seen
  on_b = seen_last w.bus B n

  -- between the take and the observe
  abbrev pub between : WorldState
  between = record {
    interfaces = w.interfaces;
    bus = take_done w.bus n;
    carried = slice_set w.carried n (Took window on_a on_b);
  }

  abbrev pub after_both : WorldState
  after_both = record {
    interfaces = slice_set w.interfaces n
        (with_entry (interface_at w n) (entries.Observe window.number on_a on_b));
    bus = take_done w.bus n;
    carried = slice_set w.carried n Idle;
  }

  no_refusal : (x : WorldState) (r : Option StepError) → has_node x n ≡ true → r ≡ None → if_node x n r ≡ None
  no_refusal x r known none = ap (λ t. if_node x n t) none ∙ in_node
    where
      in_node : if_node x n None ≡ None
      in_node = rw known refl

  takes : step_refusal w (Take n) ≡ None
  takes = no_refusal w (take_in_turn w n (carried_at w n)) there
      (ap (take_in_turn w n) waits ∙ ap (option_map Bus) taking)

  took : step_done w (Take n) ≡ between
  took = ap (taken w n) waits

  carried_between : carried_at between n ≡ Took window on_a on_b
  carried_between = get_or-set_same w.carried n (Took window on_a on_b) Idle carries

  observes : step_refusal between (Observe n) ≡ None
  observes = no_refusal between (observe_in_turn between n (carried_at between n)) there
      (ap (observe_in_turn between n) carried_between ∙ ap (option_map Slot) observing)

  saw : step_done between (Observe n) ≡ after_both
  saw = ap (observed between n) carried_between
      ∙ ap (λ (cs : List Carried). record after_both { carried = cs })
      (set_again w.carried n (Took window on_a on_b) Idle)

  pub sees_both : Accepts w (Take n ∷ Observe n ∷ []) after_both
  unfolding Accepts
  sees_both = (
    takes,
    subst (λ (x : WorldState). (step_refusal x (Observe n) ≡ None) × (after_both ≡ step_done x (Observe n)))
        (sym took) (observes, sym saw),
  )
