-- The kept data refuse what each world that leads to them refuses.
use Rattle.std.proofs.Common.{◌≡◌, ℕ, ◌<◌, Bool, true, false, cond, List, length, Option, Some, refl, sym, ap}
use Rattle.std.proofs.Common.{◌∙◌}
use Rattle.std.proofs.lemmas.Bool.{ltb-true}
use Rattle.std.specs.Prelude.{option_map}
use Rattle.fr_bus.specs.declared.fault.Fault.{Fault}
use Rattle.fr_bus.specs.declared.fault.Fault.TheVariants.{Babble, Mute, Corrupt}
use Rattle.fr_bus.specs.Standing.{BusStanding, bare, IsBusHistory}
use Rattle.fr_bus.specs.States.{BusState, collecting_of, put_refusal, take_refusal, inject_refusal, seal_refusal}
use Rattle.fr_bus.specs.States.{advance_refusal}
use Rattle.fr_core.specs.Carried.{Carried, Idle, Knows, Offers, Waits, Took}
use Rattle.fr_core.specs.declared.error.StepError.{StepError}
use Rattle.fr_core.specs.declared.error.StepError.TheVariants.{UnknownNode, Host, Slot, Bus}
use Rattle.fr_core.specs.declared.event.Event.TheVariants.{Commit, Look, Fetch, Put, Take, Observe, Inject, Seal}
use Rattle.fr_core.specs.declared.event.Event.TheVariants.{Advance}
use Rattle.fr_core.specs.Steps as steps
use Rattle.fr_core.specs.Steps.{step_refusal, unless_collecting}
use Rattle.fr_core.specs.Worlds.{WorldState, interface_at}
use Rattle.fr_interface.specs.Standing.{commit_refused}
use Rattle.fr_interface.proofs.StandingLemmas.{refusal-commit, refusal-fetch, refusal-observe}
use Rattle.fr_live.proofs.LeadLemmas.{nodes_same, carried_same, history_at}
use Rattle.fr_live.specs.LiveSteps.{if_node, look_in_turn, fetch_in_turn, put_in_turn, take_in_turn, observe_in_turn}
use Rattle.fr_live.specs.LiveWorlds.{LiveState, Leads, has_node, standing_at, carried_at}
use Rattle.fr_slots.specs.declared.channel.Channel.TheVariants.{A, B}

-- ---- the bus

module _ (h : BusStanding) (b : BusState) (is : IsBusHistory h b) where
  pub collecting_same : collecting_of (bare h) ≡ collecting_of b
  collecting_same = sym (ap (λ (x : BusStanding). collecting_of (bare x)) is.leaves)

  pub put_same : (n number : ℕ) → put_refusal (bare h) n number ≡ put_refusal b n number
  put_same n number = sym (ap (λ (x : BusStanding). put_refusal (bare x) n number) is.leaves)

  pub take_same : (n number : ℕ) → take_refusal (bare h) n number ≡ take_refusal b n number
  take_same n number = sym (ap (λ (x : BusStanding). take_refusal (bare x) n number) is.leaves)

  pub inject_same : (fault : Fault) → inject_refusal (bare h) fault ≡ inject_refusal b fault
  inject_same (Babble node channel bytes) =
      sym (ap (λ (x : BusStanding). inject_refusal (bare x) (Babble node channel bytes)) is.leaves)
  inject_same (Mute node channel) =
      sym (ap (λ (x : BusStanding). inject_refusal (bare x) (Mute node channel)) is.leaves)
  inject_same (Corrupt A bit) = sym (ap (λ (x : BusStanding). inject_refusal (bare x) (Corrupt A bit)) is.leaves)
  inject_same (Corrupt B bit) = sym (ap (λ (x : BusStanding). inject_refusal (bare x) (Corrupt B bit)) is.leaves)

  pub seal_same : seal_refusal (bare h) ≡ seal_refusal b
  seal_same = sym (ap (λ (x : BusStanding). seal_refusal (bare x)) is.leaves)

  pub advance_same : advance_refusal (bare h) ≡ advance_refusal b
  advance_same = sym (ap (λ (x : BusStanding). advance_refusal (bare x)) is.leaves)

-- ---- events

in_node : (b : Bool) (x y : Option StepError) → (b ≡ true → x ≡ y)
    → cond b x (Some UnknownNode) ≡ cond b y (Some UnknownNode)
in_node true x y same = same refl
in_node false x y same = refl

module _ (w : WorldState) (l : LiveState) (is : Leads w l) where
  of_node : (n : ℕ) (x y : Option StepError) → (n < length l.interfaces → x ≡ y) → if_node l n x ≡ steps.if_node w n y
  of_node n x y same =
      in_node (has_node l n) x y (λ there. same (ltb-true n (length l.interfaces) there))
      ∙ ap (λ (b : Bool). cond b y (Some UnknownNode)) (nodes_same w l is n)

  pub commit_refuses : (n task buffer : ℕ) (payload : List ℕ)
      → if_node l n (option_map Host (commit_refused (standing_at l n) task buffer payload))
      ≡ step_refusal w (Commit n task buffer payload)
  commit_refuses n task buffer payload = of_node n _ _ (λ within. ap (option_map Host)
      (refusal-commit (standing_at l n) (interface_at w n) task buffer payload (history_at w l is n within)))

  look_turn : (c : Carried) → look_in_turn l c ≡ steps.look_in_turn w c
  look_turn Idle = ap unless_collecting (collecting_same l.bus.bus w.bus is.bus_is.of_bus)
  look_turn (Knows window) = refl
  look_turn (Offers window offer) = refl
  look_turn (Waits window) = refl
  look_turn (Took window a b) = refl

  pub look_refuses : (n : ℕ) → if_node l n (look_in_turn l (carried_at l n)) ≡ step_refusal w (Look n)
  look_refuses n = of_node n _ _ (λ within. look_turn (carried_at l n)
      ∙ ap (steps.look_in_turn w) (carried_same w l is n))

  fetch_turn : (n : ℕ) (c : Carried) → n < length l.interfaces → fetch_in_turn l n c ≡ steps.fetch_in_turn w n c
  fetch_turn n Idle within = refl
  fetch_turn n (Knows window) within = ap (option_map Slot)
      (refusal-fetch (standing_at l n) (interface_at w n) window (history_at w l is n within))
  fetch_turn n (Offers window offer) within = refl
  fetch_turn n (Waits window) within = refl
  fetch_turn n (Took window a b) within = refl

  pub fetch_refuses : (n : ℕ) → if_node l n (fetch_in_turn l n (carried_at l n)) ≡ step_refusal w (Fetch n)
  fetch_refuses n = of_node n _ _ (λ within. fetch_turn n (carried_at l n) within
      ∙ ap (steps.fetch_in_turn w n) (carried_same w l is n))

  put_turn : (n : ℕ) (c : Carried) → put_in_turn l n c ≡ steps.put_in_turn w n c
  put_turn n Idle = refl
  put_turn n (Knows window) = refl
  put_turn n (Offers window offer) = ap (option_map Bus) (put_same l.bus.bus w.bus is.bus_is.of_bus n window.number)
  put_turn n (Waits window) = refl
  put_turn n (Took window a b) = refl

  pub put_refuses : (n : ℕ) → if_node l n (put_in_turn l n (carried_at l n)) ≡ step_refusal w (Put n)
  put_refuses n = of_node n _ _ (λ within. put_turn n (carried_at l n)
      ∙ ap (steps.put_in_turn w n) (carried_same w l is n))

  take_turn : (n : ℕ) (c : Carried) → take_in_turn l n c ≡ steps.take_in_turn w n c
  take_turn n Idle = refl
  take_turn n (Knows window) = refl
  take_turn n (Offers window offer) = refl
  take_turn n (Waits window) = ap (option_map Bus) (take_same l.bus.bus w.bus is.bus_is.of_bus n window.number)
  take_turn n (Took window a b) = refl

  pub take_refuses : (n : ℕ) → if_node l n (take_in_turn l n (carried_at l n)) ≡ step_refusal w (Take n)
  take_refuses n = of_node n _ _ (λ within. take_turn n (carried_at l n)
      ∙ ap (steps.take_in_turn w n) (carried_same w l is n))

  observe_turn : (n : ℕ) (c : Carried) → n < length l.interfaces → observe_in_turn l n c ≡ steps.observe_in_turn w n c
  observe_turn n Idle within = refl
  observe_turn n (Knows window) within = refl
  observe_turn n (Offers window offer) within = refl
  observe_turn n (Waits window) within = refl
  observe_turn n (Took window a b) within = ap (option_map Slot)
      (refusal-observe (standing_at l n) (interface_at w n) window.number (history_at w l is n within))

  pub observe_refuses : (n : ℕ) → if_node l n (observe_in_turn l n (carried_at l n)) ≡ step_refusal w (Observe n)
  observe_refuses n = of_node n _ _ (λ within. observe_turn n (carried_at l n) within
      ∙ ap (steps.observe_in_turn w n) (carried_same w l is n))

  pub inject_refuses : (fault : Fault) → option_map Bus (inject_refusal (bare l.bus.bus) fault)
      ≡ step_refusal w (Inject fault)
  inject_refuses fault = ap (option_map Bus) (inject_same l.bus.bus w.bus is.bus_is.of_bus fault)

  pub seal_refuses : option_map Bus (seal_refusal (bare l.bus.bus)) ≡ step_refusal w Seal
  seal_refuses = ap (option_map Bus) (seal_same l.bus.bus w.bus is.bus_is.of_bus)

  pub advance_refuses : option_map Bus (advance_refusal (bare l.bus.bus)) ≡ step_refusal w Advance
  advance_refuses = ap (option_map Bus) (advance_same l.bus.bus w.bus is.bus_is.of_bus)
