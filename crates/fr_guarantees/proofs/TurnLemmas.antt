-- The steps of one controller, each in its turn.
use Rattle.std.proofs.Common.{◌≡◌, ℕ, ◌<◌, Bool, cond, Option, Some, None, refl, sym, ap, ◌∙◌, length}
use Rattle.std.specs.Prelude.{nat_lt, option_map}
use Rattle.std.proofs.lemmas.Bool.{lt-ltb}
use Rattle.fr_bus.specs.States.{collecting_of, put_refusal, take_refusal}
use Rattle.fr_core.specs.Carried.{Idle, Knows, Offers, Waits, Took}
use Rattle.fr_core.specs.declared.error.StepError.{StepError}
use Rattle.fr_core.specs.declared.error.StepError.TheVariants.{UnknownNode, Slot, Bus}
use Rattle.fr_core.specs.declared.event.Event.TheVariants.{Look, Fetch, Put, Take, Observe}
use Rattle.fr_core.specs.Steps.{unless_collecting, look_in_turn, fetch_in_turn, put_in_turn, take_in_turn}
use Rattle.fr_core.specs.Steps.{observe_in_turn, looked, fetched, put_on_bus, taken, observed, with_carried}
use Rattle.fr_core.specs.Worlds.{WorldState, interface_at, carried_at}
use Rattle.fr_guarantees.proofs.LeadLemmas.{leads_by}
use Rattle.fr_guarantees.specs.Leading.{Leads}
use Rattle.fr_interface.specs.declared.interface.Offer.{Offer}
use Rattle.fr_interface.specs.State.{fetch_refusal, observe_refusal}
use Rattle.fr_slots.specs.Windows.{Opportunity}
use Rattle.fr_status.specs.Forms.{Seen}

pub if_known : (n many : ℕ) (o : Option StepError) → n < many → cond (nat_lt n many) o (Some UnknownNode) ≡ o
if_known n many o within = ap (λ (b : Bool). cond b o (Some UnknownNode)) (lt-ltb n many within)

module _ (w : WorldState) (n : ℕ) (within : n < length w.interfaces) (window : Opportunity) where
  pub leads_look : carried_at w n ≡ Idle → collecting_of w.bus ≡ Some window → Leads w (with_carried w n (Knows window))
  leads_look carries opened =
      leads_by w (Look n) (with_carried w n (Knows window))
      (if_known n (length w.interfaces) (look_in_turn w (carried_at w n)) within ∙ ap (look_in_turn w) carries
      ∙ ap unless_collecting opened) refl (sym (ap (looked w n) opened))

  pub leads_fetch : carried_at w n ≡ Knows window → fetch_refusal (interface_at w n) window ≡ None
      → Leads w (fetched w n (Knows window))
  leads_fetch carries ready =
      leads_by w (Fetch n) (fetched w n (Knows window))
      (if_known n (length w.interfaces) (fetch_in_turn w n (carried_at w n)) within ∙ ap (fetch_in_turn w n) carries
      ∙ ap (option_map Slot) ready) refl (sym (ap (fetched w n) carries))

  pub leads_put : (offer : Offer) → carried_at w n ≡ Offers window offer → put_refusal w.bus n window.number ≡ None
      → Leads w (put_on_bus w n (Offers window offer))
  leads_put offer carries ready =
      leads_by w (Put n) (put_on_bus w n (Offers window offer))
      (if_known n (length w.interfaces) (put_in_turn w n (carried_at w n)) within ∙ ap (put_in_turn w n) carries
      ∙ ap (option_map Bus) ready) refl (sym (ap (put_on_bus w n) carries))

  pub leads_take : carried_at w n ≡ Waits window → take_refusal w.bus n window.number ≡ None
      → Leads w (taken w n (Waits window))
  leads_take carries ready =
      leads_by w (Take n) (taken w n (Waits window))
      (if_known n (length w.interfaces) (take_in_turn w n (carried_at w n)) within ∙ ap (take_in_turn w n) carries
      ∙ ap (option_map Bus) ready) refl (sym (ap (taken w n) carries))

  pub leads_observe : (a b : Seen) → carried_at w n ≡ Took window a b
      → observe_refusal (interface_at w n) window.number ≡ None → Leads w (observed w n (Took window a b))
  leads_observe a b carries ready =
      leads_by w (Observe n) (observed w n (Took window a b))
      (if_known n (length w.interfaces) (observe_in_turn w n (carried_at w n)) within
      ∙ ap (observe_in_turn w n) carries ∙ ap (option_map Slot) ready) refl (sym (ap (observed w n) carries))
