-- Each event keeps the properties of every world.
use Rattle.std.proofs.Common.{◌≡◌, ℕ, List, [], ◌∷◌, length, map, refl, sym, ap, ◌∙◌, Option, Some, None, length-set}
use Rattle.std.specs.Prelude.{Result, Ok, Err}
use Rattle.std.proofs.lemmas.List.{length-map, length-replicate}
use Rattle.std.proofs.Math.Seq.{map-set_same}
use Rattle.fr_bus.specs.States.{BusState, collecting_of}
use Rattle.fr_core.proofs.AgreementLemmas.{keeps_done, agreement_opens}
use Rattle.fr_core.proofs.ClusterLemmas.{inject_cluster, seal_cluster}
use Rattle.fr_core.specs.Agreement.{Agreement, IsWorld}
use Rattle.fr_core.specs.Carried.{Carried, Idle, Knows, Offers, Waits, Took}
use Rattle.fr_core.specs.declared.error.StepError.{StepError}
use Rattle.fr_core.specs.declared.event.Event.{Event}
use Rattle.fr_core.specs.declared.event.Event.TheVariants.{Commit, Withdraw, Read, Pop, Look, Fetch, Put, Take}
use Rattle.fr_core.specs.declared.event.Event.TheVariants.{Observe, Inject, Seal, Advance}
use Rattle.fr_core.specs.declared.event.Reply.{Reply}
use Rattle.fr_core.specs.Steps.{Steps, step_done, with_interface, with_carried, with_bus, looked, fetched, put_on_bus}
use Rattle.fr_core.specs.Steps.{taken, observed}
use Rattle.fr_core.specs.Worlds.{WorldState, interface_at, carried_at, no_interface, new_interface, opening_world}
use Rattle.fr_core.specs.Worlds.{without_entries}
use Rattle.fr_interface.specs.State.{State}
use Rattle.fr_schedule.specs.Descriptions.{Description}
use Rattle.fr_slots.specs.Parameters.{Parameters}
use Rattle.fr_slots.specs.Plans.{Plan}
use Rattle.fr_slots.specs.Windows.{Opportunity}

-- the interfaces are those of the cluster's nodes, and each has a controller
record HasShape (w : WorldState) : Type 0 where
  pub configured : map without_entries w.interfaces ≡ map (new_interface w.bus.cluster.params) w.bus.cluster.plans
  pub a_controller_each : length w.interfaces ≡ length w.carried

-- ---- one change

-- an interface with another journal
kept_interface : (w : WorldState) (n : ℕ) (i : State) → without_entries i ≡ without_entries (interface_at w n)
    → HasShape w → HasShape (with_interface w n i)
kept_interface w n i same kept = record {
  configured = map-set_same without_entries w.interfaces n i no_interface same ∙ kept.configured;
  a_controller_each = length-set w.interfaces n i ∙ kept.a_controller_each;
}

kept_carried : (w : WorldState) (n : ℕ) (c : Carried) → HasShape w → HasShape (with_carried w n c)
kept_carried w n c kept = record {
  configured = kept.configured;
  a_controller_each = kept.a_controller_each ∙ sym (length-set w.carried n c);
}

-- a bus of the same cluster
kept_bus : (w : WorldState) (b : BusState) → b.cluster ≡ w.bus.cluster → HasShape w → HasShape (with_bus w b)
kept_bus w b same kept = record {
  configured = kept.configured ∙ ap (λ (d : Description). map (new_interface d.params) d.plans) (sym same);
  a_controller_each = kept.a_controller_each;
}

-- ---- the steps of a controller

kept_looked : (w : WorldState) (n : ℕ) (opened : Option Opportunity) → HasShape w → HasShape (looked w n opened)
kept_looked w n None kept = kept
kept_looked w n (Some window) kept = kept_carried w n (Knows window) kept

kept_fetched : (w : WorldState) (n : ℕ) (c : Carried) → HasShape w → HasShape (fetched w n c)
kept_fetched w n Idle kept = kept
kept_fetched w n (Knows window) kept = kept_carried _ n _ (kept_interface w n _ refl kept)
kept_fetched w n (Offers window offer) kept = kept
kept_fetched w n (Waits window) kept = kept
kept_fetched w n (Took window a b) kept = kept

kept_put : (w : WorldState) (n : ℕ) (c : Carried) → HasShape w → HasShape (put_on_bus w n c)
kept_put w n Idle kept = kept
kept_put w n (Knows window) kept = kept
kept_put w n (Offers window offer) kept = kept_carried _ n _ (kept_bus w _ refl kept)
kept_put w n (Waits window) kept = kept
kept_put w n (Took window a b) kept = kept

kept_taken : (w : WorldState) (n : ℕ) (c : Carried) → HasShape w → HasShape (taken w n c)
kept_taken w n Idle kept = kept
kept_taken w n (Knows window) kept = kept
kept_taken w n (Offers window offer) kept = kept
kept_taken w n (Waits window) kept = kept_carried _ n _ (kept_bus w _ refl kept)
kept_taken w n (Took window a b) kept = kept

kept_observed : (w : WorldState) (n : ℕ) (c : Carried) → HasShape w → HasShape (observed w n c)
kept_observed w n Idle kept = kept
kept_observed w n (Knows window) kept = kept
kept_observed w n (Offers window offer) kept = kept
kept_observed w n (Waits window) kept = kept
kept_observed w n (Took window a b) kept = kept_carried _ n _ (kept_interface w n _ refl kept)

-- ---- events

kept_done : (w : WorldState) (event : Event) → HasShape w → HasShape (step_done w event)
kept_done w (Commit n task buffer payload) kept = kept_interface w n _ refl kept
kept_done w (Withdraw n task buffer) kept = kept_interface w n _ refl kept
kept_done w (Read n task buffer) kept = kept_interface w n _ refl kept
kept_done w (Pop n task) kept = kept_interface w n _ refl kept
kept_done w (Look n) kept = kept_looked w n (collecting_of w.bus) kept
kept_done w (Fetch n) kept = kept_fetched w n (carried_at w n) kept
kept_done w (Put n) kept = kept_put w n (carried_at w n) kept
kept_done w (Take n) kept = kept_taken w n (carried_at w n) kept
kept_done w (Observe n) kept = kept_observed w n (carried_at w n) kept
kept_done w (Inject fault) kept = kept_bus w _ (inject_cluster w.bus fault) kept
kept_done w Seal kept = kept_bus w _ (seal_cluster w.bus w.bus.opened) kept
kept_done w Advance kept = kept_bus w _ refl kept

shape : (w : WorldState) → IsWorld w → HasShape w
shape w kept = record { configured = kept.configured; a_controller_each = kept.a_controller_each }

whole : (w : WorldState) → HasShape w → Agreement w → IsWorld w
whole w shape agrees = record {
  configured = shape.configured;
  a_controller_each = shape.a_controller_each;
  agrees =
      agrees;
}

pub kept_step : (old : WorldState) (event : Event) (answer : Result Reply StepError) (new : WorldState)
    → Steps old event answer new → IsWorld old → IsWorld new
kept_step old event (Ok reply) new step kept =
    rw step.2 (whole (step_done old event) (kept_done old event (shape old kept))
    (keeps_done old event step.0 kept.a_controller_each kept.agrees))
kept_step old event (Err e) new step kept = rw step.1 kept

-- ---- the opening world

opening_configured : (params : Parameters) (plans : List Plan)
    → map without_entries (map (new_interface params) plans) ≡ map (new_interface params) plans
opening_configured params [] = refl
opening_configured params (plan ∷ plans) = ap (λ l. new_interface params plan ∷ l) (opening_configured params plans)

pub kept_opening : (d : Description) (cycles : ℕ) → IsWorld (opening_world d cycles)
kept_opening d cycles = record {
  configured = opening_configured d.params d.plans;
  a_controller_each = length-map d.plans (new_interface d.params) ∙ sym (length-replicate (length d.plans) Idle);
  agrees = agreement_opens d cycles;
}
