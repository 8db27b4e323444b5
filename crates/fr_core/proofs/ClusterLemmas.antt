-- Every event keeps the cluster of a world.
use Rattle.std.proofs.Common.{◌≡◌, ℕ, List, [], ◌∷◌, Option, Some, None, Ok, Err, Result, refl, ap, ◌∙◌}
use Rattle.fr_bus.specs.declared.fault.Fault.TheVariants.{Babble, Mute, Corrupt}
use Rattle.fr_bus.specs.declared.fault.Fault.{Fault}
use Rattle.fr_bus.specs.States.{BusState, collecting_of, inject_done, sealed_with}
use Rattle.fr_core.specs.Carried.{Carried, Idle, Knows, Offers, Waits, Took}
use Rattle.fr_core.specs.declared.error.StepError.{StepError}
use Rattle.fr_core.specs.declared.event.Event.{Event}
use Rattle.fr_core.specs.declared.event.Event.TheVariants.{Commit, Withdraw, Read, Pop, Look, Fetch, Put, Take}
use Rattle.fr_core.specs.declared.event.Event.TheVariants.{Observe, Inject, Seal, Advance}
use Rattle.fr_core.specs.declared.event.Reply.{Reply}
use Rattle.fr_core.specs.Runs.{Answer, StepsAll}
use Rattle.fr_core.specs.Steps.{Steps, step_done, looked, fetched, put_on_bus, taken, observed}
use Rattle.fr_core.specs.Worlds.{WorldState, carried_at}
use Rattle.fr_slots.specs.declared.channel.Channel.TheVariants.{A, B}
use Rattle.fr_slots.specs.Windows.{Opportunity}

pub inject_cluster : (b : BusState) (fault : Fault) → (inject_done b fault).cluster ≡ b.cluster
inject_cluster b (Babble node channel bytes) = refl
inject_cluster b (Mute node channel) = refl
inject_cluster b (Corrupt A bit) = refl
inject_cluster b (Corrupt B bit) = refl

pub seal_cluster : (b : BusState) (opened : Option Opportunity) → (sealed_with b opened).cluster ≡ b.cluster
seal_cluster b None = refl
seal_cluster b (Some window) = refl

looked_cluster : (w : WorldState) (n : ℕ) (opened : Option Opportunity)
    → (looked w n opened).bus.cluster ≡ w.bus.cluster
looked_cluster w n None = refl
looked_cluster w n (Some window) = refl

fetched_cluster : (w : WorldState) (n : ℕ) (c : Carried) → (fetched w n c).bus.cluster ≡ w.bus.cluster
fetched_cluster w n Idle = refl
fetched_cluster w n (Knows window) = refl
fetched_cluster w n (Offers window offer) = refl
fetched_cluster w n (Waits window) = refl
fetched_cluster w n (Took window a b) = refl

put_cluster : (w : WorldState) (n : ℕ) (c : Carried) → (put_on_bus w n c).bus.cluster ≡ w.bus.cluster
put_cluster w n Idle = refl
put_cluster w n (Knows window) = refl
put_cluster w n (Offers window offer) = refl
put_cluster w n (Waits window) = refl
put_cluster w n (Took window a b) = refl

taken_cluster : (w : WorldState) (n : ℕ) (c : Carried) → (taken w n c).bus.cluster ≡ w.bus.cluster
taken_cluster w n Idle = refl
taken_cluster w n (Knows window) = refl
taken_cluster w n (Offers window offer) = refl
taken_cluster w n (Waits window) = refl
taken_cluster w n (Took window a b) = refl

observed_cluster : (w : WorldState) (n : ℕ) (c : Carried) → (observed w n c).bus.cluster ≡ w.bus.cluster
observed_cluster w n Idle = refl
observed_cluster w n (Knows window) = refl
observed_cluster w n (Offers window offer) = refl
observed_cluster w n (Waits window) = refl
observed_cluster w n (Took window a b) = refl

done_cluster : (w : WorldState) (event : Event) → (step_done w event).bus.cluster ≡ w.bus.cluster
done_cluster w (Commit n task buffer payload) = refl
done_cluster w (Withdraw n task buffer) = refl
done_cluster w (Read n task buffer) = refl
done_cluster w (Pop n task) = refl
done_cluster w (Look n) = looked_cluster w n (collecting_of w.bus)
done_cluster w (Fetch n) = fetched_cluster w n (carried_at w n)
done_cluster w (Put n) = put_cluster w n (carried_at w n)
done_cluster w (Take n) = taken_cluster w n (carried_at w n)
done_cluster w (Observe n) = observed_cluster w n (carried_at w n)
done_cluster w (Inject fault) = inject_cluster w.bus fault
done_cluster w Seal = seal_cluster w.bus w.bus.opened
done_cluster w Advance = refl

step_cluster : (old : WorldState) (event : Event) (answer : Result Reply StepError) (new : WorldState)
    → Steps old event answer new → new.bus.cluster ≡ old.bus.cluster
step_cluster old event (Ok reply) new step = ap (λ (w : WorldState). w.bus.cluster) step.2 ∙ done_cluster old event
step_cluster old event (Err e) new step = ap (λ (w : WorldState). w.bus.cluster) step.1

pub steps_cluster : (old : WorldState) (events : List Event) (answers : List Answer) (new : WorldState)
    → StepsAll old events answers new → new.bus.cluster ≡ old.bus.cluster
unfolding StepsAll
steps_cluster old [] [] new steps = ap (λ (w : WorldState). w.bus.cluster) steps
steps_cluster old [] (a ∷ answers) new steps = absurd steps
steps_cluster old (e ∷ events) [] new steps = absurd steps
steps_cluster old (e ∷ events) (a ∷ answers) new steps =
    steps_cluster steps.0 events answers new steps.2 ∙ step_cluster old e a steps.0 steps.1
