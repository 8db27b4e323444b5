-- One step of a world that keeps no history (project-defined): when it is refused, by the kept data, and the world with
-- its history after it.
use Rattle.std.specs.Prelude.{◌≡◌, ℕ, true, List, Option, Some, None, option_map, Result, Ok, Err}
use Rattle.std.specs.Prelude.{if◌then◌else◌}
use Rattle.std.specs.Option.{is_some}
use Rattle.fr_bus.specs.declared.error.BusError.TheVariants.{Memory}
use Rattle.fr_bus.specs.Standing.{bare}
use Rattle.fr_bus.specs.States.{collecting_of, put_refusal, take_refusal, seal_refusal}
use Rattle.fr_core.specs.Carried.{Carried, Idle, Knows, Offers, Waits, Took}
use Rattle.fr_core.specs.declared.error.StepError.{StepError}
use Rattle.fr_core.specs.declared.error.StepError.TheVariants.{UnknownNode, WrongTurn, Slot, Bus}
use Rattle.fr_core.specs.declared.event.Event.{Event}
use Rattle.fr_core.specs.declared.event.Reply.{Reply}
use Rattle.fr_core.specs.declared.event.Reply.TheVariants.{Committed}
use Rattle.fr_interface.specs.declared.call.Answer.{Answer}
use Rattle.fr_interface.specs.declared.interface.Receipt.{Receipt}
use Rattle.fr_core.specs.declared.event.Event.TheVariants.{Seal}
unfoldable pub use Rattle.fr_core.specs.Fronts.{Accepts}
pub use Rattle.fr_core.specs.Fronts.{offer_events, see_events}
use Rattle.fr_core.specs.Steps.{Steps, Applies, reply_of, step_done, step_refusal, unless_collecting}
use Rattle.fr_core.specs.Worlds.{WorldState}
use Rattle.fr_interface.specs.Standing.{fetch_refused, observe_refused}
use Rattle.fr_live.specs.LiveWorlds.{LiveState, Leads, IsWorldHistory, has_node, standing_at}

-- ---- the refusals by the kept data

abbrev pub look_in_turn : LiveState → Carried → Option StepError
look_in_turn l Idle = unless_collecting (collecting_of (bare l.bus.bus))
look_in_turn l (Knows window) = Some WrongTurn
look_in_turn l (Offers window offer) = Some WrongTurn
look_in_turn l (Waits window) = Some WrongTurn
look_in_turn l (Took window a b) = Some WrongTurn

abbrev pub fetch_in_turn : LiveState → ℕ → Carried → Option StepError
fetch_in_turn l n Idle = Some WrongTurn
fetch_in_turn l n (Knows window) = option_map Slot (fetch_refused (standing_at l n) window)
fetch_in_turn l n (Offers window offer) = Some WrongTurn
fetch_in_turn l n (Waits window) = Some WrongTurn
fetch_in_turn l n (Took window a b) = Some WrongTurn

abbrev pub put_in_turn : LiveState → ℕ → Carried → Option StepError
put_in_turn l n Idle = Some WrongTurn
put_in_turn l n (Knows window) = Some WrongTurn
put_in_turn l n (Offers window offer) = option_map Bus (put_refusal (bare l.bus.bus) n window.number)
put_in_turn l n (Waits window) = Some WrongTurn
put_in_turn l n (Took window a b) = Some WrongTurn

abbrev pub take_in_turn : LiveState → ℕ → Carried → Option StepError
take_in_turn l n Idle = Some WrongTurn
take_in_turn l n (Knows window) = Some WrongTurn
take_in_turn l n (Offers window offer) = Some WrongTurn
take_in_turn l n (Waits window) = option_map Bus (take_refusal (bare l.bus.bus) n window.number)
take_in_turn l n (Took window a b) = Some WrongTurn

abbrev pub observe_in_turn : LiveState → ℕ → Carried → Option StepError
observe_in_turn l n Idle = Some WrongTurn
observe_in_turn l n (Knows window) = Some WrongTurn
observe_in_turn l n (Offers window offer) = Some WrongTurn
observe_in_turn l n (Waits window) = Some WrongTurn
observe_in_turn l n (Took window a b) = option_map Slot (observe_refused (standing_at l n) window.number)

abbrev pub if_node : LiveState → ℕ → Option StepError → Option StepError
if_node l n refusal = if has_node l n then refusal else Some UnknownNode

-- ---- a step

-- the reply that has the receipt of an accepted commit
abbrev pub with_receipt : Result Receipt StepError → Result Reply StepError
with_receipt (Ok receipt) = Ok (Committed receipt)
with_receipt (Err e) = Err e

-- the reply that has the answer of an accepted call
abbrev pub with_answer : Result Answer StepError → Result Reply StepError
with_answer (Ok answer) = Ok (reply_of answer)
with_answer (Err e) = Err e

-- whether it was accepted, and nothing more
abbrev pub without_value : {X : Type 0} → Result X StepError → Result (Unit {0}) StepError
without_value (Ok x) = Ok tt
without_value (Err e) = Err e

-- Each world that leads to the data before the step takes this step, with this answer, and then leads to the data after
-- it.
abbrev pub LiveSteps : LiveState → Event → Result Reply StepError → LiveState → Type 0
LiveSteps old event answer new =
    (w : WorldState) → Leads w old → (v : WorldState) × Steps w event answer v × Leads v new

-- the same without the reply
abbrev pub LiveApplies : LiveState → Event → Result (Unit {0}) StepError → LiveState → Type 0
LiveApplies old event outcome new =
    (w : WorldState) → Leads w old → (v : WorldState) × Applies w event outcome v × Leads v new

-- the same for worlds
abbrev pub StepsAlike : LiveState → Event → Result Reply StepError → LiveState → Type 0
StepsAlike old event answer new =
    (w : WorldState) → IsWorldHistory old w → (v : WorldState) × Steps w event answer v × IsWorldHistory new v

abbrev pub AppliesAlike : LiveState → Event → Result (Unit {0}) StepError → LiveState → Type 0
AppliesAlike old event outcome new =
    (w : WorldState) → IsWorldHistory old w → (v : WorldState) × Applies w event outcome v × IsWorldHistory new v

-- the answer of a seal; the allocation of one that is otherwise lawful may fail
abbrev pub SealsMachine : LiveState → Result (Unit {0}) StepError → LiveState → Type 0
SealsMachine old (Ok x) new = (seal_refusal (bare old.bus.bus) ≡ None)
    × ((w : WorldState) → Leads w old → Leads (step_done w Seal) new)
SealsMachine old (Err (Bus Memory)) new = (seal_refusal (bare old.bus.bus) ≡ None) × (new ≡ old)
SealsMachine old (Err e) new = (option_map Bus (seal_refusal (bare old.bus.bus)) ≡ Some e) × (new ≡ old)

-- ---- accepted events

-- each world that leads to the data accepts the events, and then leads to the data after them
abbrev pub LiveAccepts : LiveState → List Event → LiveState → Type 0
LiveAccepts old events new = (w : WorldState) → Leads w old → (v : WorldState) × Accepts w events v × Leads v new

abbrev pub AcceptsAlike : LiveState → List Event → LiveState → Type 0
AcceptsAlike old events new =
    (w : WorldState) → IsWorldHistory old w → (v : WorldState) × Accepts w events v × IsWorldHistory new v

-- each world that leads to the data refuses this event, if there is one
abbrev pub LiveRefuses : LiveState → Option Event → Type 0
LiveRefuses l None = Unit {0}
LiveRefuses l (Some event) = (w : WorldState) → Leads w l → is_some (step_refusal w event) ≡ true

abbrev pub RefusesAlike : LiveState → Option Event → Type 0
RefusesAlike l None = Unit {0}
RefusesAlike l (Some event) = (w : WorldState) → IsWorldHistory l w → is_some (step_refusal w event) ≡ true
