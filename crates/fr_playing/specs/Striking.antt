-- The faults of a window, as events (project-defined).
use Rattle.std.specs.Prelude.{◌≡◌, ℕ, List, [], ◌∷◌, Result, Ok, Err, if◌then◌else◌}
use Rattle.fr_core.specs.declared.error.StepError.{StepError}
use Rattle.fr_core.specs.declared.event.Event.{Event}
use Rattle.fr_core.specs.declared.event.Event.TheVariants.{Inject}
use Rattle.fr_core.specs.declared.event.Reply.{Reply}
use Rattle.fr_core.specs.Runs.{Answer, StepsAll}
use Rattle.fr_core.specs.Steps.{Steps}
use Rattle.fr_core.specs.Worlds.{WorldState}
use Rattle.fr_runs.specs.declared.fault_line.FaultLine.{FaultLine}
use Rattle.fr_runs.specs.Striking.{strikes}
use Rattle.fr_slots.specs.Windows.{Opportunity}

-- the events, all of which are accepted, lead from `old` to `new`
unfoldable pub Passes : WorldState → List Event → WorldState → Type 0
Passes old [] new = new ≡ old
Passes old (event ∷ events) new =
    (between : WorldState) × (reply : Reply) × Steps old event (Ok reply) between × Passes between events new

-- the events, whether they are accepted or refused, lead from `old` to `new`
abbrev pub Tries : WorldState → List Event → WorldState → Type 0
Tries old events new = (answers : List Answer) × StepsAll old events answers new

-- the first refusal among the answers, or none
unfoldable pub refusal_among : List Answer → Result (Unit {0}) StepError
refusal_among [] = Ok tt
refusal_among (Ok reply ∷ answers) = refusal_among answers
refusal_among (Err error ∷ answers) = Err error

-- the events, whether they are accepted or refused, lead from `old` to `new`, and this is the first refusal
abbrev pub Tells : WorldState → List Event → Result (Unit {0}) StepError → WorldState → Type 0
Tells old events told new = (answers : List Answer) × StepsAll old events answers new × told ≡ refusal_among answers

-- the fault of the line, if it takes effect in this window of the cycle of this number of the run
abbrev pub strike_events : ℕ → Opportunity → FaultLine → List Event
strike_events cycle window line = if strikes line cycle window then Inject line.fault ∷ [] else []

-- the first refusal, if there is one
abbrev pub first_of : Result (Unit {0}) StepError → Result (Unit {0}) StepError → Result (Unit {0}) StepError
first_of (Ok done) next = next
first_of (Err e) next = Err e
