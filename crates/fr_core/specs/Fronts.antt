-- Events that are accepted one after another, and those of a node that one call of a world executes (project-defined).
use Rattle.std.specs.Prelude.{◌≡◌, ℕ, ◌==◌, ◌&&◌, true, List, [], ◌∷◌, Option, Some, None, if◌then◌else◌}
use Rattle.std.specs.Option.{is_some}
use Rattle.fr_core.specs.declared.event.Event.{Event}
use Rattle.fr_core.specs.declared.event.Event.TheVariants.{Look, Fetch, Put, Take, Observe}
use Rattle.fr_core.specs.declared.front.Front.{Front}
use Rattle.fr_core.specs.declared.front.Front.TheVariants as front
use Rattle.fr_core.specs.Steps.{step_done, step_refusal}
use Rattle.fr_core.specs.Worlds.{WorldState}

-- each event is accepted in its turn, and they lead from `old` to `new`
unfoldable pub Accepts : WorldState → List Event → WorldState → Type 0
Accepts old [] new = new ≡ old
Accepts old (event ∷ events) new = (step_refusal old event ≡ None) × Accepts (step_done old event) events new

-- the world refuses this event, if there is one
abbrev pub IsRefused : WorldState → Option Event → Type 0
IsRefused w None = Unit {0}
IsRefused w (Some event) = is_some (step_refusal w event) ≡ true

-- the events of a node before the seal of a window, and those after it
abbrev pub offer_events : ℕ → List Event
offer_events n = Look n ∷ Fetch n ∷ Put n ∷ []

abbrev pub see_events : ℕ → List Event
see_events n = Take n ∷ Observe n ∷ []

abbrev pub events_of : Front → List Event
events_of (front.Offer n) = offer_events n
events_of (front.See n) = see_events n
events_of front.Other = []

-- the events of a node that stand first in a list, if one call executes them
abbrev pub front_in : List Event → Front
front_in (Look a ∷ Fetch b ∷ Put c ∷ events) = if a == b && a == c then front.Offer a else front.Other
front_in (Take a ∷ Observe b ∷ events) = if a == b then front.See a else front.Other
front_in events = front.Other
