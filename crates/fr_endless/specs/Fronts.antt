-- The events of a node that one call of a world executes (project-defined).
use Rattle.std.specs.Prelude.{◌≡◌, ℕ, List, [], ◌∷◌, Option, None, Err}
use Rattle.fr_core.specs.Carried.{Carried, Idle, Knows, Offers, Waits, Took}
use Rattle.fr_core.specs.declared.error.StepError.TheVariants.{WrongTurn}
use Rattle.fr_core.specs.Steps.{Steps}
use Rattle.fr_core.specs.Worlds.{WorldState}
use Rattle.fr_core.specs.declared.event.Event.{Event}
use Rattle.fr_core.specs.declared.front.Front.{Front}
use Rattle.fr_core.specs.declared.front.Front.TheVariants as front
pub use Rattle.fr_core.specs.Fronts.{events_of}
use Rattle.fr_endless.specs.Taps.{traced_in}

-- the bytes of the trace of their node aren't known: there is no such trace
abbrev pub IsUntraced : List (Option (List ℕ)) → Front → Type 0
IsUntraced traced (front.Offer n) = traced_in traced n ≡ None
IsUntraced traced (front.See n) = traced_in traced n ≡ None
IsUntraced traced front.Other = Unit {0}

-- ---- events that aren't due

-- the controller has nothing to observe
abbrev pub HasNothing : Carried → Type 0
HasNothing Idle = Unit {0}
HasNothing (Knows window) = Unit {0}
HasNothing (Offers window offer) = Unit {0}
HasNothing (Waits window) = Unit {0}
HasNothing (Took window a b) = ⊥

-- the event isn't due
abbrev pub IsLate : WorldState → Event → Type 0
IsLate w event = Steps w event (Err WrongTurn) w

abbrev pub AreLate : WorldState → List Event → Type 0
AreLate w [] = Unit {0}
AreLate w (event ∷ events) = IsLate w event × AreLate w events
