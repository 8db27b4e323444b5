-- The observations of the nodes in the places of a delivery (project-defined).
use Rattle.std.specs.Prelude.{◌≡◌, ℕ, zero, suc, List, Some, slice_get}
use Rattle.fr_bus.specs.States.{BusState, seen_last}
use Rattle.fr_desks.specs.declared.letter.Observations.{Observations}
use Rattle.fr_slots.specs.declared.channel.Channel.TheVariants.{A, B}

-- the observations of a node in the last window of a bus
abbrev pub sees : BusState → ℕ → Observations
sees b n = record { a = seen_last b A n; b = seen_last b B n }

-- the first places have those of so many nodes, in their order
unfoldable pub AreSeen : BusState → ℕ → List Observations → Type 0
AreSeen b zero places = Unit {0}
AreSeen b (suc n) places = AreSeen b n places × (slice_get places n ≡ Some (sees b n))
