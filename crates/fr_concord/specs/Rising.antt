-- The times of a capture rise (project-defined).
use Rattle.std.specs.Prelude.{ℕ, ◌≤◌, List, [], ◌∷◌}
use Rattle.fr_capture.specs.Sightings.{Sighting, sightings}
use Rattle.fr_interface.specs.State.{State, IsLegalInterface}

-- the first time is at least `least`, and each other time at least the one before it
abbrev pub AreRisingFrom : ℕ → List Sighting → Type 0
AreRisingFrom least [] = Unit {0}
AreRisingFrom least (x ∷ xs) = (least ≤ x.time) × AreRisingFrom x.time xs

-- The observations of a legal interface have rising times. A capture has a packet for some of them, in their order and
-- with their times.
abbrev pub AreCapturesRising : Type 0
AreCapturesRising = (s : State) → IsLegalInterface s → AreRisingFrom 0 (sightings s)
