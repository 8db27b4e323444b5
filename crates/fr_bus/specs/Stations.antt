-- The nodes' calls in the open window.
use Rattle.std.specs.Prelude.{◌≡◌, Bool, true, false, List, [], ◌∷◌, ℕ, None, Some}
use Rattle.arrayvec.specs.ArrayVec.{ArrayVec}
use Rattle.fr_bus.specs.declared.station.Side.{Side}
use Rattle.fr_bus.specs.declared.station.Sides.{Sides}
use Rattle.fr_interface.specs.declared.interface.Offer.{Offer}
use Rattle.fr_slots.specs.declared.channel.Channel.{Channel}
use Rattle.fr_slots.specs.declared.channel.Channel.TheVariants.{A, B}

pub record Station : Type 0 where
  pub put : Bool
  pub taken : Bool
  pub a : Side
  pub b : Side

abbrev pub station_of : Bool → Bool → Sides → Station
station_of put taken s = record { put = put; taken = taken; a = s.a; b = s.b }

-- the stations with these flags for put and for taken, and these sides
abbrev pub stations_of : List Bool → List Bool → List Sides → List Station
stations_of (p ∷ ps) (t ∷ ts) (s ∷ ss) = station_of p t s ∷ stations_of ps ts ss
stations_of (p ∷ ps) (t ∷ ts) [] = []
stations_of (p ∷ ps) [] ss = []
stations_of [] ts ss = []

-- ---- the sides of one node

abbrev pub silent_side : Side
silent_side = record { offer = None; babble = None; mute = false }

abbrev pub silent_sides : Sides
silent_sides = record { a = silent_side; b = silent_side }

-- there is neither an offer nor a babble
abbrev pub SendsNothing : Side → Type 0
SendsNothing side = (side.offer ≡ None) × (side.babble ≡ None)

abbrev pub SendNothing : Sides → Type 0
SendNothing s = SendsNothing s.a × SendsNothing s.b

abbrev pub AllSendNothing : List Sides → Type 0
AllSendNothing [] = Unit {0}
AllSendNothing (s ∷ ss) = SendNothing s × AllSendNothing ss

abbrev pub side_in : Channel → Sides → Side
side_in A s = s.a
side_in B s = s.b

abbrev pub with_offers : Sides → Offer → Sides
with_offers s offer = record { a = record s.a { offer = offer.a }; b = record s.b { offer = offer.b } }

abbrev pub with_babble : Channel → ArrayVec ℕ → Sides → Sides
with_babble A bytes s = record s { a = record s.a { babble = Some bytes } }
with_babble B bytes s = record s { b = record s.b { babble = Some bytes } }

abbrev pub with_mute : Channel → Sides → Sides
with_mute A s = record s { a = record s.a { mute = true } }
with_mute B s = record s { b = record s.b { mute = true } }
