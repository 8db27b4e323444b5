-- The agreement of journals, the record and the data that controllers carry, in every world (project-defined).
use Rattle.std.specs.Prelude.{◌≡◌, ℕ, ◌-◌, ◌<◌, Bool, true, false, List, [], ◌∷◌, ◌++◌, length, map, slice_get}
use Rattle.std.specs.Prelude.{Option, Some, None, if◌then◌else◌}
use Rattle.arrayvec.specs.ArrayVec.{ArrayVec}
use Rattle.fr_bus.specs.declared.error.Phase.{Phase}
use Rattle.fr_bus.specs.declared.error.Phase.TheVariants.{Collect, Sealed as InSealed, Finished}
use Rattle.fr_bus.specs.Stations.{Station}
use Rattle.fr_bus.specs.Record.{Recorded, recordable, seen_by}
use Rattle.fr_bus.specs.States.{BusState, collects, station_at}
use Rattle.fr_core.specs.Agreeing.{Handed, Sight, fetched, sight_of, observed, offers_of, sights_of}
use Rattle.fr_core.specs.Carried.{Carried, Idle, Knows, Offers, Waits, Took}
use Rattle.fr_core.specs.Worlds.{WorldState, interface_at, carried_at, without_entries, new_interface}
use Rattle.fr_interface.specs.State.{State}
use Rattle.fr_journal.specs.OpenWindow.{open_window}
use Rattle.fr_slots.specs.declared.channel.Channel.{Channel}
use Rattle.fr_slots.specs.declared.channel.Channel.TheVariants.{A, B}
use Rattle.fr_slots.specs.Parameters.{Parameters}
use Rattle.fr_slots.specs.Windows.{Opportunity, slot_of}
use Rattle.fr_status.specs.Forms.{Seen}
use Rattle.fr_status.specs.declared.seen.Seen.TheVariants.{Silence}

-- ---- the bus, as one node sees it

pub record BusView : Type 0 where
  pub params : Parameters
  pub sealed : List Recorded
  pub phase : Phase
  pub opened : Option Opportunity
  pub station : Station

abbrev pub view_for : BusState → ℕ → BusView
view_for b n = record {
  params = b.cluster.params;
  sealed = b.sealed;
  phase = b.phase;
  opened = b.opened;
  station = station_at b n;
}

-- ---- the step under way

abbrev pub last_of : List Recorded → Option Recorded
last_of rs = slice_get rs (length rs - 1)

abbrev pub sight_in : Parameters → Channel → ℕ → Option Recorded → Seen
sight_in p channel node None = Silence
sight_in p channel node (Some r) = seen_by p r channel node

-- a node's observation in the last recorded window
abbrev pub last_seen : Parameters → List Recorded → Channel → ℕ → Seen
last_seen p rs channel node = sight_in p channel node (last_of rs)

abbrev pub handed_as : Opportunity → Option (ArrayVec ℕ) → Option (ArrayVec ℕ) → Handed
handed_as w a b = record { window = w; a = a; b = b }

-- the offers that were fetched and aren't recorded yet
abbrev pub ahead : Carried → BusView → List Handed
ahead Idle v = []
ahead (Knows w) v = []
ahead (Offers w offer) v = handed_as w offer.a offer.b ∷ []
ahead (Waits w) v = if collects v.phase then handed_as w v.station.a.offer v.station.b.offer ∷ [] else []
ahead (Took w a b) v = []

-- the observation that is recorded and wasn't observed yet
abbrev pub behind : ℕ → Carried → BusView → List Sight
behind n Idle v = []
behind n (Knows w) v = []
behind n (Offers w offer) v = []
behind n (Waits w) v = if collects v.phase then []
    else sight_of (last_seen v.params v.sealed A n) (last_seen v.params v.sealed B n) w ∷ []
behind n (Took w a b) v = sight_of a b w ∷ []

-- the window that is open at the controller's interface
abbrev pub open_of : Carried → Option Opportunity
open_of Idle = None
open_of (Knows w) = None
open_of (Offers w offer) = Some w
open_of (Waits w) = Some w
open_of (Took w a b) = Some w

-- ---- the steps that may be due in each phase

abbrev pub Turn : Carried → Phase → Option Opportunity → Bool → Bool → Type 0
Turn Idle Collect opened put taken = (put ≡ false) × (taken ≡ false)
Turn Idle InSealed opened put taken = taken ≡ true
Turn Idle Finished opened put taken = Unit {0}
Turn (Knows w) Collect opened put taken = (put ≡ false) × (taken ≡ false) × (opened ≡ Some w)
Turn (Knows w) InSealed opened put taken = ⊥
Turn (Knows w) Finished opened put taken = ⊥
Turn (Offers w offer) Collect opened put taken = (put ≡ false) × (taken ≡ false) × (opened ≡ Some w)
Turn (Offers w offer) InSealed opened put taken = ⊥
Turn (Offers w offer) Finished opened put taken = ⊥
Turn (Waits w) Collect opened put taken = (put ≡ true) × (taken ≡ false) × (opened ≡ Some w)
Turn (Waits w) InSealed opened put taken = (taken ≡ false) × (opened ≡ Some w)
Turn (Waits w) Finished opened put taken = ⊥
Turn (Took w a b) Collect opened put taken = (put ≡ false) × (taken ≡ false)
Turn (Took w a b) InSealed opened put taken = taken ≡ true
Turn (Took w a b) Finished opened put taken = Unit {0}

-- ---- recordable offers

-- an offer exists only if the window has a slot, and it has bytes: the record keeps it unchanged
pub record AreRecordable (w : Opportunity) (a b : Option (ArrayVec ℕ)) : Type 0 where
  pub on_a : recordable (slot_of w A) a ≡ a
  pub on_b : recordable (slot_of w B) b ≡ b

abbrev pub CarriesLawful : Carried → Station → Type 0
CarriesLawful Idle s = Unit {0}
CarriesLawful (Knows w) s = Unit {0}
CarriesLawful (Offers w offer) s = AreRecordable w offer.a offer.b
CarriesLawful (Waits w) s = AreRecordable w s.a.offer s.b.offer
CarriesLawful (Took w a b) s = Unit {0}

-- ---- the agreement

-- One node's journal agrees with the record, except for at most one step that its controller carries. Its fetches are
-- the node's offers in the record, and the offer that may be under way. Its observes, with the observation that may be
-- carried, are the observations that the record gives the node.
pub record NodeAgrees (n : ℕ) (i : State) (c : Carried) (v : BusView) : Type 0 where
  pub fetches : fetched i ≡ map (offers_of n) v.sealed ++ ahead c v
  pub sees : observed i ++ behind n c v ≡ map (sights_of v.params n) v.sealed
  pub opens : open_window i.entries ≡ open_of c
  pub fits : CarriesLawful c v.station
  pub turn : Turn c v.phase v.opened v.station.put v.station.taken

abbrev pub AgreesAt : WorldState → ℕ → Type 0
AgreesAt w n = NodeAgrees n (interface_at w n) (carried_at w n) (view_for w.bus n)

-- All journals agree with the record.
pub record Agreement (w : WorldState) : Type 0 where
  pub a_station_each : length w.interfaces ≡ length w.bus.stations
  pub each : (n : ℕ) → n < length w.bus.stations → AgreesAt w n

-- ---- the properties of every world

-- The interfaces are those of the cluster's nodes, except for their journals. Each node has a controller, and all
-- journals agree with the record.
pub record IsWorld (w : WorldState) : Type 0 where
  pub configured : map without_entries w.interfaces ≡ map (new_interface w.bus.cluster.params) w.bus.cluster.plans
  pub a_controller_each : length w.interfaces ≡ length w.carried
  pub agrees : Agreement w
