-- A whole window: every controller offers, the bus seals, every controller observes, and the bus advances.
use Rattle.std.proofs.Common.{◌≡◌, ℕ, ◌<◌, true, false, not, cond, List, [], ◌∷◌, ◌++◌, length, Option, Some, None}
use Rattle.std.proofs.Common.{refl, sym, ap, subst, ◌∙◌}
use Rattle.std.specs.Prelude.{option_map, slice_index_or}
use Rattle.fr_bus.specs.declared.error.BusError.TheVariants.{NotCollecting, NotAllPut}
use Rattle.fr_bus.specs.declared.error.Phase.TheVariants.{Collect}
use Rattle.fr_bus.specs.Outcome.{sent_from}
use Rattle.fr_bus.specs.Record.{Recorded}
use Rattle.fr_bus.specs.States.{BusState, collects, all_put, is_put, is_taken, station_at, idle_station, offering}
use Rattle.fr_bus.specs.States.{seal_refusal, sealed_with, outcome_of, phase_at}
use Rattle.fr_bus.specs.Stations.{Station}
use Rattle.fr_bus.specs.Windows.{following}
use Rattle.fr_core.specs.Carried.{Idle, Waits}
use Rattle.fr_core.specs.declared.error.StepError.TheVariants.{Bus}
use Rattle.fr_core.specs.declared.event.Event.TheVariants.{Seal}
use Rattle.fr_core.specs.Steps.{with_bus, offer_of}
use Rattle.fr_core.specs.Worlds.{WorldState, interface_at, carried_at}
use Rattle.fr_guarantees.proofs.LeadLemmas.{leads_on, leads_by}
use Rattle.fr_guarantees.proofs.ObservingLemmas.{IsSealed, IsObserved, has_advanced}
use Rattle.fr_guarantees.proofs.OfferingLemmas.{IsFresh, HavePut, fetched_by, all_put_offers}
use Rattle.fr_guarantees.proofs.PointLemmas.{all_by}
use Rattle.fr_guarantees.specs.Leading.{Leads}
use Rattle.fr_interface.specs.State.{State, fetch_entry, fetch_refusal}
use Rattle.fr_journal.proofs.OpenWindowLemmas.{open_window-snoc}
use Rattle.fr_journal.specs.OpenWindow.{open_window}
use Rattle.fr_schedule.specs.Descriptions.{Description}
use Rattle.fr_slots.specs.Windows.{Opportunity}

-- ---- the seal

-- every node has put its offer, and each interface has the window open
pub record IsFull (w : WorldState) (window : Opportunity) : Type 0 where
  pub phase : w.bus.phase ≡ Collect
  pub opened : w.bus.opened ≡ Some window
  pub a_controller_each : length w.carried ≡ length w.interfaces
  pub a_station_each : length w.bus.stations ≡ length w.interfaces
  pub waits : (n : ℕ) → n < length w.interfaces → carried_at w n ≡ Waits window
  pub put : (n : ℕ) → n < length w.interfaces → is_put (station_at w.bus n) ≡ true
  pub untaken : (n : ℕ) → n < length w.interfaces → is_taken (station_at w.bus n) ≡ false
  pub is_open : (n : ℕ) → n < length w.interfaces → open_window (interface_at w n).entries ≡ Some window

module _ (w : WorldState) (window : Opportunity) (full : IsFull w window) where
  abbrev pub sealed_by : WorldState
  sealed_by = with_bus w (sealed_with w.bus (Some window))

  pub leads_seal : Leads w sealed_by
  leads_seal =
      let collecting = ap collects full.phase in
      let put_all : all_put w.bus ≡ true =
      all_by is_put w.bus.stations idle_station (λ n within. full.put n (subst (λ (m : ℕ). n < m) full.a_station_each
      within)) in
      let refusal : seal_refusal w.bus ≡ None =
      λ i. cond (not (collecting i)) (Some NotCollecting) (cond (not (put_all i)) (Some NotAllPut) None) in
      leads_by w Seal sealed_by (ap (option_map Bus) refusal) refl
      (ap (λ (o : Option Opportunity). with_bus w (sealed_with w.bus o)) (sym full.opened))

  pub is_sealed : IsSealed sealed_by window
  is_sealed = record {
    phase = refl;
    opened = full.opened;
    a_controller_each = full.a_controller_each;
    a_station_each = full.a_station_each;
    waits = full.waits;
    untaken = full.untaken;
    is_open = full.is_open;
  }

-- ---- the window

-- the record of a window without faults
abbrev pub recorded_by : Description → Opportunity → List Station → Recorded
recorded_by d window stations = record {
  window = window;
  sent = sent_from d window 0 stations;
  corrupt_a = None;
  corrupt_b = None;
}

-- a world between two windows
pub record IsBetween (w : WorldState) : Type 0 where
  pub a_controller_each : length w.carried ≡ length w.interfaces
  pub a_station_each : length w.bus.stations ≡ length w.interfaces
  pub idle : (n : ℕ) → n < length w.interfaces → carried_at w n ≡ Idle
  pub unput : (n : ℕ) → n < length w.interfaces → station_at w.bus n ≡ idle_station
  pub whole_a : w.bus.corrupt_a ≡ None
  pub whole_b : w.bus.corrupt_b ≡ None
  pub phase : w.bus.phase ≡ phase_at (following w.bus.cluster.params w.bus.cycles w.bus.sealed)
  pub opened : w.bus.opened ≡ following w.bus.cluster.params w.bus.cycles w.bus.sealed

-- the stations have the offers of these interfaces
pub record AreOffers (w : WorldState) (window : Opportunity) (stations : List Station) : Type 0 where
  pub one_each : length stations ≡ length w.interfaces
  pub are : (n : ℕ) → n < length w.interfaces
      → slice_index_or stations n idle_station ≡ offering idle_station (offer_of (interface_at w n) window)

-- one world leads to another, in which the window has passed
pub record HasPassed (w : WorldState) (window : Opportunity) : Type 0 where
  pub world : WorldState
  pub leads : Leads w world
  pub is_between : IsBetween world
  pub interfaces_long : length world.interfaces ≡ length w.interfaces
  pub interfaces : (n : ℕ) → n < length w.interfaces
      → IsObserved (fetched_by (interface_at w n) window) (interface_at world n) window
  pub stations : List Station
  pub offers : AreOffers w window stations
  pub cluster : world.bus.cluster ≡ w.bus.cluster
  pub cycles : world.bus.cycles ≡ w.bus.cycles
  pub sealed : world.bus.sealed ≡ w.bus.sealed ++ recorded_by w.bus.cluster window stations ∷ []

pub fresh_between : (w : WorldState) (window : Opportunity) → IsBetween w
    → following w.bus.cluster.params w.bus.cycles w.bus.sealed ≡ Some window → IsFresh w window
fresh_between w window is next = record {
  phase = is.phase ∙ ap phase_at next;
  opened = is.opened ∙ next;
  a_controller_each = is.a_controller_each;
  a_station_each = is.a_station_each;
  idle = is.idle;
  unput = is.unput;
  whole_a = is.whole_a;
  whole_b = is.whole_b;
}

-- the bus after the window, by the bus before it
outcome_is : (b c : BusState) (window : Opportunity) → c ≡ record b { stations = c.stations } → b.corrupt_a ≡ None
    → b.corrupt_b ≡ None → outcome_of c window ≡ recorded_by b.cluster window c.stations
outcome_is b c window same on_a on_b = λ i. record {
  window = window;
  sent = sent_from ((ap (λ (x : BusState). x.cluster) same) i) window 0 c.stations;
  corrupt_a = (ap (λ (x : BusState). x.corrupt_a) same ∙ on_a) i;
  corrupt_b = (ap (λ (x : BusState). x.corrupt_b) same ∙ on_b) i;
}

-- the window that was full is sealed, taken by every node, and passed
pub record HasEnded (w : WorldState) (window : Opportunity) : Type 0 where
  pub world : WorldState
  pub leads : Leads w world
  pub is_between : IsBetween world
  pub interfaces_long : length world.interfaces ≡ length w.interfaces
  pub interfaces : (n : ℕ) → n < length w.interfaces
      → IsObserved (interface_at w n) (interface_at world n) window
  pub cluster : world.bus.cluster ≡ w.bus.cluster
  pub cycles : world.bus.cycles ≡ w.bus.cycles
  pub sealed : world.bus.sealed ≡ w.bus.sealed ++ outcome_of w.bus window ∷ []

pub has_ended : (w : WorldState) (window : Opportunity) → IsFull w window → HasEnded w window
has_ended w window full =
    let sealed = sealed_by w window full in
    let over = has_advanced sealed window (is_sealed w window full) in
    let end = over.world in
    let follows : following sealed.bus.cluster.params sealed.bus.cycles sealed.bus.sealed
    ≡ following end.bus.cluster.params end.bus.cycles end.bus.sealed =
    λ i. following ((sym over.cluster) i).params ((sym over.cycles) i) ((sym over.record_is) i) in
    record {
      world = end;
      leads = leads_on (leads_seal w window full) over.leads;
      is_between = record {
        a_controller_each = over.a_controller_each;
        a_station_each = over.a_station_each;
        idle = over.idle;
        unput = over.unput;
        whole_a = over.whole_a;
        whole_b = over.whole_b;
        phase = over.phase ∙ ap phase_at follows;
        opened = over.opened ∙ follows;
      };
      interfaces_long = over.interfaces_long;
      interfaces = over.interfaces;
      cluster = over.cluster;
      cycles = over.cycles;
      sealed = over.record_is;
    }

-- after the first half of a window it is full
pub full_is : (w : WorldState) (window : Opportunity) → IsFresh w window
    → (put : HavePut w window (length w.interfaces)) → IsFull put.world window
full_is w window fresh put =
    let v = put.world in
    let shape = put.shape in
    let in_w : (n : ℕ) → n < length v.interfaces → n < length w.interfaces =
    λ n within. subst (λ (m : ℕ). n < m) shape.interfaces within in
    record {
      phase = ap (λ (b : BusState). b.phase) shape.bus ∙ fresh.phase;
      opened = ap (λ (b : BusState). b.opened) shape.bus ∙ fresh.opened;
      a_controller_each = shape.carried ∙ fresh.a_controller_each ∙ sym shape.interfaces;
      a_station_each = shape.stations ∙ fresh.a_station_each ∙ sym shape.interfaces;
      waits = λ n within. (put.done n (in_w n within)).carried;
      put = λ n within. ap is_put (put.done n (in_w n within)).station;
      untaken = λ n within. ap is_taken (put.done n (in_w n within)).station;
      is_open = λ n within. ap (λ (s : State). open_window s.entries) (put.done n (in_w n within)).interface
          ∙ open_window-snoc (interface_at w n).entries (fetch_entry (interface_at w n) window);
    }

pub has_passed : (w : WorldState) (window : Opportunity) → IsBetween w
    → following w.bus.cluster.params w.bus.cycles w.bus.sealed ≡ Some window
    → ((n : ℕ) → n < length w.interfaces → fetch_refusal (interface_at w n) window ≡ None) → HasPassed w window
has_passed w window is next ready =
    let fresh = fresh_between w window is next in
    let put = all_put_offers w window fresh ready in
    let v = put.world in
    let shape = put.shape in
    let over = has_ended v window (full_is w window fresh put) in
    record {
      world = over.world;
      leads = leads_on put.leads over.leads;
      is_between = over.is_between;
      interfaces_long = over.interfaces_long ∙ shape.interfaces;
      interfaces = λ n within. subst (λ (s : State). IsObserved s (interface_at over.world n) window)
          (put.done n within).interface
          (over.interfaces n (subst (λ (m : ℕ). n < m) (sym shape.interfaces) within));
      stations = v.bus.stations;
      offers = record {
        one_each = shape.stations ∙ fresh.a_station_each;
        are = λ n within. (put.done n within).station;
      };
      cluster = over.cluster ∙ ap (λ (b : BusState). b.cluster) shape.bus;
      cycles = over.cycles ∙ ap (λ (b : BusState). b.cycles) shape.bus;
      sealed = over.sealed
          ∙ (λ i. (ap (λ (b : BusState). b.sealed) shape.bus) i
          ++ (outcome_is w.bus v.bus window shape.bus is.whole_a is.whole_b) i ∷ []);
    }
