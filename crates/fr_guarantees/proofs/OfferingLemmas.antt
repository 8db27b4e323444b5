-- The first half of a window: each controller looks, fetches and puts.
use Rattle.std.proofs.Common.{◌≡◌, ◌≢◌, ℕ, zero, suc, ◌+◌, ◌<◌, ◌≤◌, not, cond, length, Some, None, refl, sym, ap}
use Rattle.std.proofs.Common.{subst, ◌∙◌, arith, inl, inr}
use Rattle.std.proofs.lemmas.Bool.{eq-eqb, lt-ltb}
use Rattle.std.proofs.lemmas.Bool.Decides.{eqb_tells}
use Rattle.std.proofs.lemmas.List.{length-set, get_or-set_same, get_or-set_other}
use Rattle.fr_bus.specs.declared.error.BusError.TheVariants.{UnknownNode, NotCollecting, WrongWindow, AlreadyPut}
use Rattle.fr_bus.specs.declared.error.Phase.{Phase}
use Rattle.fr_bus.specs.declared.error.Phase.TheVariants.{Collect}
use Rattle.fr_bus.specs.States.{BusState, collects, collecting_of, has_number, is_put, station_at, idle_station}
use Rattle.fr_bus.specs.States.{offering, put_refusal}
use Rattle.fr_bus.specs.Stations.{Station}
use Rattle.fr_core.specs.Carried.{Idle, Knows, Offers, Waits}
use Rattle.fr_core.specs.Steps.{offer_of, with_carried, fetched, put_on_bus}
use Rattle.fr_core.specs.Worlds.{WorldState, no_interface, interface_at, carried_at}
use Rattle.fr_guarantees.proofs.LeadLemmas.{leads_not, leads_on}
use Rattle.fr_guarantees.proofs.TurnLemmas.{leads_look, leads_fetch, leads_put}
use Rattle.fr_guarantees.specs.Leading.{Leads}
use Rattle.fr_interface.specs.State.{State, with_entry, fetch_entry, fetch_refusal}
use Rattle.fr_slots.specs.Windows.{Opportunity}

-- ---- worlds at the start of a window

-- the window is open, nothing was offered, no bit is to be flipped, and every controller is idle
pub record IsFresh (w : WorldState) (window : Opportunity) : Type 0 where
  pub phase : w.bus.phase ≡ Collect
  pub opened : w.bus.opened ≡ Some window
  pub a_controller_each : length w.carried ≡ length w.interfaces
  pub a_station_each : length w.bus.stations ≡ length w.interfaces
  pub idle : (n : ℕ) → n < length w.interfaces → carried_at w n ≡ Idle
  pub unput : (n : ℕ) → n < length w.interfaces → station_at w.bus n ≡ idle_station
  pub whole_a : w.bus.corrupt_a ≡ None
  pub whole_b : w.bus.corrupt_b ≡ None

-- ---- one node

abbrev pub fetched_by : State → Opportunity → State
fetched_by s window = with_entry s (fetch_entry s window)

-- only stations changed on the bus
pub record HasShape (w v : WorldState) : Type 0 where
  pub interfaces : length v.interfaces ≡ length w.interfaces
  pub carried : length v.carried ≡ length w.carried
  pub stations : length v.bus.stations ≡ length w.bus.stations
  pub bus : v.bus ≡ record w.bus { stations = v.bus.stations }

pub record IsUnmoved (w v : WorldState) (n : ℕ) : Type 0 where
  pub interface : interface_at v n ≡ interface_at w n
  pub carried : carried_at v n ≡ carried_at w n
  pub station : station_at v.bus n ≡ station_at w.bus n

pub record HasPut (w v : WorldState) (window : Opportunity) (n : ℕ) : Type 0 where
  pub interface : interface_at v n ≡ fetched_by (interface_at w n) window
  pub carried : carried_at v n ≡ Waits window
  pub station : station_at v.bus n ≡ offering idle_station (offer_of (interface_at w n) window)

-- so many nodes have put their offers
pub record HavePut (w : WorldState) (window : Opportunity) (many : ℕ) : Type 0 where
  pub world : WorldState
  pub leads : Leads w world
  pub shape : HasShape w world
  pub done : (n : ℕ) → n < many → HasPut w world window n
  pub rest : (n : ℕ) → many ≤ n → IsUnmoved w world n

put_ready : (b : BusState) (n : ℕ) (window : Opportunity) → n < length b.stations → b.phase ≡ Collect
    → b.opened ≡ Some window → station_at b n ≡ idle_station → put_refusal b n window.number ≡ None
put_ready b n window within phase opened idle =
    let known = lt-ltb n (length b.stations) within in
    let collecting = ap collects phase in
    let right = ap (has_number window.number) opened ∙ eq-eqb window.number window.number refl in
    let unput = ap is_put idle in
    λ i. cond (not (known i)) (Some UnknownNode) (cond (not (collecting i)) (Some NotCollecting)
    (cond (not (right i)) (Some WrongWindow) (cond (unput i) (Some AlreadyPut) None)))

module _ (v : WorldState) (n : ℕ) (window : Opportunity) (within : n < length v.interfaces)
    (a_controller : n < length v.carried) (a_station : n < length v.bus.stations) where
  abbrev knowing : WorldState
  knowing = with_carried v n (Knows window)

  abbrev offered : WorldState
  offered = fetched knowing n (Knows window)

  abbrev pub put_by : WorldState
  put_by = put_on_bus offered n (Offers window (offer_of (interface_at v n) window))

  pub leads_put_by : v.bus.phase ≡ Collect → v.bus.opened ≡ Some window → carried_at v n ≡ Idle
      → station_at v.bus n ≡ idle_station → fetch_refusal (interface_at v n) window ≡ None → Leads v put_by
  leads_put_by phase opened idle unput ready =
      let collecting : collecting_of v.bus ≡ Some window =
      ap (λ (p : Phase). cond (collects p) v.bus.opened None) phase ∙ opened in
      let look = leads_look v n within window idle collecting in
      let fetch = leads_fetch knowing n within window (get_or-set_same v.carried n (Knows window) Idle a_controller)
      ready in
      let long = length-set v.carried n (Knows window) in
      let put = leads_put offered n (subst (λ (m : ℕ). n < m) (sym (length-set v.interfaces n
      (fetched_by (interface_at v n) window))) within) window (offer_of (interface_at v n) window)
      (get_or-set_same knowing.carried n (Offers window (offer_of (interface_at v n) window)) Idle
      (subst (λ (m : ℕ). n < m) (sym long) a_controller))
      (put_ready v.bus n window a_station phase opened unput) in
      leads_on look (leads_on fetch put)

  pub put_interface : interface_at put_by n ≡ fetched_by (interface_at v n) window
  put_interface = get_or-set_same v.interfaces n (fetched_by (interface_at v n) window) no_interface within

  pub put_long : length put_by.carried ≡ length v.carried
  put_long = length-set offered.carried n (Waits window)
      ∙ length-set knowing.carried n (Offers window (offer_of (interface_at v n) window))
      ∙ length-set v.carried n (Knows window)

  pub put_carried : carried_at put_by n ≡ Waits window
  put_carried = get_or-set_same offered.carried n (Waits window) Idle (subst (λ (m : ℕ). n < m)
      (sym (length-set knowing.carried n (Offers window (offer_of (interface_at v n) window))
      ∙ length-set v.carried n (Knows window))) a_controller)

  pub put_station : station_at put_by.bus n ≡ offering (station_at v.bus n) (offer_of (interface_at v n) window)
  put_station = get_or-set_same v.bus.stations n
      (offering (station_at v.bus n) (offer_of (interface_at v n) window)) idle_station a_station

  pub put_other : (k : ℕ) → k ≢ n → IsUnmoved v put_by k
  put_other k other = record {
    interface = get_or-set_other v.interfaces n k (fetched_by (interface_at v n) window) no_interface other;
    carried = get_or-set_other offered.carried n k (Waits window) Idle other
        ∙ get_or-set_other knowing.carried n k (Offers window (offer_of (interface_at v n) window)) Idle other
        ∙ get_or-set_other v.carried n k (Knows window) Idle other;
    station = get_or-set_other v.bus.stations n k
        (offering (station_at v.bus n) (offer_of (interface_at v n) window)) idle_station other;
  }

-- ---- all nodes

module _ (w : WorldState) (window : Opportunity) (fresh : IsFresh w window)
    (ready : (n : ℕ) → n < length w.interfaces → fetch_refusal (interface_at w n) window ≡ None) where
  put_next : (many : ℕ) → many < length w.interfaces → HavePut w window many → HavePut w window (many + 1)
  put_next many few so_far =
      let v = so_far.world in
      let shape = so_far.shape in
      let here = so_far.rest many (omega arith) in
      let within : many < length v.interfaces = omega (arith, few, shape.interfaces) in
      let a_controller : many < length v.carried = omega (arith, few, shape.carried, fresh.a_controller_each) in
      let a_station : many < length v.bus.stations = omega (arith, few, shape.stations, fresh.a_station_each) in
      let next = put_by v many window within a_controller a_station in
      let offer = offer_of (interface_at v many) window in
      let stations = next.bus.stations in
      let leads = leads_put_by v many window within a_controller a_station
      (ap (λ (b : BusState). b.phase) shape.bus ∙ fresh.phase)
      (ap (λ (b : BusState). b.opened) shape.bus ∙ fresh.opened) (here.carried ∙ fresh.idle many few)
      (here.station ∙ fresh.unput many few)
      (ap (λ (s : State). fetch_refusal s window) here.interface ∙ ready many few) in
      let station : station_at next.bus many ≡ offering idle_station (offer_of (interface_at w many) window) =
      put_station v many window within a_controller a_station
      ∙ ap (λ (s : Station). offering s offer) (here.station ∙ fresh.unput many few)
      ∙ ap (λ (s : State). offering idle_station (offer_of s window)) here.interface in
      record {
        world = next;
        leads = leads_on so_far.leads leads;
        shape = record {
          interfaces = length-set v.interfaces many (fetched_by (interface_at v many) window) ∙ shape.interfaces;
          carried = put_long v many window within a_controller a_station ∙ shape.carried;
          stations = length-set v.bus.stations many (offering (station_at v.bus many) offer) ∙ shape.stations;
          bus = ap (λ (b : BusState). record b { stations = stations }) shape.bus;
        };
        done = λ n below. elim (eqb_tells n many) [
          | inl same ↦ subst (λ (m : ℕ). HasPut w next window m) (sym same.1) (record {
            interface = put_interface v many window within a_controller a_station
                ∙ ap (λ (s : State). fetched_by s window) here.interface;
            carried = put_carried v many window within a_controller a_station;
            station = station;
          })
          | inr other ↦ (
              let was = so_far.done n (omega (arith, below, other.1)) in
              let still = put_other v many window within a_controller a_station n other.1 in
              record {
                interface = still.interface ∙ was.interface;
                carried = still.carried ∙ was.carried;
                station = still.station ∙ was.station;
              })
        ];
        rest = λ n above. (
            let was = so_far.rest n (omega (arith, above)) in
            let still = put_other v many window within a_controller a_station n
            (λ same. let none : ⊥ = omega (arith, above, same) in none) in
            record {
              interface = still.interface ∙ was.interface;
              carried = still.carried ∙ was.carried;
              station = still.station ∙ was.station;
            });
      }

  put_some : (many : ℕ) → many ≤ length w.interfaces → HavePut w window many
  put_some zero few = record {
    world = w;
    leads = leads_not w;
    shape = record { interfaces = refl; carried = refl; stations = refl; bus = refl };
    done = λ n below. absurd (let none : ⊥ = omega (arith, below) in none);
    rest = λ n above. record { interface = refl; carried = refl; station = refl };
  }
  put_some (suc many) few =
      let more : many + 1 ≡ suc many = omega arith in
      subst (HavePut w window) more (put_next many (omega (arith, few)) (put_some many (omega (arith, few))))

  pub all_put_offers : HavePut w window (length w.interfaces)
  all_put_offers = put_some (length w.interfaces) (omega arith)
