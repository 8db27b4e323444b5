-- The second half of a window: each controller takes and observes, and the bus advances.
use Rattle.std.proofs.Common.{◌≡◌, ◌≢◌, ℕ, zero, suc, ◌+◌, ◌<◌, ◌≤◌, Bool, true, false, not, cond, length, Some, None}
use Rattle.std.proofs.Common.{refl, sym, ap, subst, ◌∙◌, arith, inl, inr}
use Rattle.std.specs.Prelude.{option_map}
use Rattle.std.proofs.lemmas.Bool.{eq-eqb, lt-ltb}
use Rattle.std.proofs.lemmas.Bool.Decides.{eqb_tells}
use Rattle.std.proofs.lemmas.List.{length-set, get_or-set_same, get_or-set_other, length-replicate}
use Rattle.fr_bus.specs.declared.error.BusError.TheVariants.{UnknownNode, NotSealed, WrongWindow, AlreadyTaken}
use Rattle.fr_bus.specs.declared.error.BusError.TheVariants.{NotAllTaken}
use Rattle.fr_bus.specs.declared.error.Phase.TheVariants.{Sealed as InSealed}
use Rattle.fr_bus.specs.States.{BusState, seals, has_number, is_taken, station_at, idle_station, taking, take_refusal}
use Rattle.fr_bus.specs.States.{seen_last, all_taken, advance_refusal, advanced, phase_at, next_of_bus}
use Rattle.fr_core.specs.Carried.{Idle, Waits, Took}
use Rattle.fr_core.specs.declared.error.StepError.TheVariants.{Bus}
use Rattle.fr_core.specs.declared.event.Event.TheVariants.{Advance}
use Rattle.fr_core.specs.Steps.{with_bus, taken, observed}
use Rattle.fr_core.specs.Worlds.{WorldState, no_interface, interface_at, carried_at}
use Rattle.fr_guarantees.proofs.LeadLemmas.{leads_not, leads_on, leads_by}
use Rattle.fr_guarantees.proofs.OfferingLemmas.{HasShape, IsUnmoved}
use Rattle.fr_guarantees.proofs.PointLemmas.{all_by, replicate_is}
use Rattle.fr_guarantees.proofs.TurnLemmas.{leads_take, leads_observe}
use Rattle.fr_guarantees.specs.Leading.{Leads}
use Rattle.fr_interface.specs.declared.errors.SlotError.TheVariants as slot_error
use Rattle.fr_interface.specs.State.{State, with_entry, unless_open, observe_refusal}
use Rattle.fr_journal.specs.declared.entry.Entry.TheVariants.{Observe}
use Rattle.fr_journal.specs.OpenWindow.{open_window}
use Rattle.fr_slots.specs.declared.channel.Channel.TheVariants.{A, B}
use Rattle.fr_slots.specs.Windows.{Opportunity}
use Rattle.fr_status.specs.Forms.{Seen}

-- ---- worlds after a seal

-- the window is sealed, nobody took it, and each interface has it open
pub record IsSealed (w : WorldState) (window : Opportunity) : Type 0 where
  pub phase : w.bus.phase ≡ InSealed
  pub opened : w.bus.opened ≡ Some window
  pub a_controller_each : length w.carried ≡ length w.interfaces
  pub a_station_each : length w.bus.stations ≡ length w.interfaces
  pub waits : (n : ℕ) → n < length w.interfaces → carried_at w n ≡ Waits window
  pub untaken : (n : ℕ) → n < length w.interfaces → is_taken (station_at w.bus n) ≡ false
  pub is_open : (n : ℕ) → n < length w.interfaces → open_window (interface_at w n).entries ≡ Some window

-- ---- one node

pub record IsObserved (s t : State) (window : Opportunity) : Type 0 where
  pub a : Seen
  pub b : Seen
  pub is : t ≡ with_entry s (Observe window.number a b)

pub record HasTaken (w v : WorldState) (window : Opportunity) (n : ℕ) : Type 0 where
  pub interface : IsObserved (interface_at w n) (interface_at v n) window
  pub carried : carried_at v n ≡ Idle
  pub station : is_taken (station_at v.bus n) ≡ true

pub record HaveTaken (w : WorldState) (window : Opportunity) (many : ℕ) : Type 0 where
  pub world : WorldState
  pub leads : Leads w world
  pub shape : HasShape w world
  pub done : (n : ℕ) → n < many → HasTaken w world window n
  pub rest : (n : ℕ) → many ≤ n → IsUnmoved w world n

take_ready : (b : BusState) (n : ℕ) (window : Opportunity) → n < length b.stations → b.phase ≡ InSealed
    → b.opened ≡ Some window → is_taken (station_at b n) ≡ false → take_refusal b n window.number ≡ None
take_ready b n window within phase opened untaken =
    let known = lt-ltb n (length b.stations) within in
    let sealed = ap seals phase in
    let right = ap (has_number window.number) opened ∙ eq-eqb window.number window.number refl in
    λ i. cond (not (known i)) (Some UnknownNode) (cond (not (sealed i)) (Some NotSealed)
    (cond (not (right i)) (Some WrongWindow) (cond (untaken i) (Some AlreadyTaken) None)))

observe_ready : (s : State) (window : Opportunity) → open_window s.entries ≡ Some window
    → observe_refusal s window.number ≡ None
observe_ready s window opened =
    ap (unless_open window.number) opened
    ∙ ap (λ (t : Bool). cond t None (Some slot_error.WrongWindow)) (eq-eqb window.number window.number refl)

module _ (v : WorldState) (n : ℕ) (window : Opportunity) (within : n < length v.interfaces)
    (a_controller : n < length v.carried) (a_station : n < length v.bus.stations) where
  abbrev on_a : Seen
  on_a = seen_last v.bus A n

  abbrev on_b : Seen
  on_b = seen_last v.bus B n

  abbrev took : WorldState
  took = taken v n (Waits window)

  abbrev pub taken_by : WorldState
  taken_by = observed took n (Took window on_a on_b)

  pub leads_taken_by : v.bus.phase ≡ InSealed → v.bus.opened ≡ Some window → carried_at v n ≡ Waits window
      → is_taken (station_at v.bus n) ≡ false → open_window (interface_at v n).entries ≡ Some window → Leads v taken_by
  leads_taken_by phase opened waits untaken is_open =
      leads_on (leads_take v n within window waits (take_ready v.bus n window a_station phase opened untaken))
      (leads_observe took n within window on_a on_b
      (get_or-set_same v.carried n (Took window on_a on_b) Idle a_controller)
      (observe_ready (interface_at v n) window is_open))

  pub taken_interface : interface_at taken_by n ≡ with_entry (interface_at v n) (Observe window.number on_a on_b)
  taken_interface = get_or-set_same v.interfaces n (with_entry (interface_at v n) (Observe window.number on_a on_b))
      no_interface within

  pub taken_long : length taken_by.carried ≡ length v.carried
  taken_long = length-set took.carried n Idle ∙ length-set v.carried n (Took window on_a on_b)

  pub taken_carried : carried_at taken_by n ≡ Idle
  taken_carried = get_or-set_same took.carried n Idle Idle (subst (λ (m : ℕ). n < m)
      (sym (length-set v.carried n (Took window on_a on_b))) a_controller)

  pub taken_station : station_at taken_by.bus n ≡ taking (station_at v.bus n)
  taken_station = get_or-set_same v.bus.stations n (taking (station_at v.bus n)) idle_station a_station

  pub taken_other : (k : ℕ) → k ≢ n → IsUnmoved v taken_by k
  taken_other k other = record {
    interface = get_or-set_other v.interfaces n k
        (with_entry (interface_at v n) (Observe window.number on_a on_b)) no_interface other;
    carried = get_or-set_other took.carried n k Idle Idle other
        ∙ get_or-set_other v.carried n k (Took window on_a on_b) Idle other;
    station = get_or-set_other v.bus.stations n k (taking (station_at v.bus n)) idle_station other;
  }

-- ---- all nodes

module _ (w : WorldState) (window : Opportunity) (sealed : IsSealed w window) where
  take_next : (many : ℕ) → many < length w.interfaces → HaveTaken w window many → HaveTaken w window (many + 1)
  take_next many few so_far =
      let v = so_far.world in
      let shape = so_far.shape in
      let here = so_far.rest many (omega arith) in
      let within : many < length v.interfaces = omega (arith, few, shape.interfaces) in
      let a_controller : many < length v.carried = omega (arith, few, shape.carried, sealed.a_controller_each) in
      let a_station : many < length v.bus.stations = omega (arith, few, shape.stations, sealed.a_station_each) in
      let next = taken_by v many window within a_controller a_station in
      let stations = next.bus.stations in
      let leads = leads_taken_by v many window within a_controller a_station
      (ap (λ (b : BusState). b.phase) shape.bus ∙ sealed.phase)
      (ap (λ (b : BusState). b.opened) shape.bus ∙ sealed.opened) (here.carried ∙ sealed.waits many few)
      (ap is_taken here.station ∙ sealed.untaken many few)
      (ap (λ (s : State). open_window s.entries) here.interface ∙ sealed.is_open many few) in
      record {
        world = next;
        leads = leads_on so_far.leads leads;
        shape = record {
          interfaces = length-set v.interfaces many (with_entry (interface_at v many)
              (Observe window.number (seen_last v.bus A many) (seen_last v.bus B many))) ∙ shape.interfaces;
          carried = taken_long v many window within a_controller a_station ∙ shape.carried;
          stations = length-set v.bus.stations many (taking (station_at v.bus many)) ∙ shape.stations;
          bus = ap (λ (b : BusState). record b { stations = stations }) shape.bus;
        };
        done = λ n below. elim (eqb_tells n many) [
          | inl same ↦ subst (λ (m : ℕ). HasTaken w next window m) (sym same.1) (record {
            interface = record {
              a = seen_last v.bus A many;
              b = seen_last v.bus B many;
              is = taken_interface v many window within a_controller a_station
                  ∙ ap (λ (s : State). with_entry s (Observe window.number (seen_last v.bus A many)
                  (seen_last v.bus B many))) here.interface;
            };
            carried = taken_carried v many window within a_controller a_station;
            station = ap is_taken (taken_station v many window within a_controller a_station);
          })
          | inr other ↦ (
              let was = so_far.done n (omega (arith, below, other.1)) in
              let still = taken_other v many window within a_controller a_station n other.1 in
              record {
                interface = subst (λ (s : State). IsObserved (interface_at w n) s window) (sym still.interface)
                    was.interface;
                carried = still.carried ∙ was.carried;
                station = ap is_taken still.station ∙ was.station;
              })
        ];
        rest = λ n above. (
            let was = so_far.rest n (omega (arith, above)) in
            let still = taken_other v many window within a_controller a_station n
            (λ same. let none : ⊥ = omega (arith, above, same) in none) in
            record {
              interface = still.interface ∙ was.interface;
              carried = still.carried ∙ was.carried;
              station = still.station ∙ was.station;
            });
      }

  take_some : (many : ℕ) → many ≤ length w.interfaces → HaveTaken w window many
  take_some zero few = record {
    world = w;
    leads = leads_not w;
    shape = record { interfaces = refl; carried = refl; stations = refl; bus = refl };
    done = λ n below. absurd (let none : ⊥ = omega (arith, below) in none);
    rest = λ n above. record { interface = refl; carried = refl; station = refl };
  }
  take_some (suc many) few =
      let more : many + 1 ≡ suc many = omega arith in
      subst (HaveTaken w window) more (take_next many (omega (arith, few)) (take_some many (omega (arith, few))))

  -- the bus after the window: the next one is open, and everything else is as at the start of a window
  pub record HasAdvanced : Type 0 where
    pub world : WorldState
    pub leads : Leads w world
    pub interfaces_long : length world.interfaces ≡ length w.interfaces
    pub interfaces : (n : ℕ) → n < length w.interfaces
        → IsObserved (interface_at w n) (interface_at world n) window
    pub a_controller_each : length world.carried ≡ length world.interfaces
    pub a_station_each : length world.bus.stations ≡ length world.interfaces
    pub idle : (n : ℕ) → n < length world.interfaces → carried_at world n ≡ Idle
    pub unput : (n : ℕ) → n < length world.interfaces → station_at world.bus n ≡ idle_station
    pub whole_a : world.bus.corrupt_a ≡ None
    pub whole_b : world.bus.corrupt_b ≡ None
    pub cluster : world.bus.cluster ≡ w.bus.cluster
    pub cycles : world.bus.cycles ≡ w.bus.cycles
    pub record_is : world.bus.sealed ≡ w.bus.sealed
    pub phase : world.bus.phase ≡ phase_at (next_of_bus w.bus)
    pub opened : world.bus.opened ≡ next_of_bus w.bus

  pub has_advanced : HasAdvanced
  has_advanced =
      let all = take_some (length w.interfaces) (omega arith) in
      let v = all.world in
      let shape = all.shape in
      let over = ap seals (ap (λ (b : BusState). b.phase) shape.bus ∙ sealed.phase) in
      let taken_all : all_taken v.bus ≡ true = all_by is_taken v.bus.stations idle_station
      (λ n within. (all.done n (omega (arith, within, shape.stations, sealed.a_station_each))).station) in
      let refusal : advance_refusal v.bus ≡ None =
      λ i. cond (not (over i)) (Some NotSealed) (cond (not (taken_all i)) (Some NotAllTaken) None) in
      let next : WorldState = with_bus v (advanced v.bus) in
      let follows : next_of_bus v.bus ≡ next_of_bus w.bus = ap next_of_bus shape.bus in
      record {
        world = next;
        leads = leads_on all.leads (leads_by v Advance next (ap (option_map Bus) refusal) refl refl);
        interfaces_long = shape.interfaces;
        interfaces = λ n within. (all.done n within).interface;
        a_controller_each = shape.carried ∙ sealed.a_controller_each ∙ sym shape.interfaces;
        a_station_each = length-replicate (length v.bus.stations) idle_station ∙ shape.stations
            ∙ sealed.a_station_each ∙ sym shape.interfaces;
        idle = λ n within. (all.done n (subst (λ (m : ℕ). n < m) shape.interfaces within)).carried;
        unput = λ n within. replicate_is (length v.bus.stations) idle_station n;
        whole_a = refl;
        whole_b = refl;
        cluster = ap (λ (b : BusState). b.cluster) shape.bus;
        cycles = ap (λ (b : BusState). b.cycles) shape.bus;
        record_is = ap (λ (b : BusState). b.sealed) shape.bus;
        phase = ap phase_at follows;
        opened = follows;
      }
