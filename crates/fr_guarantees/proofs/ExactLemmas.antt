-- Wherever the definition lets a dynamic slot open, a run opens it.
use Rattle.std.proofs.Common.{◌^◌, ◌≡◌, ℕ, ◌+◌, ◌*◌, ◌%◌, ◌<◌, ◌≤◌, ◌==◌, Bool, true, false, cond, ◌&&◌, ◌⊎◌, inl, inr}
use Rattle.std.proofs.Common.{List, [], ◌∷◌, ◌++◌, length, map, Option, Some, None, refl, sym, ap, subst, ◌∙◌, arith}
use Rattle.std.proofs.Common.{slice_get, get_or}
use Rattle.std.proofs.lemmas.Bool.{eqb-true, lt-ltb}
use Rattle.std.proofs.Math.Nat.{mul-le-mul_right}
use Rattle.std.proofs.lemmas.List.{length-map, length-replicate}
use Rattle.std.proofs.lemmas.Nat.{mod-mul-add}
use Rattle.std.proofs.lemmas.Option.{get_or_from_slice_get, slice_get-get_or}
use Rattle.fr_bus.specs.Courses.{opportunities}
use Rattle.fr_bus.specs.declared.error.Phase.{Phase}
use Rattle.fr_bus.specs.States.{collects, collecting_of, idle_station, phase_at}
use Rattle.fr_bus.specs.Windows.{following}
use Rattle.fr_core.specs.Carried.{Idle}
use Rattle.fr_core.specs.Worlds.{WorldState, no_interface, interface_at, new_interface, opening_world}
use Rattle.fr_guarantees.proofs.HoldingLemmas.{nothing_kept}
use Rattle.fr_guarantees.proofs.JournalLemmas.{HasWindows}
use Rattle.fr_guarantees.proofs.PassingLemmas.{IsNodeAt, IsAt, AreMute, next_here}
use Rattle.fr_guarantees.proofs.PointLemmas.{replicate_is}
use Rattle.fr_guarantees.proofs.ProgressLemmas.{course_none}
use Rattle.fr_guarantees.proofs.SilenceLemmas.{Keeps}
use Rattle.fr_guarantees.proofs.WalkLemmas.{IsStart, reaches_cycle, IsCome, comes_in}
use Rattle.fr_guarantees.proofs.WindowLemmas.{IsBetween}
use Rattle.fr_guarantees.specs.Exactness.{HasRoom, AreRealized}
use Rattle.fr_guarantees.specs.Ways.{IsRow, IsWay, CanSend}
use Rattle.fr_interface.specs.State.{State}
use Rattle.fr_journal.specs.Offers.{ready}
use Rattle.fr_latency.proofs.LaneLemmas.{are_lanes}
use Rattle.fr_latency.specs.Lanes.{CanSend as CanSendLane, IsLane, Opens}
use Rattle.fr_latency.specs.Openings.{slots_before}
use Rattle.fr_minislot.specs.DynamicRows.{AreRows, first_minislot, slot_after, has_row_after, opened_after}
use Rattle.fr_schedule.specs.Clusters.{IsCluster}
use Rattle.fr_schedule.specs.Descriptions.{Description}
use Rattle.fr_slots.proofs.PlaceLemmas.{same_some, map-get}
use Rattle.fr_slots.specs.declared.channel.Channel.{Channel}
use Rattle.fr_slots.specs.declared.plan.Mode.{Mode}
use Rattle.fr_slots.specs.declared.plan.Mode.TheVariants as mode
use Rattle.fr_slots.specs.History.{AllAfter, last_after}
use Rattle.fr_slots.specs.Parameters.{Parameters, IsParameters}
use Rattle.fr_slots.specs.Plans.{Plan, empty_plan}
use Rattle.fr_slots.specs.Windows.{Opportunity, static_window}

-- ---- the opening world

nothing_ready : (m : Mode) (number : ℕ) → ready m number [] ≡ None
unfolding last_after
nothing_ready mode.Event number = refl
nothing_ready mode.State number = refl
nothing_ready mode.Receive number = refl

no_windows : (params : Parameters) (plan : Plan) → HasWindows (new_interface params plan) 0
unfolding last_after
no_windows params plan = record { closed = refl; earlier = refl; slots = omega arith }

new_node : (d : Description) (n : ℕ) (plan : Plan) → slice_get d.plans n ≡ Some plan
    → IsNodeAt d (nothing_kept n) n (new_interface d.params plan) 0 0
new_node d n plan at = record {
  params_are = refl;
  plan_at = at;
  has = no_windows d.params plan;
  hosts = omega arith;
  ready = λ m number sending. nothing_ready m number;
}

opening_node : (d : Description) (cycles n : ℕ) → n < length d.plans
    → IsNodeAt d (nothing_kept n) n (interface_at (opening_world d cycles) n) 0 0
opening_node d cycles n within =
    let no_plan = empty_plan 0 0 0 0 0 in
    let plan = get_or d.plans n no_plan in
    let at : slice_get d.plans n ≡ Some plan = slice_get-get_or d.plans n no_plan within in
    let is : interface_at (opening_world d cycles) n ≡ new_interface d.params plan =
    get_or_from_slice_get (map (new_interface d.params) d.plans) n (new_interface d.params plan) no_interface
    (map-get (new_interface d.params) d.plans n plan at) in
    subst (λ (s : State). IsNodeAt d (nothing_kept n) n s 0 0) (sym is) (new_node d n plan at)

opening_between : (d : Description) (cycles : ℕ) → 0 < cycles → IsBetween (opening_world d cycles)
opening_between d cycles some =
    let many = length-map d.plans (new_interface d.params) in
    let next : following d.params cycles [] ≡ Some (static_window 0 0 1) =
    ap (λ (b : Bool). cond b (Some (static_window 0 0 1)) None) (lt-ltb 0 cycles some) in
    record {
      a_controller_each = length-replicate (length d.plans) Idle ∙ sym many;
      a_station_each = length-replicate (length d.plans) idle_station ∙ sym many;
      idle = λ n within. replicate_is (length d.plans) Idle n;
      unput = λ n within. replicate_is (length d.plans) idle_station n;
      whole_a = refl;
      whole_b = refl;
      phase = sym (ap phase_at next);
      opened = refl;
    }

-- the number of every window of so many cycles fits
few_windows : (p : Parameters) → IsParameters p → (cycles : ℕ) → cycles ≤ 1024 → cycles * opportunities p < 2 ^ 32
few_windows p lawful cycles few =
    let most : cycles * opportunities p ≤ 1024 * opportunities p = mul-le-mul_right (opportunities p) few in
    omega (arith, most, lawful.static_slots_fit.at_most, lawful.minislots_fit.at_most)

pub opening_at : (d : Description) → IsCluster d → (cycles : ℕ) → 0 < cycles → cycles ≤ 1024
    → IsAt d cycles nothing_kept 0 (opening_world d cycles)
opening_at d lawful cycles some few = record {
  cluster = refl;
  cycles_are = refl;
  one_each = length-map d.plans (new_interface d.params);
  course = course_none d.params cycles lawful.params_are
      (few_windows d.params lawful.params_are cycles few);
  between = opening_between d cycles some;
  nodes = λ n within. opening_node d cycles n (subst (λ (m : ℕ). n < m) (length-map d.plans (new_interface d.params))
      within);
}

-- ---- the way of a lane

both_after : {X : Type 0} (P Q R : List X → X → Type 0)
    → ((before : List X) (x : X) → P before x → Q before x → R before x) → (before xs : List X)
    → AllAfter P before xs → AllAfter Q before xs → AllAfter R before xs
unfolding AllAfter
both_after P Q R join before [] p q = tt
both_after P Q R join before (x ∷ xs) p q =
    (join before x p.0 q.0, both_after P Q R join (before ++ x ∷ []) xs p.1 q.1)

pub can_send : (d : Description) (channel : Channel) (cycle slot minislot bytes : ℕ)
    → CanSendLane d channel cycle slot minislot bytes → CanSend d cycle slot channel minislot bytes
can_send d channel cycle slot minislot bytes can = record {
  node = can.node;
  plan = can.plan;
  plan_at = can.of_node;
  some_task = can.has_tasks;
  number = can.number;
  buffer = can.buffer;
  at = can.of_plan;
  sends = can.sends;
  in_time = can.in_time;
  bytes_are = omega (arith, can.bytes_are);
}

pub is_way : (d : Description) (channel : Channel) (cycle : ℕ) (counts : List ℕ) → IsLane d channel cycle counts
    → AreRows d.params counts → IsWay d cycle channel counts
is_way d channel cycle counts lane rows =
    both_after
    (λ before bytes. (bytes ≡ 0)
    ⊎ CanSendLane d channel cycle (slot_after d.params before) (first_minislot d.params before) bytes)
    (λ before bytes. has_row_after d.params before ≡ true) (IsRow d cycle channel)
    (λ before bytes choice row. (
      row,
      elim choice [
        | inl none ↦ inl none
        | inr can ↦ inr (can_send d channel cycle (slot_after d.params before)
            (first_minislot d.params before) bytes can)
      ],
    )) [] counts lane rows

-- ---- the row that opens the slot

pub record IsRowOf (p : Parameters) (counts : List ℕ) (minislot slot : ℕ) : Type 0 where
  pub exists : has_row_after p counts ≡ true
  pub begins : first_minislot p counts ≡ minislot
  pub slot_is : slot_after p counts ≡ slot

pub row_of : (p : Parameters) (counts : List ℕ) (minislot slot : ℕ) → opened_after p counts minislot ≡ Some slot
    → IsRowOf p counts minislot slot
row_of p counts minislot slot e =
    by (has_row_after p counts) (first_minislot p counts == minislot) refl refl e
  where
    by : (row at : Bool) → has_row_after p counts ≡ row → (first_minislot p counts == minislot) ≡ at
        → cond (row && at) (Some (slot_after p counts)) None ≡ Some slot → IsRowOf p counts minislot slot
    by true true is here f = record {
      exists = is;
      begins = eqb-true (first_minislot p counts) minislot here;
      slot_is = same_some (slot_after p counts) slot f;
    }
    by true false is here f = absurd (let none : ⊥ = cc in none)
    by false at is here f = absurd (let none : ⊥ = cc in none)

-- ---- the run

pub small_mod : (n : ℕ) → n < 64 → n % 64 ≡ n
small_mod n few =
    let same : n ≡ 0 * 64 + n = omega arith in
    ap (λ (m : ℕ). m % 64) same ∙ mod-mul-add 0 64 n few

is_collecting : (phase : Phase) (opened : Option Opportunity) (window : Opportunity)
    → phase ≡ phase_at (Some window) → opened ≡ Some window → cond (collects phase) opened None ≡ Some window
is_collecting phase opened window is at = λ i. cond (collects (is i)) (at i) None

pub open_at : (d : Description) (cycles : ℕ) (kept : ℕ → Keeps) (calls : ℕ) (w : WorldState) (window : Opportunity)
    → IsAt d cycles kept calls w
    → following d.params cycles w.bus.sealed ≡ Some window → collecting_of w.bus ≡ Some window
open_at d cycles kept calls w window here next =
    let follows = next_here d cycles kept calls w here ∙ next in
    is_collecting w.bus.phase w.bus.opened window (here.between.phase ∙ ap phase_at follows)
    (here.between.opened ∙ follows)

module _ (d : Description) (lawful : IsCluster d) (cycles cycle most : ℕ) (few : cycle < 64) (more : cycle < cycles)
    (few_cycles : cycles ≤ 1024) (room : HasRoom d cycles most) (channel : Channel) where
  all_mute : (window : Opportunity) → AreMute d nothing_kept window
  all_mute window n plan at on number is begins = refl

  begins : IsStart d lawful cycles most room nothing_kept 0 cycle (opening_world d cycles)
  begins = reaches_cycle d lawful cycles most room nothing_kept (λ rs. Unit {0})
      (cycle * opportunities d.params + 1) 0 cycle
      (λ rs window good next course before opens. (all_mute window, λ r is. tt)) more channel (opening_world d cycles)
      (opening_at d lawful cycles (omega (arith, more)) few_cycles) tt (omega arith) (omega arith)

  -- a run that follows the way in the cycle
  pub comes : (counts : List ℕ) → IsWay d cycle channel counts → has_row_after d.params counts ≡ true
      → 3 * length counts ≤ most
      → IsCome d lawful cycles most room nothing_kept (3 * length counts) (cycle + 1) cycle channel counts
      (opening_world d cycles)
  comes counts way final enough =
      comes_in d lawful cycles most room nothing_kept 0 cycle cycle (small_mod cycle few) few channel counts
      (3 * length counts) enough final (λ rs window next course lower. all_mute window) way (omega arith)
      (opening_world d cycles) begins (all_mute begins.window)

-- each opening of the definition is one of a run
pub all_realized : (d : Description) → IsCluster d → AreRealized d
all_realized d lawful channel cycle slot minislot few dynamic room opens =
    let lane : Opens d channel cycle slot minislot =
    ((are_lanes d lawful).opens channel cycle slot minislot dynamic).0 opens in
    let row = row_of d.params lane.counts minislot slot lane.opened in
    let way = is_way d channel cycle lane.counts lane.is_lane lane.are_rows in
    let come = comes d lawful (cycle + 1) cycle (3 * slots_before d.params slot) few (omega arith) (omega
    (arith, few)) room
    channel lane.counts way row.exists (omega (arith, row.slot_is)) in
    record {
      world = come.world;
      leads = come.leads;
      window = come.window;
      is_open = open_at d (cycle + 1) nothing_kept (3 * length lane.counts) come.world come.window come.is_at come.next;
      cycle_is = come.cycle_is;
      minislot_is = come.minislot_is ∙ row.begins;
      slot_is = come.slot_is ∙ ap Some row.slot_is;
    }
