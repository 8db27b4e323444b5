-- Each window leads from one place of a channel's cycle to the next, with or without a frame.
use Rattle.std.proofs.Common.{◌≡◌, ℕ, ◌+◌, ◌-◌, ◌/◌, ◌%◌, ◌<◌, ◌≤◌, Bool, true, false, cond, List, ◌∷◌, length, Some}
use Rattle.std.proofs.Common.{None, refl, sym, ap, subst, ◌∙◌, arith, ◌⊎◌, inl, inr}
use Rattle.std.specs.Prelude.{nat_le, ◌&&◌, is_some}
use Rattle.std.proofs.lemmas.Bool.{cond-true, cond-false, le-leb, lt-leb, leb-true, leb-false, ne_eqb}
use Rattle.std.proofs.lemmas.Nat.{mod_below}
use Rattle.arrayvec.specs.ArrayVec.{ArrayVec}
use Rattle.fr_bus.specs.Courses.{Standpoint, first_passed, opening, cycle_of}
use Rattle.fr_bus.specs.Outcome.{longest}
use Rattle.fr_bus.specs.Record.{Recorded, heard}
use Rattle.fr_core.proofs.CaseLemmas.{both}
use Rattle.fr_frame.specs.Encoding.{encoded}
use Rattle.fr_frame.specs.Fields.{Fields}
use Rattle.fr_hearing.proofs.NextLemmas.{static_passed, lane_passed, dynamic_passed, lane_of, slot_opened, IsOpened}
use Rattle.fr_hearing.proofs.NextLemmas.{opened_is}
use Rattle.fr_hearing.proofs.SizeLemmas.{row_same}
use Rattle.fr_hearing.specs.Heard.{Spot, cycle_start, begins_at, after_frame, after_dynamic, IsOwners, IsAllowedAs}
use Rattle.fr_hearing.specs.Heard.{IsDynamic, AreFree, IsFurther, FollowOn}
use Rattle.fr_hearing.specs.Listening.{IsThere, IsOwnersThere}
use Rattle.fr_hearing.specs.Offering.{IsDueThere}
use Rattle.fr_judging.specs.Rules.{due_at, due_or}
use Rattle.fr_logged.specs.declared.due.Due.{Due}
use Rattle.fr_logged.specs.Dues.{due_of}
use Rattle.fr_minislot.specs.DynamicRows.{row_length}
use Rattle.fr_minislot.specs.Lanes.{Standing, closed, opened_in}
use Rattle.fr_schedule.specs.Clusters.{IsCluster}
use Rattle.fr_schedule.specs.Descriptions.{Description}
use Rattle.fr_slots.proofs.PlaceLemmas.{same_some}
use Rattle.fr_slots.specs.declared.channel.Channel.{Channel}
use Rattle.fr_slots.specs.declared.channel.Channel.TheVariants.{A, B}
use Rattle.fr_slots.specs.Faults.{minislots_filled}
use Rattle.fr_slots.specs.Numbers.{last_slot}
use Rattle.fr_slots.specs.Parameters.{Parameters}
use Rattle.fr_slots.specs.Windows.{Opportunity, slot_of, is_static, static_window}
use Rattle.fr_status.specs.declared.seen.Seen.TheVariants.{Silence, Bytes}

-- ---- what a listener receives in a window

-- nothing, and a static slot has no owner
pub record IsQuiet (d : Description) (channel : Channel) (r : Recorded) : Type 0 where
  pub hears : heard d.params r channel ≡ Silence
  pub none : longest channel r.sent ≡ 0
  pub free : (slot : ℕ) → slot_of r.window channel ≡ Some slot → is_static r.window ≡ true
      → due_of d slot channel r.window.cycle ≡ None

-- the spelling of a frame that is due
pub record IsLoud (d : Description) (channel : Channel) (r : Recorded) : Type 0 where
  pub slot : ℕ
  pub slot_is : slot_of r.window channel ≡ Some slot
  pub bytes : ArrayVec ℕ
  pub frame : Fields
  pub hears : heard d.params r channel ≡ Bytes bytes
  pub spelled : bytes.items ≡ encoded frame channel
  pub is_there : IsThere d r.window channel slot frame (is_static r.window)
  pub size : longest channel r.sent ≡ 8 + length frame.payload
  pub few : length frame.payload ≤ 254

abbrev pub IsHeardAt : Description → Channel → Recorded → Type 0
IsHeardAt d channel r = IsQuiet d channel r ⊎ IsLoud d channel r

-- with the frame of this window, if there is one
abbrev pub with_frame : (d : Description) (channel : Channel) (r : Recorded) → IsHeardAt d channel r → List Fields
    → List Fields
with_frame d channel r (inl quiet) fs = fs
with_frame d channel r (inr loud) fs = loud.frame ∷ fs

-- ---- what is due in a slot of this number

pub due_at_some : (d : Description) (slot : ℕ) (channel : Channel) (cycle : ℕ) (x : Due) → 1 ≤ slot → slot ≤ 2047
    → due_of d slot channel cycle ≡ Some x → due_at d slot channel cycle ≡ Some x
due_at_some d slot channel cycle x from most e =
    ap (due_or d channel cycle) (cond-true (nat_le 1 slot && nat_le slot last_slot) (Some slot) None
    (both (nat_le 1 slot) (nat_le slot last_slot) (le-leb 1 slot from) (le-leb slot last_slot most))) ∙ e

due_at_none : (d : Description) (slot : ℕ) (channel : Channel) (cycle : ℕ) → due_of d slot channel cycle ≡ None
    → due_at d slot channel cycle ≡ None
due_at_none d slot channel cycle e = by (nat_le 1 slot && nat_le slot last_slot)
  where
    by : (b : Bool) → due_or d channel cycle (cond b (Some slot) None) ≡ None
    by true = e
    by false = refl

-- ---- places

-- the lane of the channel, after the place
pub record IsLaneAt (d : Description) (s : Spot) (lane : Standing) : Type 0 where
  pub params_are : lane.params ≡ d.params
  pub dynamic_slot : d.params.static_slots + 1 ≤ lane.slot
  pub below : s.last < lane.slot
  pub slots : s.slot ≤ lane.slot
  pub begins : lane.begins + s.slot ≡ s.minislot + lane.slot

-- the progress of the run, after the place
pub record IsAt (d : Description) (channel : Channel) (c : Standpoint) (s : Spot) : Type 0 where
  pub cycle_is : s.cycle ≡ cycle_of c
  pub params_are : c.params ≡ d.params
  pub some_window : 1 ≤ c.windows
  pub some_cycle : 1 ≤ c.begun
  pub some_static : 1 ≤ c.statics
  pub static_fits : c.statics ≤ d.params.static_slots
  pub behind : c.statics < d.params.static_slots → s.last ≤ c.statics
  pub free : AreFree d channel s.cycle (s.last + 1) (c.statics + 1)
  pub begins_a : 1 ≤ c.a.begins
  pub begins_b : 1 ≤ c.b.begins
  pub lane : IsLaneAt d s (lane_of channel c)

pub cycle_below : (c : Standpoint) → cycle_of c < 64
cycle_below c = mod_below (c.begun - 1) 64 (omega arith)

-- ---- a static window

pub slot_static : (channel : Channel) (number cycle slot : ℕ) → slot_of (static_window number cycle slot) channel
    ≡ Some slot
slot_static A number cycle slot = refl
slot_static B number cycle slot = refl

-- the frame of the owner of a static slot
pub record IsStaticFrame (d : Description) (channel : Channel) (cycle slot : ℕ) (f : Fields) : Type 0 where
  pub id_is : f.id ≡ slot
  pub cycle_is : f.cycle ≡ cycle
  pub due : Due
  pub due_is : due_of d slot channel cycle ≡ Some due
  pub owners : IsOwners due f

module _ (d : Description) (channel : Channel) (r : Recorded) (number cycle slot : ℕ)
    (is : r.window ≡ static_window number cycle slot) where
  pub static_frame : (l : IsLoud d channel r) → IsStaticFrame d channel cycle slot l.frame
  static_frame l =
      let o : IsOwnersThere d r.window channel l.slot l.frame =
      subst (λ (b : Bool). IsThere d r.window channel l.slot l.frame b) (ap is_static is) l.is_there in
      let same : l.slot ≡ slot = same_some l.slot slot (sym l.slot_is
      ∙ ap (λ (w : Opportunity). slot_of w channel) is ∙ slot_static channel number cycle slot) in
      let at : r.window.cycle ≡ cycle = ap (λ (w : Opportunity). w.cycle) is in
      record {
        id_is = o.id_is ∙ same;
        cycle_is = o.cycle_is ∙ at;
        due = o.due;
        due_is = ap (λ (k : ℕ). due_of d k channel cycle) (sym same)
            ∙ ap (λ (k : ℕ). due_of d l.slot channel k) (sym at) ∙ o.due_is;
        owners = o.owners;
      }

  pub static_none : IsQuiet d channel r → due_at d slot channel cycle ≡ None
  static_none q =
      let at : r.window.cycle ≡ cycle = ap (λ (w : Opportunity). w.cycle) is in
      due_at_none d slot channel cycle (ap (λ (k : ℕ). due_of d slot channel k) (sym at)
      ∙ q.free slot (ap (λ (w : Opportunity). slot_of w channel) is ∙ slot_static channel number cycle slot)
      (ap is_static is))

module _ (d : Description) (channel : Channel) (cluster : IsCluster d) where
  few_statics : d.params.static_slots ≤ 1023
  few_statics = cluster.params_are.static_slots_fit.at_most

  pub further_static : (s : Spot) (f : Fields) (slot : ℕ) → IsStaticFrame d channel s.cycle slot f → s.cycle < 64
      → s.last < slot → slot ≤ d.params.static_slots → AreFree d channel s.cycle (s.last + 1) slot
      → IsFurther d channel s f
  further_static s f slot is fits below few free =
      let id = is.id_is in
      let most = few_statics in
      let static : nat_le f.id d.params.static_slots ≡ true = le-leb f.id d.params.static_slots
      (omega (arith, id, few)) in
      record {
        same_cycle = is.cycle_is;
        later = omega (arith, id, below);
        free = λ k low high. ap (λ (n : ℕ). due_at d k channel n) is.cycle_is ∙ free k low (omega (arith, high, id));
        allowed = record {
          slot_is = omega (arith, id, below);
          count_fits = (let same = is.cycle_is in omega (arith, same, fits));
          due = is.due;
          due_is = ap (λ (n : ℕ). due_at d n channel f.cycle) id
              ∙ ap (λ (n : ℕ). due_at d slot channel n) is.cycle_is
              ∙ due_at_some d slot channel s.cycle is.due (omega (arith, below)) (omega (arith, few, most)) is.due_is;
          allowed = subst (λ (b : Bool). IsAllowedAs d.params is.due s f b) (sym static) is.owners;
        };
      }

  pub after_static : (s : Spot) (f : Fields) (slot : ℕ) → f.id ≡ slot → slot ≤ d.params.static_slots
      → after_frame d.params s f ≡ record s { last = slot }
  after_static s f slot id few =
      cond-true (nat_le f.id d.params.static_slots) (let t : Spot = record s { last = f.id } in t)
      (after_dynamic d.params s f)
      (le-leb f.id d.params.static_slots (omega (arith, id, few)))
      ∙ ap (λ (n : ℕ). let t : Spot = record s { last = n } in t) id

  -- ---- a further static window

  pub static_loud : (c : Standpoint) (s : Spot) → IsAt d channel c s → c.statics < d.params.static_slots
      → IsAt d channel (static_passed c) (record s { last = c.statics + 1 })
  static_loud c s at further = record {
    cycle_is = at.cycle_is;
    params_are = at.params_are;
    some_window = omega arith;
    some_cycle = at.some_cycle;
    some_static = omega arith;
    static_fits = omega (arith, further);
    behind = λ more. omega arith;
    free = λ k low high. absurd (let none : ⊥ = omega (arith, low, high) in none);
    begins_a = at.begins_a;
    begins_b = at.begins_b;
    lane = lane_same channel at.lane;
  }
    where
      lane_same : (on : Channel) → IsLaneAt d s (lane_of on c)
          → IsLaneAt d (record s { last = c.statics + 1 }) (lane_of on (static_passed c))
      lane_same A l = record {
        params_are = l.params_are;
        dynamic_slot = l.dynamic_slot;
        below = (let most = l.dynamic_slot in omega (arith, most, further));
        slots = l.slots;
        begins = l.begins;
      }
      lane_same B l = record {
        params_are = l.params_are;
        dynamic_slot = l.dynamic_slot;
        below = (let most = l.dynamic_slot in omega (arith, most, further));
        slots = l.slots;
        begins = l.begins;
      }

  pub static_quiet : (c : Standpoint) (s : Spot) → IsAt d channel c s → c.statics < d.params.static_slots
      → due_at d (c.statics + 1) channel s.cycle ≡ None → IsAt d channel (static_passed c) s
  static_quiet c s at further none = record {
    cycle_is = at.cycle_is;
    params_are = at.params_are;
    some_window = omega arith;
    some_cycle = at.some_cycle;
    some_static = omega arith;
    static_fits = omega (arith, further);
    behind = λ more. (let before = at.behind further in omega (arith, before));
    free = one_more d channel s.cycle (s.last + 1) (c.statics + 1) at.free none;
    begins_a = at.begins_a;
    begins_b = at.begins_b;
    lane = lane_same channel at.lane;
  }
    where
      lane_same : (on : Channel) → IsLaneAt d s (lane_of on c) → IsLaneAt d s (lane_of on (static_passed c))
      lane_same A l = l
      lane_same B l = l

      one_more : (d : Description) (channel : Channel) (cycle from end : ℕ) → AreFree d channel cycle from end
          → due_at d end channel cycle ≡ None → AreFree d channel cycle from (end + 1)
      one_more d channel cycle from end free here k low high = by (nat_le end k) refl
        where
          by : (b : Bool) → nat_le end k ≡ b → due_at d k channel cycle ≡ None
          by true e =
              let same : k ≡ end = (let above = leb-true end k e in
              omega (arith, above, high)) in
              ap (λ (n : ℕ). due_at d n channel cycle) same ∙ here
          by false e = free k low (leb-false end k e)

  -- the frames after the window follow on, if they follow on after its frame or its silence
  pub static_step : (c : Standpoint) (s : Spot) (r : Recorded) (heard_is : IsHeardAt d channel r) (fs : List Fields)
      → IsAt d channel c s → c.statics < d.params.static_slots
      → r.window ≡ static_window c.windows (cycle_of c) (c.statics + 1)
      → ((t : Spot) → IsAt d channel (static_passed c) t → FollowOn d channel t fs)
      → FollowOn d channel s (with_frame d channel r heard_is fs)
  static_step c s r (inl quiet) fs at further is rest =
      rest s (static_quiet c s at further
      (ap (λ (n : ℕ). due_at d (c.statics + 1) channel n) at.cycle_is
      ∙ static_none d channel r c.windows (cycle_of c) (c.statics + 1) is quiet))
  static_step c s r (inr loud) fs at further is rest =
      let frame : IsStaticFrame d channel s.cycle (c.statics + 1) loud.frame =
      subst (λ (n : ℕ). IsStaticFrame d channel n (c.statics + 1) loud.frame) (sym at.cycle_is)
      (static_frame d channel r c.windows (cycle_of c) (c.statics + 1) is loud) in
      let before : s.last ≤ c.statics = at.behind further in
      let below : cycle_of c < 64 = cycle_below c in
      let cycle = at.cycle_is in
      inl (
        further_static s loud.frame (c.statics + 1) frame (omega (arith, below, cycle)) (omega (arith, before))
            (omega (arith, further)) at.free,
        subst (λ (t : Spot). FollowOn d channel t fs)
            (sym (after_static s loud.frame (c.statics + 1) frame.id_is (omega (arith, further))))
            (rest (record s { last = c.statics + 1 }) (static_loud c s at further)),
      )

  -- ---- the first window of a cycle

  fresh_lane : (s : Spot) (c : Standpoint) → c.params ≡ d.params → s.last < d.params.static_slots + 1
      → s.slot ≡ d.params.static_slots + 1 → s.minislot ≡ 1 → IsLaneAt d s (lane_of channel (first_passed c))
  fresh_lane s c params_are below slot minislot = by channel
    where
      static_same : c.params.static_slots ≡ d.params.static_slots
      static_same = ap (λ (p : Parameters). p.static_slots) params_are

      by : (on : Channel) → IsLaneAt d s (lane_of on (first_passed c))
      by A = record {
        params_are = params_are;
        dynamic_slot = omega (arith, static_same);
        below = omega (arith, static_same, below);
        slots = omega (arith, static_same, slot);
        begins = omega (arith, static_same, slot, minislot);
      }
      by B = record {
        params_are = params_are;
        dynamic_slot = omega (arith, static_same);
        below = omega (arith, static_same, below);
        slots = omega (arith, static_same, slot);
        begins = omega (arith, static_same, slot, minislot);
      }

  -- after the first window, with this last frame
  pub first_at : (c : Standpoint) (last : ℕ) → c.params ≡ d.params → last ≤ 1
      → AreFree d channel (c.begun % 64) (last + 1) 2
      → IsAt d channel (first_passed c) (record (cycle_start d.params (c.begun % 64)) { last = last })
  first_at c last params_are few free =
      let some : 2 ≤ d.params.static_slots = cluster.params_are.static_slots_fit.from_least in
      record {
        cycle_is = (let same : c.begun ≡ c.begun + 1 - 1 = omega arith in ap (λ (n : ℕ). n % 64) same);
        params_are = params_are;
        some_window = omega arith;
        some_cycle = omega arith;
        some_static = omega arith;
        static_fits = omega (arith, some);
        behind = λ more. few;
        free = free;
        begins_a = omega arith;
        begins_b = omega arith;
        lane = fresh_lane (record (cycle_start d.params (c.begun % 64)) { last = last }) c params_are
            (omega (arith, few, some)) refl refl;
      }

  pub first_step : (c : Standpoint) (r : Recorded) (heard_is : IsHeardAt d channel r) (fs : List Fields)
      → c.params ≡ d.params → r.window ≡ static_window c.windows (c.begun % 64) 1
      → ((t : Spot) → IsAt d channel (first_passed c) t → FollowOn d channel t fs)
      → FollowOn d channel (cycle_start d.params (c.begun % 64)) (with_frame d channel r heard_is fs)
  first_step c r (inl quiet) fs params_are is rest =
      rest (cycle_start d.params (c.begun % 64)) (first_at c 0 params_are (omega arith)
      (λ k low high. let same : k ≡ 1 = omega (arith, low, high) in
      ap (λ (n : ℕ). due_at d n channel (c.begun % 64)) same
      ∙ static_none d channel r c.windows (c.begun % 64) 1 is quiet))
  first_step c r (inr loud) fs params_are is rest =
      let some : 2 ≤ d.params.static_slots = cluster.params_are.static_slots_fit.from_least in
      let frame : IsStaticFrame d channel (c.begun % 64) 1 loud.frame =
      static_frame d channel r c.windows (c.begun % 64) 1 is loud in
      let s : Spot = cycle_start d.params (c.begun % 64) in
      inl (
        further_static (cycle_start d.params (c.begun % 64)) loud.frame 1 frame
            (mod_below c.begun 64 (omega arith)) (omega arith) (omega (arith, some))
            (λ k low high. absurd (let none : ⊥ = omega (arith, low, high) in none)),
        subst (λ (t : Spot). FollowOn d channel t fs)
            (sym (after_static (cycle_start d.params (c.begun % 64)) loud.frame 1 frame.id_is (omega (arith, some))))
            (rest (record (cycle_start d.params (c.begun % 64)) { last = 1 }) (first_at c 1 params_are (omega arith)
            (λ k low high. absurd (let none : ⊥ = omega (arith, low, high) in none)))),
      )

-- ---- a dynamic window

lane_quiet : (d : Description) (s : Spot) (lane : Standing) (b : Bool) → IsLaneAt d s lane
    → IsLaneAt d s (cond b (closed lane 0) lane)
lane_quiet d s lane false l = l
lane_quiet d s lane true l = record {
  params_are = l.params_are;
  dynamic_slot = (let most = l.dynamic_slot in omega (arith, most));
  below = (let under = l.below in omega (arith, under));
  slots = (let few = l.slots in omega (arith, few));
  begins = (let same = l.begins in omega (arith, same));
}

passed_begins : (lane : Standing) (m bytes : ℕ) → 1 ≤ lane.begins → 1 ≤ (lane_passed lane m bytes).begins
passed_begins lane m bytes some = by (is_some (opened_in lane m))
  where
    by : (b : Bool) → 1 ≤ (let l : Standing = cond b (closed lane bytes) lane in l).begins
    by true = omega (arith, some)
    by false = some

module _ (d : Description) (channel : Channel) (cluster : IsCluster d) (c : Standpoint) (m : ℕ) (r : Recorded)
    (is : r.window ≡ opening c m) (some : 1 ≤ m) (over : d.params.static_slots ≤ c.statics) where
  lane_after : (on : Channel) → lane_of on (dynamic_passed c m (longest A r.sent) (longest B r.sent))
      ≡ lane_passed (lane_of on c) m (longest on r.sent)
  lane_after A = refl
  lane_after B = refl

  dynamic_at : (s t : Spot) → IsAt d channel c s → t.cycle ≡ s.cycle
      → AreFree d channel t.cycle (t.last + 1) (c.statics + 0 + 1)
      → IsLaneAt d t (lane_passed (lane_of channel c) m (longest channel r.sent))
      → IsAt d channel (dynamic_passed c m (longest A r.sent) (longest B r.sent)) t
  dynamic_at s t at cycle free lane = record {
    cycle_is = cycle ∙ at.cycle_is;
    params_are = at.params_are;
    some_window = omega arith;
    some_cycle = at.some_cycle;
    some_static = (let more = at.some_static in omega (arith, more));
    static_fits = (let fits = at.static_fits in omega (arith, fits));
    behind = λ more. absurd (let none : ⊥ = omega (arith, more, over) in none);
    free = free;
    begins_a = passed_begins c.a m (longest A r.sent) at.begins_a;
    begins_b = passed_begins c.b m (longest B r.sent) at.begins_b;
    lane = subst (IsLaneAt d t) (sym (lane_after channel)) lane;
  }

  pub dynamic_quiet : (s : Spot) → IsAt d channel c s → longest channel r.sent ≡ 0
      → IsAt d channel (dynamic_passed c m (longest A r.sent) (longest B r.sent)) s
  dynamic_quiet s at none =
      dynamic_at s s at refl (λ k low high. at.free k low (omega (arith, high)))
      (subst (λ (n : ℕ). IsLaneAt d s (lane_passed (lane_of channel c) m n)) (sym none)
      (lane_quiet d s (lane_of channel c) (is_some (opened_in (lane_of channel c) m)) at.lane))

  module _ (s : Spot) (at : IsAt d channel c s) (l : IsLoud d channel r) where
    opened : opened_in (lane_of channel c) m ≡ Some l.slot
    opened = sym (slot_opened channel c m) ∙ ap (λ (w : Opportunity). slot_of w channel) (sym is) ∙ l.slot_is

    o : IsOpened (lane_of channel c) m l.slot
    o = opened_is (lane_of channel c) m l.slot opened

    due_here : IsDueThere d r.window channel l.slot l.frame
    due_here = subst (λ (b : Bool). IsThere d r.window channel l.slot l.frame b)
        (ap is_static is ∙ ne_eqb m 0 (λ same. let none : ⊥ = omega (arith, some, same) in none)) l.is_there

    id_is : l.frame.id ≡ (lane_of channel c).slot
    id_is = due_here.id_is ∙ o.slot_is

    cycle_is : l.frame.cycle ≡ s.cycle
    cycle_is = due_here.cycle_is ∙ ap (λ (w : Opportunity). w.cycle) is ∙ sym at.cycle_is

    begins_is : begins_at s l.frame ≡ (lane_of channel c).begins
    begins_is = let id = id_is in let few = at.lane.slots in let same = at.lane.begins in
        omega (arith, id, few, same)

    dynamic_id : nat_le l.frame.id d.params.static_slots ≡ false
    dynamic_id = let id = id_is in let most = at.lane.dynamic_slot in
        lt-leb l.frame.id d.params.static_slots (omega (arith, id, most))

    allowed : IsDynamic d.params due_here.due s l.frame
    allowed =
        let begin = begins_is in
        let first = o.begins in
        let minislot : r.window.minislot ≡ m = ap (λ (w : Opportunity). w.minislot) is in
        let segment : (lane_of channel c).params.minislots ≡ d.params.minislots =
        ap (λ (p : Parameters). p.minislots) at.lane.params_are in
        let fits = o.within in
        let time = due_here.in_time in
        record {
          has_data = due_here.has_data;
          no_sync = due_here.no_sync;
          no_startup = due_here.no_startup;
          words = due_here.words;
          preamble = due_here.preamble;
          some_minislot = omega (arith, first, some, fits, segment);
          within = omega (arith, begin, fits, segment);
          in_time = omega (arith, begin, first, minislot, time);
        }

    pub further_dynamic : IsFurther d channel s l.frame
    further_dynamic =
        let id = id_is in
        let under = at.lane.below in
        let most = o.slot_fits in
        let fits : s.cycle < 64 = subst (λ (n : ℕ). n < 64) (sym at.cycle_is) (cycle_below c) in
        let cycle = cycle_is in
        record {
          same_cycle = cycle_is;
          later = omega (arith, id, under);
          free = λ k low high. ap (λ (n : ℕ). due_at d k channel n) cycle_is
              ∙ at.free k low (omega (arith, high, over));
          allowed = record {
            slot_is = omega (arith, id, under);
            count_fits = omega (arith, cycle, fits);
            due = due_here.due;
            due_is = ap (λ (n : ℕ). due_at d n channel l.frame.cycle) due_here.id_is
                ∙ ap (λ (n : ℕ). due_at d l.slot channel n) due_here.cycle_is
                ∙ due_at_some d l.slot channel r.window.cycle due_here.due
                (let same = o.slot_is in omega (arith, same, under))
                (let same = o.slot_is in omega (arith, same, most)) due_here.due_is;
            allowed = subst (λ (b : Bool). IsAllowedAs d.params due_here.due s l.frame b) (sym dynamic_id) allowed;
          };
        }

    row_is : row_length (lane_of channel c).params (longest channel r.sent)
        ≡ minislots_filled d.params (length l.frame.payload / 2) + d.params.idle
    row_is =
        let words = due_here.words in
        let half : length l.frame.payload / 2 ≡ due_here.due.words = omega (arith, words) in
        let size = l.size in
        ap (λ (p : Parameters). row_length p (longest channel r.sent)) at.lane.params_are
        ∙ row_same d.params (longest channel r.sent) due_here.due.words
        cluster.params_are.words_per_minislot_fit.from_least (omega (arith, size, words))
        ∙ ap (λ (n : ℕ). minislots_filled d.params n + d.params.idle) (sym half)

    lane_loud : IsLaneAt d (after_dynamic d.params s l.frame)
        (lane_passed (lane_of channel c) m (longest channel r.sent))
    lane_loud =
        let opens : is_some (opened_in (lane_of channel c) m) ≡ true = ap is_some opened in
        let id = id_is in
        let row = row_is in
        let begin = begins_is in
        let most = at.lane.dynamic_slot in
        subst (λ (b : Bool). IsLaneAt d (after_dynamic d.params s l.frame)
        (cond b (closed (lane_of channel c) (longest channel r.sent)) (lane_of channel c))) (sym opens) (record {
          params_are = at.lane.params_are;
          dynamic_slot = omega (arith, most);
          below = omega (arith, id);
          slots = omega (arith, id);
          begins = omega (arith, id, row, begin);
        })

    pub dynamic_loud : IsAt d channel (dynamic_passed c m (longest A r.sent) (longest B r.sent))
        (after_frame d.params s l.frame)
    dynamic_loud =
        let after : after_frame d.params s l.frame ≡ after_dynamic d.params s l.frame =
        cond-false (nat_le l.frame.id d.params.static_slots) (let t : Spot = record s { last = l.frame.id } in t)
        (after_dynamic d.params s l.frame) dynamic_id in
        let id = id_is in
        let most = at.lane.dynamic_slot in
        let few = at.static_fits in
        subst (IsAt d channel (dynamic_passed c m (longest A r.sent) (longest B r.sent))) (sym after)
        (dynamic_at s (after_dynamic d.params s l.frame) at refl
        (λ k low high. absurd (let none : ⊥ = omega (arith, low, high, id, most, few) in none)) lane_loud)

  pub dynamic_step : (s : Spot) (heard_is : IsHeardAt d channel r) (fs : List Fields) → IsAt d channel c s
      → ((t : Spot) → IsAt d channel (dynamic_passed c m (longest A r.sent) (longest B r.sent)) t
      → FollowOn d channel t fs)
      → FollowOn d channel s (with_frame d channel r heard_is fs)
  dynamic_step s (inl quiet) fs at rest = rest s (dynamic_quiet s at quiet.none)
  dynamic_step s (inr loud) fs at rest = inl (
    further_dynamic s at loud,
    rest (after_frame d.params s loud.frame) (dynamic_loud s at loud),
  )
