-- Runs that come to a static slot of a cycle, and windows in which a buffer of a static slot doesn't send.
use Rattle.std.proofs.Common.{◌≡◌, ℕ, zero, suc, ◌+◌, ◌-◌, ◌%◌, ◌<◌, ◌≤◌, ◌==◌, Bool, true, false, not, cond, ◌&&◌, ◌⊎◌}
use Rattle.std.proofs.Common.{inl, inr, List, [], ◌∷◌, ◌++◌, length, length-append, Option, Some, None, refl, sym, ap}
use Rattle.std.proofs.Common.{subst, ◌∙◌, arith, slice_get, option_map}
use Rattle.std.specs.Prelude.{nat_le, nat_lt}
use Rattle.std.specs.List.{find, range_with_len}
use Rattle.std.specs.Option.{option_or}
use Rattle.std.proofs.lemmas.Bool.{lt-ltb, ne_eqb}
use Rattle.std.proofs.lemmas.Bool.Decides.{eqb_tells}
use Rattle.fr_bus.proofs.CourseLemmas.{fold_more}
use Rattle.fr_bus.specs.Courses.{IsCourse, course_of}
use Rattle.fr_bus.specs.Record.{Recorded}
use Rattle.fr_bus.specs.Windows.{cycles_begun, with_window, this_cycle, is_static_one, statics_of, opens_any, window_at}
use Rattle.fr_bus.specs.Windows.{next_dynamic, next_in_cycle, first_of_cycle, following}
use Rattle.fr_core.proofs.CaseLemmas.{both_first, both_rest}
use Rattle.fr_core.proofs.TimingLemmas.{count_more}
use Rattle.fr_core.specs.Worlds.{WorldState}
use Rattle.fr_guarantees.proofs.DelayLemmas.{IsTurn, mute_if}
use Rattle.fr_guarantees.proofs.FollowingLemmas.{found, either_within, following_fits}
use Rattle.fr_guarantees.proofs.HoldingLemmas.{only_kept}
use Rattle.fr_guarantees.proofs.LeadLemmas.{leads_on}
use Rattle.fr_guarantees.proofs.PassingLemmas.{IsAt, AreMute, passes_silent}
use Rattle.fr_guarantees.proofs.ProgressLemmas.{begun_next}
use Rattle.fr_guarantees.proofs.SilenceLemmas.{Keeps}
use Rattle.fr_guarantees.proofs.WalkLemmas.{KeepsMute, IsStart}
use Rattle.fr_guarantees.specs.Exactness.{HasRoom}
use Rattle.fr_guarantees.specs.Guarantees.{cycle_of}
use Rattle.fr_guarantees.specs.Leading.{Leads}
use Rattle.fr_schedule.specs.Clusters.{IsCluster}
use Rattle.fr_schedule.specs.Descriptions.{Description}
use Rattle.fr_slots.proofs.PlaceLemmas.{same_some}
use Rattle.fr_slots.specs.Admission.{cycle_admitted}
use Rattle.fr_slots.specs.declared.channel.Channel.{Channel}
use Rattle.fr_slots.specs.declared.channel.Channel.TheVariants.{A, B}
use Rattle.fr_slots.specs.declared.plan.Buffer.{Buffer}
use Rattle.fr_slots.specs.Parameters.{Parameters, is_static_slot}
use Rattle.fr_slots.specs.Plans.{Plan, buffer_at}
use Rattle.fr_slots.specs.Windows.{is_first_slot, opens_cycle, Opportunity, slot_of, is_static, static_window}
use Rattle.fr_slots.specs.Windows.{static_slot_fits, dynamic_slot_fits, window_fits, run_cycle}

-- ---- the next static window

-- the first window of the next cycle, or a later static slot of this one
pub record IsNextStatic (rs : List Recorded) (window : Opportunity) : Type 0 where
  pub slot : ℕ
  pub slot_is : (on : Channel) → slot_of window on ≡ Some slot
  pub which : ((opens_cycle window ≡ true) × (slot ≡ 1) × (window.cycle ≡ cycles_begun rs % 64))
      ⊎ ((opens_cycle window ≡ false) × (slot ≡ statics_of (this_cycle rs) + 1) × (window.cycle ≡ cycle_of rs))

static_slots_are : (number cycle slot : ℕ) (on : Channel) → slot_of (static_window number cycle slot) on ≡ Some slot
static_slots_are number cycle slot A = refl
static_slots_are number cycle slot B = refl

first_static : (rs : List Recorded) (cycles number : ℕ) (window : Opportunity)
    → first_of_cycle cycles number (cycles_begun rs) ≡ Some window → IsNextStatic rs window
first_static rs cycles number window e = by (nat_lt (cycles_begun rs) cycles) e
  where
    by : (t : Bool) → cond t (Some (static_window number (cycles_begun rs % 64) 1)) None ≡ Some window
        → IsNextStatic rs window
    by true f = subst (IsNextStatic rs) (same_some (static_window number (cycles_begun rs % 64) 1) window f) (record {
      slot = 1;
      slot_is = static_slots_are number (cycles_begun rs % 64) 1;
      which = inl (refl, refl, refl);
    })
    by false f = absurd (let none : ⊥ = cc in none)

later_static : (rs : List Recorded) (number : ℕ) (window : Opportunity) → 1 ≤ statics_of (this_cycle rs)
    → ◌≡◌ {A = Option Opportunity} (Some (static_window number (cycle_of rs) (statics_of (this_cycle rs) + 1)))
    (Some window) → IsNextStatic rs window
later_static rs number window some e =
    let slot = statics_of (this_cycle rs) + 1 in
    subst (IsNextStatic rs) (same_some (static_window number (cycle_of rs) slot) window e) (record {
      slot = slot;
      slot_is = static_slots_are number (cycle_of rs) slot;
      which = inr (
        ne_eqb slot 1 (λ one. let none : ⊥ = omega (arith, one, some) in none),
        refl,
        refl,
      );
    })

dynamic_no_static : {X : Type 0} (p : Parameters) (number cycle : ℕ) (rows : List Recorded) (window : Opportunity)
    (o : Option ℕ) → find (opens_any p rows) (range_with_len 1 p.minislots) ≡ o
    → option_map (window_at p number cycle rows) o ≡ Some window → is_static window ≡ true → X
dynamic_no_static p number cycle rows window None is e static = absurd (let none : ⊥ = cc in none)
dynamic_no_static p number cycle rows window (Some minislot) is e static =
    let within = either_within p rows minislot (found (opens_any p rows) (range_with_len 1 p.minislots) minislot is) in
    let still : (minislot == 0) ≡ false = ne_eqb minislot 0 (λ none. let no : ⊥ = omega
    (arith, none, within.0) in no) in
    let same : (minislot == 0) ≡ true =
    ap (λ (w : Opportunity). is_static w) (same_some (window_at p number cycle rows minislot) window e) ∙ static in
    absurd (let none : ⊥ = cc in none)

module _ (p : Parameters) (cycles : ℕ) where
  pub static_case : (rs : List Recorded) (window : Opportunity) → IsCourse (course_of p cycles rs)
      → following p cycles rs ≡ Some window → is_static window ≡ true → IsNextStatic rs window
  static_case [] window course e static = first_static [] cycles 0 window e
  static_case (r ∷ rs) window course e static =
      let way = course.under_way (omega arith) in
      by (next_in_cycle p (length (r ∷ rs)) (cycle_of (r ∷ rs)) (this_cycle (r ∷ rs))) refl way.1 e
    where
      inner : (t : Bool) → 1 ≤ statics_of (this_cycle (r ∷ rs))
          → cond t (Some (static_window (length (r ∷ rs)) (cycle_of (r ∷ rs)) (statics_of (this_cycle (r ∷ rs)) + 1)))
          (next_dynamic p (length (r ∷ rs)) (cycle_of (r ∷ rs)) (this_cycle (r ∷ rs))) ≡ Some window
          → IsNextStatic (r ∷ rs) window
      inner true some f = later_static (r ∷ rs) (length (r ∷ rs)) window some f
      inner false some f = dynamic_no_static p (length (r ∷ rs)) (cycle_of (r ∷ rs)) (this_cycle (r ∷ rs)) window
          (find (opens_any p (this_cycle (r ∷ rs))) (range_with_len 1 p.minislots)) refl f static

      by : (o : Option Opportunity)
          → next_in_cycle p (length (r ∷ rs)) (cycle_of (r ∷ rs)) (this_cycle (r ∷ rs)) ≡ o
          → 1 ≤ statics_of (this_cycle (r ∷ rs))
          → option_or o (first_of_cycle cycles (length (r ∷ rs)) (cycles_begun (r ∷ rs))) ≡ Some window
          → IsNextStatic (r ∷ rs) window
      by None is some f = first_static (r ∷ rs) cycles (length (r ∷ rs)) window f
      by (Some v) is some f =
          inner (nat_lt (statics_of (this_cycle (r ∷ rs))) p.static_slots) some (is ∙ f)

  -- after some windows of a cycle with further static slots the next one follows
  pub static_follows : (rs : List Recorded) → 1 ≤ length rs → statics_of (this_cycle rs) < p.static_slots
      → following p cycles rs ≡ Some (static_window (length rs) (cycle_of rs) (statics_of (this_cycle rs) + 1))
  static_follows [] some few = absurd (let none : ⊥ = omega (arith, some) in none)
  static_follows (r ∷ rs) some few =
      ap (λ (t : Bool). option_or (cond t
      (Some (static_window (length (r ∷ rs)) (cycle_of (r ∷ rs)) (statics_of (this_cycle (r ∷ rs)) + 1)))
      (next_dynamic p (length (r ∷ rs)) (cycle_of (r ∷ rs)) (this_cycle (r ∷ rs))))
      (first_of_cycle cycles (length (r ∷ rs)) (cycles_begun (r ∷ rs))))
      (lt-ltb (statics_of (this_cycle (r ∷ rs))) p.static_slots few)

-- ---- one more window

statics_first : (rs : List Recorded) (r : Recorded) → opens_cycle r.window ≡ true
    → statics_of (this_cycle (rs ++ r ∷ [])) ≡ 1
statics_first rs r e =
    let static : is_static_one r ≡ true = both_first (is_static r.window) (is_first_slot r.window.a) e in
    ap statics_of (fold_more with_window [] rs r ∙ ap (λ (b : Bool). cond b (r ∷ []) (this_cycle rs ++ r ∷ [])) e)
    ∙ count_more is_static_one [] r ∙ ap (λ (b : Bool). 0 + cond {A = ℕ} b 1 0) static

statics_next : (rs : List Recorded) (r : Recorded) → opens_cycle r.window ≡ false
    → statics_of (this_cycle (rs ++ r ∷ [])) ≡ statics_of (this_cycle rs) + cond (is_static_one r) 1 0
statics_next rs r e =
    ap statics_of (fold_more with_window [] rs r ∙ ap (λ (b : Bool). cond b (r ∷ []) (this_cycle rs ++ r ∷ [])) e)
    ∙ count_more is_static_one (this_cycle rs) r

-- ---- to a static slot

module _ (d : Description) (lawful : IsCluster d) (cycles most : ℕ) (room : HasRoom d cycles most)
    (kept : ℕ → Keeps) where
  -- The next window has the static slot of the cycle.
  pub record IsComeStatic (calls c slot : ℕ) (w : WorldState) : Type 0 where
    pub world : WorldState
    pub leads : Leads w world
    pub is_at : IsAt d cycles kept calls world
    pub window : Opportunity
    pub next : following d.params cycles world.bus.sealed ≡ Some window
    pub static : is_static window ≡ true
    pub slot_is : (on : Channel) → slot_of window on ≡ Some slot
    pub cycle_is : window.cycle ≡ c % 64
    pub run_is : run_cycle (cycles_begun world.bus.sealed) window ≡ c
    pub begun_then : (r : Recorded) → r.window ≡ window → cycles_begun (world.bus.sealed ++ r ∷ []) ≡ c + 1
    pub statics_then : (r : Recorded) → r.window ≡ window
        → statics_of (this_cycle (world.bus.sealed ++ r ∷ [])) ≡ slot

  come_first : (calls c : ℕ) (w : WorldState) → IsStart d lawful cycles most room kept calls c w
      → IsComeStatic calls c 1 w
  come_first calls c w start =
      let window = start.window in
      let static = both_first (is_static window) (is_first_slot window.a) start.opens in
      let case = static_case d.params cycles start.world.bus.sealed window start.is_at.course start.next static in
      by case case.which
    where
      by : (case : IsNextStatic start.world.bus.sealed start.window)
          → ((opens_cycle start.window ≡ true) × (case.slot ≡ 1)
          × (start.window.cycle ≡ cycles_begun start.world.bus.sealed % 64))
          ⊎ ((opens_cycle start.window ≡ false) × (case.slot ≡ statics_of (this_cycle start.world.bus.sealed) + 1)
          × (start.window.cycle ≡ cycle_of start.world.bus.sealed)) → IsComeStatic calls c 1 w
      by case (inl first) = record {
        world = start.world;
        leads = start.leads;
        is_at = start.is_at;
        window = start.window;
        next = start.next;
        static = both_first (is_static start.window) (is_first_slot start.window.a) start.opens;
        slot_is = λ on. case.slot_is on ∙ ap Some first.1;
        cycle_is = first.2 ∙ ap (λ (m : ℕ). m % 64) start.begun_is;
        run_is =
            let begun = cycles_begun start.world.bus.sealed in
            ap (λ (t : Bool). cond t begun (begun - 1)) start.opens ∙ start.begun_is;
        begun_then = λ r is. begun_next start.world.bus.sealed r true (ap opens_cycle is ∙ start.opens)
            ∙ ap (λ (m : ℕ). m + 1) start.begun_is;
        statics_then = λ r is. statics_first start.world.bus.sealed r (ap opens_cycle is ∙ start.opens);
      }
      by case (inr later) = absurd (let opens = start.opens in let closed = later.0 in let none : ⊥ = cc in none)

  come_next : (calls c slot : ℕ) (w : WorldState) → slot < d.params.static_slots → 1 ≤ slot
      → (come : IsComeStatic calls c slot w) → AreMute d kept come.window → Channel
      → IsComeStatic calls c (slot + 1) w
  come_next calls c slot w few some come mute channel =
      let past = passes_silent d cycles most room kept calls come.world come.window channel come.is_at come.next mute in
      let rs = past.world.bus.sealed in
      let begun : cycles_begun rs ≡ c + 1 = ap cycles_begun past.sealed
      ∙ come.begun_then past.recorded past.window_is in
      let statics : statics_of (this_cycle rs) ≡ slot =
      ap (λ (l : List Recorded). statics_of (this_cycle l)) past.sealed
      ∙ come.statics_then past.recorded past.window_is in
      let long : 1 ≤ length rs = (let more = ap (λ (l : List Recorded). length l) past.sealed in
      omega (arith, more, length-append come.world.bus.sealed (past.recorded ∷ []))) in
      let number = statics_of (this_cycle rs) + 1 in
      let window = static_window (length rs) (cycle_of rs) number in
      let closed : opens_cycle window ≡ false =
      ne_eqb number 1 (λ one. let none : ⊥ = omega (arith, one, statics, some) in none) in
      record {
        world = past.world;
        leads = leads_on come.leads past.leads;
        is_at = past.is_at;
        window = window;
        next = static_follows d.params cycles rs long (omega (arith, statics, few));
        static = refl;
        slot_is = λ on. static_slots_are (length rs) (cycle_of rs) number on ∙ ap (λ (m : ℕ). Some (m + 1)) statics;
        cycle_is = ap (λ (m : ℕ). (m - 1) % 64) begun
            ∙ ap (λ (m : ℕ). m % 64) (let same : c + 1 - 1 ≡ c = omega arith in same);
        run_is = ap (λ (t : Bool). cond t (cycles_begun rs) (cycles_begun rs - 1)) closed
            ∙ (let same : cycles_begun rs - 1 ≡ c = omega (arith, begun) in same);
        begun_then = λ r is. begun_next rs r false (ap opens_cycle is ∙ closed)
            ∙ (let same : cycles_begun rs + 0 ≡ c + 1 = omega (arith, begun) in same);
        statics_then = λ r is. statics_next rs r (ap opens_cycle is ∙ closed)
            ∙ ap (λ (v : Opportunity). statics_of (this_cycle rs) + cond (is_static v) 1 0) is
            ∙ ap (λ (m : ℕ). m + 1) statics;
      }

  pub comes_static : (calls c slot : ℕ) (w : WorldState) → slot < d.params.static_slots
      → ((rs : List Recorded) (window : Opportunity) (k : ℕ) → following d.params cycles rs ≡ Some window
      → is_static window ≡ true → ((on : Channel) → slot_of window on ≡ Some k) → k ≤ slot → AreMute d kept window)
      → Channel → IsStart d lawful cycles most room kept calls c w → IsComeStatic calls c (slot + 1) w
  comes_static calls c zero w few mute channel start =
      let one : 1 ≡ zero + 1 = omega arith in
      subst (λ (m : ℕ). IsComeStatic calls c m w) one (come_first calls c w start)
  comes_static calls c (suc slot) w few mute channel start =
      let come = comes_static calls c slot w (omega (arith, few))
      (λ rs window k next static slots low. mute rs window k next static slots (omega (arith, low))) channel start in
      let more : slot + 1 + 1 ≡ suc slot + 1 = omega arith in
      subst (λ (m : ℕ). IsComeStatic calls c m w) more (come_next calls c (slot + 1) w (omega (arith, few))
      (omega arith) come (mute come.world.bus.sealed come.window (slot + 1) come.next come.static come.slot_is
      (omega arith)) channel)

-- ---- windows in which the buffer doesn't send

dynamic_slots_fit : (p : Parameters) (w : Opportunity) (on : Channel) (slot : ℕ) → window_fits p w ≡ true
    → is_static w ≡ false → slot_of w on ≡ Some slot → not (is_static_slot p slot) ≡ true
dynamic_slots_fit p w on slot fits still is = by on is
  where
    all_fit : (nat_le w.minislot p.minislots && dynamic_slot_fits p w.a && dynamic_slot_fits p w.b) ≡ true
    all_fit = ap (λ (b : Bool). cond b (static_slot_fits p w.a && static_slot_fits p w.b)
        (nat_le w.minislot p.minislots && dynamic_slot_fits p w.a && dynamic_slot_fits p w.b)) (sym still) ∙ fits

    by : (c : Channel) → slot_of w c ≡ Some slot → not (is_static_slot p slot) ≡ true
    by A e = ap (dynamic_slot_fits p) (sym e) ∙ both_rest (nat_le w.minislot p.minislots) (dynamic_slot_fits p w.a)
        (both_first (nat_le w.minislot p.minislots && dynamic_slot_fits p w.a) (dynamic_slot_fits p w.b) all_fit)
    by B e = ap (dynamic_slot_fits p) (sym e)
        ∙ both_rest (nat_le w.minislot p.minislots && dynamic_slot_fits p w.a) (dynamic_slot_fits p w.b) all_fit

module _ (d : Description) (lawful : IsCluster d) (n number : ℕ) (plan : Plan) (b : Buffer)
    (plan_at : slice_get d.plans n ≡ Some plan) (at : buffer_at plan number ≡ Some b)
    (of_static : is_static_slot d.params b.filter.slot ≡ true) (cycles j : ℕ) where
  dynamic_mute : (rs : List Recorded) (window : Opportunity) → following d.params cycles rs ≡ Some window
      → is_static window ≡ false → AreMute d (only_kept n number j) window
  dynamic_mute rs window follows still = mute_if d n number plan b plan_at at j window (λ on turn. (
      let fit = following_fits d.params cycles rs window
      (let two = lawful.params_are.static_slots_fit.from_least in omega (arith, two)) follows in
      let no = dynamic_slots_fit d.params window on b.filter.slot fit.fits still turn.slot_is in
      let none : ⊥ = cc in none))

  -- a lower static slot
  pub lower_mute : (rs : List Recorded) (window : Opportunity) (k : ℕ) → ((on : Channel) → slot_of window on ≡ Some k)
      → k < b.filter.slot → AreMute d (only_kept n number j) window
  lower_mute rs window k slots low = mute_if d n number plan b plan_at at j window (λ on turn. (
      let same : k ≡ b.filter.slot = same_some k b.filter.slot (sym (slots on) ∙ turn.slot_is) in
      omega (arith, low, same)))

  module _ (c distance : ℕ) (between : (k : ℕ) → 1 ≤ k → k < distance
      → cycle_admitted b.filter.cycles ((c + k) % 64) ≡ false) where
    abbrev pub IsLaterStatic : List Recorded → Type 0
    IsLaterStatic rs = (c + 1 ≤ cycles_begun rs)
        × (cycles_begun rs ≡ c + 1 → b.filter.slot ≤ statics_of (this_cycle rs))

    not_in : {X : Type 0} (window : Opportunity) (on : Channel) (k : ℕ) → 1 ≤ k → k < distance
        → window.cycle ≡ (c + k) % 64 → IsTurn b window on → X
    not_in window on k low high cycle turn =
        let no = between k low high in
        let yes = ap (cycle_admitted b.filter.cycles) (sym cycle) ∙ turn.cycle in
        absurd (let none : ⊥ = cc in none)

    no_static_turn : (rs : List Recorded) (window : Opportunity) → IsLaterStatic rs → cycles_begun rs ≤ c + distance
        → (opens_cycle window ≡ true → cycles_begun rs < c + distance) → IsNextStatic rs window → (on : Channel)
        → IsTurn b window on → ⊥
    no_static_turn rs window good few opens case on turn = elim case.which [
      | inl first ↦ (
          let low = good.0 in
          let high = opens first.0 in
          let k = cycles_begun rs - c in
          let same : c + k ≡ cycles_begun rs = omega (arith, low) in
          not_in window on k (omega (arith, low)) (omega (arith, low, high))
          (first.2 ∙ ap (λ (m : ℕ). m % 64) (sym same)) turn)
      | inr later ↦ elim (eqb_tells (cycles_begun rs) (c + 1)) [
        | inl this ↦ (
            let past = good.1 this.1 in
            let same : case.slot ≡ b.filter.slot = same_some case.slot b.filter.slot
            (sym (case.slot_is on) ∙ turn.slot_is) in
            omega (arith, past, same, later.1))
        | inr other ↦ (
            let low = good.0 in
            let k = cycles_begun rs - 1 - c in
            let same : c + k ≡ cycles_begun rs - 1 = omega (arith, low) in
            not_in window on k (omega (arith, low, other.1)) (omega (arith, low, other.1, few))
            (later.2 ∙ ap (λ (m : ℕ). m % 64) (sym same)) turn)
      ]
    ]

    later_more : (rs : List Recorded) (window : Opportunity) (t : Bool) → opens_cycle window ≡ t → IsLaterStatic rs
        → (r : Recorded) → r.window ≡ window → IsLaterStatic (rs ++ r ∷ [])
    later_more rs window true opens good r is =
        let more = begun_next rs r true (ap opens_cycle is ∙ opens) in
        let low = good.0 in (
          omega (arith, low, more),
          λ same. absurd (let none : ⊥ = omega (arith, low, more, same) in none),
        )
    later_more rs window false opens good r is =
        let more = begun_next rs r false (ap opens_cycle is ∙ opens) in
        let counts = statics_next rs r (ap opens_cycle is ∙ opens) in
        let low = good.0 in (
          omega (arith, low, more),
          λ same. (let past = good.1 (omega (arith, same, more)) in omega (arith, past, counts)),
        )

    module _ (most : ℕ) (room : HasRoom d cycles most) where
      pub keeps_static : KeepsMute d lawful cycles most room (only_kept n number j) (c + distance) IsLaterStatic
      keeps_static rs window good follows course few opens = (
        by (is_static window) refl,
        later_more rs window (opens_cycle window) refl good,
      )
        where
          by : (t : Bool) → is_static window ≡ t → AreMute d (only_kept n number j) window
          by true static = mute_if d n number plan b plan_at at j window (no_static_turn rs window good few opens
              (static_case d.params cycles rs window course follows static))
          by false still = dynamic_mute rs window follows still
