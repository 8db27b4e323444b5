-- The first number that passes a test, and windows in which a ready commit of a buffer is not offered.
use Rattle.std.proofs.Common.{◌≡◌, ℕ, zero, suc, ◌+◌, ◌-◌, ◌%◌, ◌<◌, ◌≤◌, ◌==◌, Bool, true, false, not, cond, ◌&&◌}
use Rattle.std.proofs.Common.{◌||◌, ◌⊎◌, inl, inr, List, [], ◌∷◌, ◌++◌, length, length-append, Option, Some, None, refl}
use Rattle.std.proofs.Common.{sym, ap, subst, ◌∙◌, arith, slice_get, is_some}
use Rattle.std.specs.Prelude.{nat_le}
use Rattle.std.specs.List.{list_all}
use Rattle.std.proofs.lemmas.Bool.{eqb-true, leb-false, leb-true}
use Rattle.std.proofs.lemmas.Bool.Decides.{eqb_tells}
use Rattle.std.proofs.lemmas.List.{append-nil}
use Rattle.std.proofs.lemmas.List.Quantifiers.{position-Some}
use Rattle.std.proofs.lemmas.Option.{get_or_from_slice_get}
use Rattle.fr_bus.specs.Courses.{IsCourse, course_of}
use Rattle.fr_bus.specs.Outcome.{longest}
use Rattle.fr_bus.specs.Record.{Recorded}
use Rattle.fr_bus.specs.Windows.{cycles_begun, this_cycle, counts_on, is_row_of, following}
use Rattle.fr_core.proofs.CaseLemmas.{both, both_first, both_rest}
use Rattle.fr_guarantees.proofs.FollowingLemmas.{following_fits}
use Rattle.fr_guarantees.proofs.HoldingLemmas.{only_kept, other_node, other_buffer}
use Rattle.fr_guarantees.proofs.NextRowLemmas.{row_is, cycle_is}
use Rattle.fr_guarantees.proofs.PassingLemmas.{AreMute}
use Rattle.fr_guarantees.proofs.ProgressLemmas.{begun_next, counts_next}
use Rattle.fr_guarantees.proofs.WalkLemmas.{KeepsMute}
use Rattle.fr_guarantees.specs.Exactness.{HasRoom}
use Rattle.fr_journal.specs.Offers.{is_admitting, may_begin, transmitter}
use Rattle.fr_latency.specs.Latencies.{before_slot, channel_of, first_from}
use Rattle.fr_minislot.specs.DynamicRows.{slot_after, has_row_after}
use Rattle.fr_schedule.proofs.ClusterLemmas.{each_at}
use Rattle.fr_schedule.specs.Clusters.{IsCluster, IsNode}
use Rattle.fr_schedule.specs.Descriptions.{Description}
use Rattle.fr_slots.proofs.FaultlessLemmas.{faultless}
use Rattle.fr_slots.proofs.PlaceLemmas.{same_some}
use Rattle.fr_slots.specs.Admission.{includes, cycle_admitted}
use Rattle.fr_slots.specs.declared.channel.Channel.{Channel}
use Rattle.fr_slots.specs.declared.channel.Channel.TheVariants.{A, B}
use Rattle.fr_slots.specs.declared.channel.Channels.{Channels}
use Rattle.fr_slots.specs.declared.channel.Channels.TheVariants as lines
use Rattle.fr_slots.specs.declared.plan.Buffer.{Buffer}
use Rattle.fr_slots.specs.Faults.{channels, latest_on, transmits, IsFaultless}
use Rattle.fr_slots.specs.Parameters.{Parameters, is_static_slot}
use Rattle.fr_slots.specs.Plans.{Plan, buffer_at, admits_slot}
use Rattle.fr_slots.specs.Windows.{opens_cycle, Opportunity, slot_of, is_static, static_slot_fits, dynamic_slot_fits}
use Rattle.fr_slots.specs.Windows.{window_fits}

-- ---- the first number that passes

pub first_below : (test : ℕ → Bool) (least more k : ℕ) → least ≤ k → k < first_from test least more → test k ≡ false
unfolding first_from
first_below test least zero k from below = absurd (let none : ⊥ = omega (arith, from, below) in none)
first_below test least (suc more) k from below = by (test least) refl below (first_below test (least + 1) more k)
  where
    by : (b : Bool) → test least ≡ b → k < cond b least (first_from test (least + 1) more)
        → (least + 1 ≤ k → k < first_from test (least + 1) more → test k ≡ false) → test k ≡ false
    by true is small again = absurd (let none : ⊥ = omega (arith, from, small) in none)
    by false is small again = elim (eqb_tells k least) [
      | inl same ↦ ap test same.1 ∙ is
      | inr other ↦ again (omega (arith, from, other.1)) small
    ]

-- it lies in the range, and passes unless it is the end of the range
pub record IsFirst (test : ℕ → Bool) (least more : ℕ) : Type 0 where
  pub from : least ≤ first_from test least more
  pub to : first_from test least more ≤ least + more
  pub passes : (first_from test least more ≡ least + more) ⊎ (test (first_from test least more) ≡ true)

pub first_is : (test : ℕ → Bool) (least more : ℕ) → IsFirst test least more
unfolding first_from
first_is test least zero = record { from = omega arith; to = omega arith; passes = inl (omega arith) }
first_is test least (suc more) = by (test least) refl (first_is test (least + 1) more)
  where
    whole : (n : ℕ) → first_from test least (suc more) ≡ n
        → (least ≤ n) × (n ≤ least + suc more) × ((n ≡ least + suc more) ⊎ (test n ≡ true))
        → IsFirst test least (suc more)
    whole n is parts = record {
      from = omega (arith, is, parts.0);
      to = omega (arith, is, parts.1);
      passes = elim parts.2 [
        | inl end ↦ inl (is ∙ end)
        | inr passing ↦ inr (ap test is ∙ passing)
      ];
    }

    by : (b : Bool) → test least ≡ b → IsFirst test (least + 1) more → IsFirst test least (suc more)
    by true is rest = whole least (ap (λ (t : Bool). cond t least (first_from test (least + 1) more)) is)
        (omega arith, omega arith, inr is)
    by false is rest = whole (first_from test (least + 1) more)
        (ap (λ (t : Bool). cond t least (first_from test (least + 1) more)) is) (
          (let low = rest.from in omega (arith, low)),
          (let high = rest.to in omega (arith, high)),
          elim rest.passes [
            | inl end ↦ inl (omega (arith, end))
            | inr passing ↦ inr passing
          ],
        )

-- ---- the turns of the buffer

only_channel : (cs : Channels) (on : Channel) → includes cs on ≡ true → list_all (includes cs) channels ≡ false
    → on ≡ channel_of cs
only_channel lines.A A e one = refl
only_channel lines.A B e one = absurd (let none : ⊥ = cc in none)
only_channel lines.B A e one = absurd (let none : ⊥ = cc in none)
only_channel lines.B B e one = refl
only_channel lines.Both on e one = absurd (let none : ⊥ = cc in none)

pub has_channel : (cs : Channels) → includes cs (channel_of cs) ≡ true
has_channel lines.A = refl
has_channel lines.B = refl
has_channel lines.Both = refl

-- the filter of the buffer admits the window on its channel
pub record IsTurn (b : Buffer) (window : Opportunity) (on : Channel) : Type 0 where
  pub slot_is : slot_of window on ≡ Some b.filter.slot
  pub included : includes b.filter.channels on ≡ true
  pub cycle : cycle_admitted b.filter.cycles window.cycle ≡ true

turn_in : (b : Buffer) (window : Opportunity) (on : Channel) (o : Option ℕ) → slot_of window on ≡ o
    → admits_slot b.filter window.cycle on o ≡ true → IsTurn b window on
turn_in b window on None is e = absurd (let none : ⊥ = cc in none)
turn_in b window on (Some s) is e =
    let there = b.filter.slot == s in
    let among = includes b.filter.channels on in
    let cycles = cycle_admitted b.filter.cycles window.cycle in
    let first = both_first (there && among) cycles e in
    record {
      slot_is = is ∙ ap Some (sym (eqb-true b.filter.slot s (both_first there among first)));
      included = both_rest there among first;
      cycle = both_rest (there && among) cycles e;
    }

turn_of : (plan : Plan) (number : ℕ) (b : Buffer) (window : Opportunity) (on : Channel)
    → buffer_at plan number ≡ Some b → transmitter plan window on ≡ Some number → IsTurn b window on
turn_of plan number b window on at e =
    let found = position-Some (is_admitting window on) plan.buffers number b e in
    let passes : is_admitting window on b ≡ true = ap (is_admitting window on)
    (sym (get_or_from_slice_get plan.buffers number b b at)) ∙ found.1 in
    turn_in b window on (slot_of window on) refl (both_rest (transmits b)
    (admits_slot b.filter window.cycle on (slot_of window on)) passes)

pub static_fits : (p : Parameters) (w : Opportunity) (on : Channel) (slot : ℕ) → window_fits p w ≡ true
    → is_static w ≡ true → slot_of w on ≡ Some slot → is_static_slot p slot ≡ true
static_fits p w on slot fits static is = by on is
  where
    both_fit : (static_slot_fits p w.a && static_slot_fits p w.b) ≡ true
    both_fit = ap (λ (b : Bool). cond b (static_slot_fits p w.a && static_slot_fits p w.b)
        (nat_le w.minislot p.minislots && dynamic_slot_fits p w.a && dynamic_slot_fits p w.b)) (sym static) ∙ fits

    by : (c : Channel) → slot_of w c ≡ Some slot → is_static_slot p slot ≡ true
    by A e = ap (static_slot_fits p) (sym e) ∙ both_first (static_slot_fits p w.a) (static_slot_fits p w.b) both_fit
    by B e = ap (static_slot_fits p) (sym e) ∙ both_rest (static_slot_fits p w.a) (static_slot_fits p w.b) both_fit

module _ (d : Description) (n number : ℕ) (plan : Plan) (b : Buffer) (plan_at : slice_get d.plans n ≡ Some plan)
    (at : buffer_at plan number ≡ Some b) where
  -- without a turn of the buffer that may begin the window is mute
  pub mute_unless : (j : ℕ) (window : Opportunity)
      → ((on : Channel) → IsTurn b window on → may_begin plan window on ≡ true → ⊥)
      → AreMute d (only_kept n number j) window
  mute_unless j window never m p known on k is begins = elim (eqb_tells m n) [
    | inl same ↦ subst (λ (i : ℕ). only_kept n number j i k ≡ None) (sym same.1) (elim (eqb_tells k number) [
      | inl this ↦ (
          let same_plan = same_some plan p (sym plan_at ∙ ap (slice_get d.plans) (sym same.1) ∙ known) in
          absurd (never on (turn_of plan number b window on at
          (ap (λ (q : Plan). transmitter q window on) same_plan ∙ is ∙ ap Some this.1))
          (ap (λ (q : Plan). may_begin q window on) same_plan ∙ begins)))
      | inr other ↦ other_buffer n number j k other.1
    ])
    | inr other ↦ other_node n number j m k other.1
  ]

  -- without a turn of the buffer the window is mute
  pub mute_if : (j : ℕ) (window : Opportunity) → ((on : Channel) → IsTurn b window on → ⊥)
      → AreMute d (only_kept n number j) window
  mute_if j window never = mute_unless j window (λ on turn begins. never on turn)

module _ (d : Description) (lawful : IsCluster d) (n number : ℕ) (plan : Plan) (b : Buffer)
    (plan_at : slice_get d.plans n ≡ Some plan) (at : buffer_at plan number ≡ Some b) (transmitting : transmits b
    ≡ true)
    (dynamic : is_static_slot d.params b.filter.slot ≡ false) where
  pub of_node : IsNode d.params plan
  of_node = each_at (IsNode d.params) d.plans n plan lawful.nodes_are plan_at

  pub fits : IsFaultless d.params plan
  fits = faultless d.params plan of_node.1

  pub above : d.params.static_slots < b.filter.slot
  above = leb-false b.filter.slot d.params.static_slots dynamic

  on_channel : (on : Channel) → includes b.filter.channels on ≡ true → on ≡ channel_of b.filter.channels
  on_channel on included = only_channel b.filter.channels on included (fits.dynamic_fit number b at
      (both (transmits b) (not (is_static_slot d.params b.filter.slot)) transmitting (ap not dynamic))).one_channel

  -- a slot before that of the buffer
  pub lower_mute : (j : ℕ) (window : Opportunity) (slot : ℕ)
      → slot_of window (channel_of b.filter.channels) ≡ Some slot → slot < b.filter.slot
      → AreMute d (only_kept n number j) window
  lower_mute j window slot slot_is less = mute_if d n number plan b plan_at at j window (λ on turn. (
      let here = subst (λ (c : Channel). slot_of window c ≡ Some b.filter.slot) (on_channel on turn.included)
      turn.slot_is in
      let same = same_some slot b.filter.slot (sym slot_is ∙ here) in
      omega (arith, less, same)))

  -- after the latest minislot of the node
  pub late_mute : (j : ℕ) (window : Opportunity) → is_static window ≡ false
      → latest_on plan (channel_of b.filter.channels) < window.minislot → AreMute d (only_kept n number j) window
  late_mute j window still late = mute_unless d n number plan b plan_at at j window (λ on turn begins. (
      let in_time : nat_le window.minislot (latest_on plan on) ≡ true =
      ap (λ (t : Bool). t || nat_le window.minislot (latest_on plan on)) (sym still) ∙ begins in
      let few = leb-true window.minislot (latest_on plan on) in_time in
      let same = ap (latest_on plan) (on_channel on turn.included) in
      omega (arith, few, same, late)))

  module _ (cycles : ℕ) where
    pub static_mute : (j : ℕ) (rs : List Recorded) (window : Opportunity) → following d.params cycles rs ≡ Some window
        → is_static window ≡ true → AreMute d (only_kept n number j) window
    static_mute j rs window follows static = mute_if d n number plan b plan_at at j window (λ on turn. (
        let fit = following_fits d.params cycles rs window
        (let two = lawful.params_are.static_slots_fit.from_least in omega (arith, two)) follows in
        let no = static_fits d.params window on b.filter.slot fit.fits static turn.slot_is in
        let none : ⊥ = cc in none))

    -- along a way to the slot, or to one before it
    pub way_mute : (j : ℕ) (way : List ℕ) → slot_after d.params way ≤ b.filter.slot → (rs : List Recorded)
        (window : Opportunity) → following d.params cycles rs ≡ Some window
        → IsCourse (course_of d.params cycles rs)
        → ((slot : ℕ) → is_static window ≡ false → slot_of window (channel_of b.filter.channels) ≡ Some slot
        → slot < slot_after d.params way) → AreMute d (only_kept n number j) window
    way_mute j way slot_is rs window follows course lower = by (is_static window) refl
      where
        by : (t : Bool) → is_static window ≡ t → AreMute d (only_kept n number j) window
        by true static = static_mute j rs window follows static
        by false still = mute_if d n number plan b plan_at at j window (λ on turn. (
            let here = subst (λ (c : Channel). slot_of window c ≡ Some b.filter.slot) (on_channel on turn.included)
            turn.slot_is in
            let less = lower b.filter.slot still here in
            omega (arith, less, slot_is)))

    -- the rest of a cycle in which nothing of the buffer comes any more
    module _ (j begun : ℕ) where
      abbrev channel : Channel
      channel = channel_of b.filter.channels

      -- The buffer doesn't have the cycle, or its slot has passed, or the channel has no further row.
      abbrev pub IsOver : List Recorded → Type 0
      IsOver rs = (cycles_begun rs ≡ begun)
          × ((cycle_admitted b.filter.cycles ((begun - 1) % 64) ≡ false)
          ⊎ ((before_slot d b < length (counts_on channel (this_cycle rs)))
          ⊎ (has_row_after d.params (counts_on channel (this_cycle rs)) ≡ false)))

      no_turn : (rs : List Recorded) (window : Opportunity) → IsOver rs → following d.params cycles rs ≡ Some window
          → is_static window ≡ false → (on : Channel) → IsTurn b window on → ⊥
      no_turn rs window good follows still on turn =
          let here = subst (λ (x : Channel). slot_of window x ≡ Some b.filter.slot) (on_channel on turn.included)
          turn.slot_is in
          let row = row_is d.params cycles rs window channel b.filter.slot follows still here in
          elim good.1 [
            | inl unadmitted ↦ (
                let cycle : window.cycle ≡ (begun - 1) % 64 = cycle_is d.params cycles rs window follows still
                ∙ ap (λ (m : ℕ). (m - 1) % 64) good.0 in
                let yes = ap (cycle_admitted b.filter.cycles) (sym cycle) ∙ turn.cycle in
                let none : ⊥ = cc in none)
            | inr gone ↦ elim gone [
              | inl past ↦ omega (arith, past, row.slot_is)
              | inr ended ↦ (
                  let exists = row.exists in
                  let none : ⊥ = cc in none)
            ]
          ]

      no_row : (rs : List Recorded) (window : Opportunity) → following d.params cycles rs ≡ Some window
          → has_row_after d.params (counts_on channel (this_cycle rs)) ≡ false → (static : Bool)
          → is_static window ≡ static → (o : Option ℕ) → slot_of window channel ≡ o
          → (not static && is_some o) ≡ false
      no_row rs window follows ended true static o is = refl
      no_row rs window follows ended false still None is = refl
      no_row rs window follows ended false still (Some slot) is =
          let row = row_is d.params cycles rs window channel slot follows still is in
          let exists = row.exists in
          absurd (let none : ⊥ = cc in none)

      over_next : (rs : List Recorded) (window : Opportunity) → following d.params cycles rs ≡ Some window
          → opens_cycle window ≡ false → IsOver rs → (r : Recorded) → r.window ≡ window → IsOver (rs ++ r ∷ [])
      over_next rs window follows later good r is = (
        (let more = begun_next rs r false opens in let was = good.0 in omega (arith, more, was)),
        elim good.1 [
          | inl unadmitted ↦ inl unadmitted
          | inr gone ↦ inr (elim gone [
            | inl past ↦ inl (omega (arith, past, longer))
            | inr ended ↦ inr (
                let none : is_row_of channel r ≡ false =
                ap (λ (w : Opportunity). not (is_static w) && is_some (slot_of w channel)) is
                ∙ no_row rs window follows ended (is_static window) refl (slot_of window channel) refl in
                ap (has_row_after d.params) (counts_next channel rs r false opens none
                ∙ append-nil (counts_on channel (this_cycle rs))) ∙ ended)
          ])
        ],
      )
        where
          opens : opens_cycle r.window ≡ false
          opens = ap opens_cycle is ∙ later

          longer : length (counts_on channel (this_cycle (rs ++ r ∷ [])))
              ≡ length (counts_on channel (this_cycle rs))
              + length (cond (is_row_of channel r) (longest channel r.sent ∷ []) [])
          longer = ap (λ (l : List ℕ). length l) (counts_next channel rs r (is_row_of channel r) opens refl)
              ∙ length-append (counts_on channel (this_cycle rs))
              (cond (is_row_of channel r) (longest channel r.sent ∷ []) [])

      module _ (most : ℕ) (room : HasRoom d cycles most) where
        pub keeps_over : KeepsMute d lawful cycles most room (only_kept n number j) begun IsOver
        keeps_over rs window good follows course few opens = by (opens_cycle window) refl
          where
            mute : (t : Bool) → is_static window ≡ t → AreMute d (only_kept n number j) window
            mute true static = static_mute j rs window follows static
            mute false still =
                mute_if d n number plan b plan_at at j window (no_turn rs window good follows still)

            by : (t : Bool) → opens_cycle window ≡ t → AreMute d (only_kept n number j) window
                × ((r : Recorded) → r.window ≡ window → IsOver (rs ++ r ∷ []))
            by true e = absurd (let less = opens e in let same = good.0 in omega (arith, less, same))
            by false e = (mute (is_static window) refl, over_next rs window follows e good)
