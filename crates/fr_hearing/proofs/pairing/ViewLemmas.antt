-- The part of a judge's state on which the findings of both channels depend, and a slot's frame without a finding.
use Rattle.std.proofs.Common.{◌≡◌, ℕ, zero, suc, ◌+◌, ◌-◌, ◌*◌, ◌/◌, ◌%◌, ◌≤◌, Bool, true, false, cond, List, [], ◌∷◌}
use Rattle.std.proofs.Common.{refl, sym, ap, subst, ◌∙◌, arith, length, ◌⊎◌, inl, inr, Option, Some, None}
use Rattle.std.proofs.lemmas.Bool.{cond-true, eq-eqb, eqb-true, and_from, ltb-true, ltb-false, leb-true}
use Rattle.std.proofs.lemmas.Bool.Decides.{eqb_tells}
use Rattle.std.proofs.lemmas.List.{get_or-set_same, get_or-set_other}
use Rattle.std.specs.Prelude.{min, nat_le, nat_lt, ◌==◌, not, ◌&&◌, ◌||◌, slice_index, slice_index_or, slice_set}
use Rattle.std.specs.Option.{option_or}
use Rattle.fr_frame.specs.Fields.{Fields}
use Rattle.fr_hearing.proofs.CameLemmas.{opens_by_limit, limits}
use Rattle.fr_hearing.proofs.CoreLemmas.{none_at}
use Rattle.fr_hearing.proofs.FrameLemmas.{owners_fits, dynamic_fits, minislot_fits, same_self}
use Rattle.fr_hearing.specs.Heard.{Spot, after_frame, after_dynamic, IsOwners, IsDynamic, IsAllowed, IsAllowedAs}
use Rattle.fr_judging.specs.declared.judge.Shown.{Shown}
use Rattle.fr_judging.specs.declared.lane.Held.{Held}
use Rattle.fr_judging.specs.declared.lane.Lane.{Lane}
use Rattle.fr_judging.specs.declared.line.At.{At}
use Rattle.fr_judging.specs.declared.line.Line.TheVariants as line
use Rattle.fr_judging.specs.declared.rules.Rules.{Rules}
use Rattle.fr_judging.specs.Distances.{time_finding, time_from}
use Rattle.fr_judging.specs.Judging.{State, back, add_back, with_away, away_at, show, show_frame, fix, keep_frame}
use Rattle.fr_judging.specs.Judging.{find_some, count_frame, static_came, static_found, static_with, dynamic_came, came}
use Rattle.fr_judging.specs.Judging.{came_with, channels_finding, differ, silence, are_equal, placed_finding, is_placed}
use Rattle.fr_judging.specs.Judging.{none_found, none_away, no_frame}
use Rattle.fr_judging.specs.Lanes.{same_open, after_dynamic as dynamic_lane}
use Rattle.fr_judging.specs.Rules.{due_at, slot_time, other_channel}
use Rattle.fr_judging.specs.Tallies.{away_place, static_place}
use Rattle.fr_logged.specs.declared.due.Due.{Due}
use Rattle.fr_logged.specs.declared.finding.Finding.{Finding}
use Rattle.fr_logged.specs.Logged.{place_of as frame_place}
use Rattle.fr_logged.specs.Rules.{same, static_finding, dynamic_finding, minislot_finding}
use Rattle.fr_recording.specs.Numbers.{counted, most_counted}
use Rattle.fr_slots.specs.declared.channel.Channel.{Channel}
use Rattle.fr_slots.specs.declared.channel.Channel.TheVariants.{A, B}
use Rattle.fr_slots.specs.Faults.{minislots_filled}

-- ---- the view of a state

pub record LaneView : Type 0 where
  pub held : Option Held
  pub current : Option ℕ
  pub last : ℕ
  pub slot : ℕ
  pub minislot : ℕ
  pub heard : Bool
  pub cycles : ℕ
  pub spoke : ℕ
  pub alone : ℕ

abbrev pub lane_view : Lane → LaneView
lane_view l = record {
  held = l.held;
  current = l.current;
  last = l.last;
  slot = l.slot;
  minislot = l.minislot;
  heard = l.heard;
  cycles = l.cycles;
  spoke = l.spoke;
  alone = l.alone;
}

pub record View : Type 0 where
  pub found : List ℕ
  pub away : List ℕ
  pub rules : Rules
  pub channel : Channel
  pub records : ℕ
  pub shown : List Shown
  pub mine : LaneView
  pub other : LaneView

abbrev pub view : State → View
view s = record {
  found = s.found;
  away = s.away;
  rules = s.rules;
  channel = s.channel;
  records = s.records;
  shown = s.shown;
  mine = lane_view s.mine;
  other = lane_view s.other;
}

-- the lane at a place in an open cycle
abbrev pub at_spot : LaneView → Spot → LaneView
at_spot l t = record l {
  held = None;
  current = Some t.cycle;
  last = t.last;
  slot = t.slot;
  minislot = min t.minislot most_counted;
  heard = true;
}

-- ---- the frames that are shown

abbrev pub entry : List Shown → ℕ → Channel → Shown
entry l slot channel = slice_index_or l (static_place slot channel) (record { opened = 0; frame = no_frame })

-- the lists have the same entries, but for this frame's slot on its channel
abbrev pub ShownBy : ℕ → List Shown → List Shown → Channel → Fields → ℕ → Type 0
ShownBy statics old new channel f cycles = (slot : ℕ) (on : Channel)
    → (entry new slot on ≡ entry old slot on)
    ⊎ ((f.id ≤ statics) × (on ≡ channel) × (slot % 1024 ≡ f.id % 1024)
    × (entry new slot on ≡ record { opened = cycles; frame = f }))

same_place : (slot id : ℕ) (on channel : Channel) → static_place slot on ≡ static_place id channel
    → (on ≡ channel) × (slot % 1024 ≡ id % 1024)
same_place slot id A A e = (refl, twice_same (slot % 1024) (id % 1024) 0 e)
  where
    twice_same : (x y n : ℕ) → x * 2 + n ≡ y * 2 + n → x ≡ y
    twice_same x y n g = omega (arith, g)
same_place slot id B B e = (refl, twice_same (slot % 1024) (id % 1024) 1 e)
  where
    twice_same : (x y n : ℕ) → x * 2 + n ≡ y * 2 + n → x ≡ y
    twice_same x y n g = omega (arith, g)
same_place slot id A B e = absurd (odd (slot % 1024) (id % 1024) e)
  where
    odd : (x y : ℕ) → x * 2 + 0 ≡ y * 2 + 1 → ⊥
    odd x y g = omega (arith, g)
same_place slot id B A e = absurd (odd (slot % 1024) (id % 1024) e)
  where
    odd : (x y : ℕ) → x * 2 + 1 ≡ y * 2 + 0 → ⊥
    odd x y g = omega (arith, g)

past_set : (l : List Shown) (i : ℕ) (x d : Shown) → length l ≤ i → slice_index_or (slice_set l i x) i d
    ≡ slice_index_or l i d
past_set [] i x d past = refl
past_set (y ∷ l) zero x d past = absurd (let none : ⊥ = omega (arith, past) in none)
past_set (y ∷ l) (suc i) x d past = past_set l i x d (omega (arith, past))

pub set_shown : (statics : ℕ) (l : List Shown) (channel : Channel) (f : Fields) (cycles : ℕ) → f.id ≤ statics
    → ShownBy statics l (slice_set l (static_place f.id channel)
    (record { opened = cycles; frame = f })) channel f cycles
set_shown statics l channel f cycles few slot on = elim (eqb_tells (static_place slot on) (static_place f.id channel)) [
  | inl same ↦ by same.1 (nat_lt (static_place f.id channel) (length l)) refl
  | inr other ↦ inl (get_or-set_other l (static_place f.id channel) (static_place slot on)
      (record { opened = cycles; frame = f }) (record { opened = 0; frame = no_frame }) other.1)
]
  where
    x : Shown
    x = record { opened = cycles; frame = f }

    by : static_place slot on ≡ static_place f.id channel → (b : Bool)
        → nat_lt (static_place f.id channel) (length l) ≡ b
        → (entry (slice_set l (static_place f.id channel) (record { opened = cycles; frame = f })) slot on
        ≡ entry l slot on)
        ⊎ ((f.id ≤ statics) × (on ≡ channel) × (slot % 1024 ≡ f.id % 1024)
        × (entry (slice_set l (static_place f.id channel) (record { opened = cycles; frame = f })) slot on
        ≡ record { opened = cycles; frame = f }))
    by e true within =
        let is = same_place slot f.id on channel e in
        inr (
          few,
          is.0,
          is.1,
          ap (λ (n : ℕ). slice_index_or (slice_set l (static_place f.id channel)
              (record { opened = cycles; frame = f })) n (record { opened = 0; frame = no_frame })) e
              ∙ get_or-set_same l (static_place f.id channel) (record { opened = cycles; frame = f })
              (record { opened = 0; frame = no_frame })
              (ltb-true (static_place f.id channel) (length l) within),
        )
    by e false past = inl (
        ap (λ (n : ℕ). slice_index_or (slice_set l (static_place f.id channel)
        (record { opened = cycles; frame = f })) n (record { opened = 0; frame = no_frame })) e
        ∙ past_set l (static_place f.id channel) (record { opened = cycles; frame = f })
        (record { opened = 0; frame = no_frame })
        (ltb-false (static_place f.id channel) (length l) past)
        ∙ ap (λ (n : ℕ). slice_index_or l n (record { opened = 0; frame = no_frame })) (sym e)
        )

pub none_shown_by : (statics : ℕ) (l : List Shown) (channel : Channel) (f : Fields) (cycles : ℕ)
    → ShownBy statics l l channel f cycles
none_shown_by statics l channel f cycles slot on = inl refl

-- ---- the same frame on both channels

pub record Alike (f g : Fields) : Type 0 where
  pub has_data : f.has_data ≡ g.has_data
  pub payload : f.payload ≡ g.payload

-- If the other channel has the frame's cycle open, its frame in the slot is the same one.
abbrev pub AgreesBeside : LaneView → List Shown → Channel → Due → Fields → Type 0
AgreesBeside o shown on d f = d.both ≡ true → same_open o.current (Some f.cycle) ≡ true
    → (entry shown f.id on).opened ≡ o.cycles → Alike f (entry shown f.id on).frame

equal_self : (l : List ℕ) → are_equal l l ≡ true
equal_self [] = refl
equal_self (x ∷ l) = and_from (x == x) (are_equal l l) (eq-eqb x x refl) (equal_self l)

alike_none : (f g : Fields) → Alike f g → differ f (Some g) ≡ None
alike_none f g is =
    cond-true (same f.has_data g.has_data && are_equal f.payload g.payload) None _
    (and_from (same f.has_data g.has_data) (are_equal f.payload g.payload)
    (ap (λ (b : Bool). same b g.has_data) is.has_data ∙ same_self g.has_data)
    (ap (λ (l : List ℕ). are_equal l g.payload) is.payload ∙ equal_self g.payload))

pub no_channels : (s : State) (f : Fields) (d : Due)
    → AgreesBeside (lane_view s.other) s.shown (other_channel s.channel) d f → channels_finding s f (Some d) ≡ None
unfolding channels_finding
no_channels s f d agrees = by d.both refl (same_open s.other.current (Some f.cycle)) refl
    (not (s.other.left || nat_le silence s.other.alone))
    ((entry s.shown f.id (other_channel s.channel)).opened == s.other.cycles) refl
  where
    x : Shown
    x = entry s.shown f.id (other_channel s.channel)

    by : (both : Bool) → d.both ≡ both → (open_one : Bool) → same_open s.other.current (Some f.cycle) ≡ open_one
        → (near here : Bool) → ((entry s.shown f.id (other_channel s.channel)).opened == s.other.cycles) ≡ here
        → cond both (differ f (cond (open_one && near) (cond here
        (Some (entry s.shown f.id (other_channel s.channel)).frame) None) None)) None ≡ None
    by false b open_one e near here g = refl
    by true b false e near here g = refl
    by true b true e false here g = refl
    by true b true e true false g = refl
    by true b true e true true g =
        alike_none f (entry s.shown f.id (other_channel s.channel)).frame
        (agrees b e (eqb-true (entry s.shown f.id (other_channel s.channel)).opened s.other.cycles g))

-- ---- a slot's frame

back_same : (s : State) (f : Fields) (at : At) (d : Option Due) → s.away ≡ none_away → back s f at d ≡ s
unfolding back
back_same s f at None away = refl
back_same s f at (Some d) away =
    cond-true (away_at s f.id d.node == 0) s
    (add_back (with_away s f.id d.node 0) (line.Back at (frame_place s.channel f) d.node (away_at s f.id d.node)))
    (eq-eqb (away_at s f.id d.node) 0
    (ap (λ (l : List ℕ). slice_index l (away_place f.id s.channel d.node)) away
    ∙ none_at (away_place f.id s.channel d.node)))

-- the list after the frame of a static slot
abbrev pub showed : View → Fields → Due → List Shown
showed v f d =
    cond d.both (slice_set v.shown (static_place f.id v.channel) (record { opened = v.mine.cycles; frame = f })) v.shown

pub showed_by : (statics : ℕ) (v : View) (f : Fields) (d : Due) → f.id ≤ statics
    → ShownBy statics v.shown (showed v f d) v.channel f v.mine.cycles
showed_by statics v f d few = by d.both
  where
    by : (b : Bool) → ShownBy statics v.shown (cond b (slice_set v.shown (static_place f.id v.channel)
        (record { opened = v.mine.cycles; frame = f })) v.shown) v.channel f v.mine.cycles
    by true = set_shown statics v.shown v.channel f v.mine.cycles few
    by false = none_shown_by statics v.shown v.channel f v.mine.cycles

show_view : (s : State) (f : Fields) (d : Due)
    → view (show s f (Some d)) ≡ record (view s) { shown = showed (view s) f d }
unfolding show
show_view s f d = by d.both
  where
    by : (b : Bool) → view (cond b (show_frame s f) s)
        ≡ record (view s) {
          shown = cond b (slice_set s.shown (static_place f.id s.channel)
              (record { opened = s.mine.cycles; frame = f })) s.shown;
        }
    by true = refl
    by false = refl

keep_view : (s : State) (f : Fields) (at : At)
    → view (keep_frame s f at None) ≡ record (view s) { mine = record (view s).mine { last = f.id } }
unfolding keep_frame find_some count_frame
keep_view s f at = refl

static_view : (s : State) (f : Fields) (at : At) (d : Due) → static_finding (Some d) f ≡ None
    → channels_finding s f (Some d) ≡ None → (s.rules.macrotick == 0) ≡ true → s.away ≡ none_away
    → view (static_came s f at (Some d))
    ≡ record (view s) { mine = record (view s).mine { last = f.id }; shown = showed (view s) f d }
unfolding static_came
static_view s f at d fits none untimed away =
    let nothing : option_or (static_finding (Some d) f) (channels_finding s f (Some d)) ≡ None =
    ap (λ (o : Option Finding). option_or o (channels_finding s f (Some d))) fits ∙ none in
    let in_time : time_finding s.rules s.mine f.id at.time None ≡ None =
    cond-true (s.rules.macrotick == 0) None (time_from (slot_time s.rules) s.mine.fixed f.id at.time) untimed in
    ap (λ (o : Option Finding). view (static_found s f at (Some d) o)) nothing
    ∙ ap (λ (o : Option Finding). view (static_with s f at (Some d) None o)) in_time
    ∙ keep_view (fix (show (back s f at (Some d)) f (Some d)) f at None) f at
    ∙ ap (λ (t : State). let v : View = view (show t f (Some d)) in
    let w : View = record v { mine = record v.mine { last = f.id } } in w) (back_same s f at (Some d) away)
    ∙ ap (λ (v : View). let w : View = record v { mine = record v.mine { last = f.id } } in w) (show_view s f d)

dynamic_view : (s : State) (f : Fields) (at : At) (d : Due) → dynamic_finding (Some d) f ≡ None
    → placed_finding s f (Some d) ≡ None
    → view (dynamic_came s f at (Some d)) ≡ record (view s) {
      mine = record (view s).mine {
        last = f.id;
        slot = f.id + 1;
        minislot = counted (counted (counted s.mine.minislot (f.id - s.mine.slot))
            (minislots_filled s.rules.cluster.params (length f.payload / 2))) s.rules.cluster.params.idle;
      };
    }
unfolding dynamic_came
dynamic_view s f at d fits placed =
    let nothing : option_or (dynamic_finding (Some d) f) (placed_finding s f (Some d)) ≡ None =
    ap (λ (o : Option Finding). option_or o (placed_finding s f (Some d))) fits ∙ placed in
    let t : State = record s { mine = dynamic_lane s.rules.cluster.params s.mine f (length f.payload / 2) } in
    ap (λ (o : Option Finding). view (keep_frame t f at o)) nothing ∙ keep_view t f at

-- ---- a frame that the cluster allows

-- both channels are judged, without times
pub record IsPair (r : Rules) : Type 0 where
  pub untimed : (r.macrotick == 0) ≡ true

-- nothing was found so far
pub record IsClean (r : Rules) (channel : Channel) (v : View) : Type 0 where
  pub found : v.found ≡ none_found
  pub away : v.away ≡ none_away
  pub rules_are : v.rules ≡ r
  pub channel_is : v.channel ≡ channel

-- the frame has come to this place
pub record CameTo (statics : ℕ) (v : View) (f : Fields) (l : LaneView) (w : View) : Type 0 where
  pub shown : List Shown
  pub is : w ≡ record v { mine = l; shown = shown }
  pub shown_by : ShownBy statics v.shown shown v.channel f v.mine.cycles

module _ (r : Rules) (channel : Channel) (pair : IsPair r) (s : State) (f : Fields) (at : At) (spot : Spot)
    (clean : IsClean r channel (view s)) (l : LaneView) (here : lane_view s.mine ≡ at_spot l spot) where
  cluster_is : s.rules.cluster ≡ r.cluster
  cluster_is = ap (λ (q : Rules). q.cluster) clean.rules_are

  placed_none : (d : Due) → IsDynamic r.cluster.params d spot f → placed_finding s f (Some d) ≡ None
  unfolding placed_finding
  placed_none d is =
      by (is_placed s)
      (ap (λ (q : Rules). minislot_finding q.cluster.params.minislots d.latest (counted s.mine.minislot
      (f.id - s.mine.slot)))
      clean.rules_are
      ∙ ap (λ (x : LaneView). minislot_finding r.cluster.params.minislots d.latest (counted x.minislot (f.id - x.slot)))
      here
      ∙ minislot_fits r.cluster.params.minislots d.latest (counted (min spot.minislot most_counted) (f.id - spot.slot))
      (opens_by_limit r.cluster.params.minislots spot.minislot (f.id - spot.slot) is.within)
      (opens_by_limit d.latest spot.minislot (f.id - spot.slot) is.in_time))
    where
      by : {o : Option Finding} (b : Bool) → o ≡ None → cond b o None ≡ None
      by true none = none
      by false none = refl

  static_to : (d : Due) → AgreesBeside (lane_view s.other) s.shown (other_channel s.channel) d f → IsOwners d f
      → f.id ≤ r.cluster.params.static_slots
      → CameTo r.cluster.params.static_slots (view s) f (at_spot l (record spot { last = f.id })) (view
      (static_came s f at (Some d)))
  static_to d agrees is few = record {
    shown = showed (view s) f d;
    is = static_view s f at d (owners_fits d f is) (no_channels s f d agrees)
        (ap (λ (q : Rules). q.macrotick == 0) clean.rules_are ∙ pair.untimed) clean.away
        ∙ ap (λ (x : LaneView). let w : View = record (view s) {
          mine = record x { last = f.id };
          shown = showed (view s) f d;
        } in w) here;
    shown_by = showed_by r.cluster.params.static_slots (view s) f d few;
  }

  dynamic_to : (d : Due) → IsDynamic r.cluster.params d spot f
      → CameTo r.cluster.params.static_slots (view s) f (at_spot l (after_dynamic r.cluster.params spot f)) (view
      (dynamic_came s f at (Some d)))
  dynamic_to d is = record {
    shown = s.shown;
    is = dynamic_view s f at d (dynamic_fits r.cluster.params d spot f is) (placed_none d is)
        ∙ ap (λ (q : Rules). let w : View = record (view s) {
          mine = record (lane_view s.mine) {
            last = f.id;
            slot = f.id + 1;
            minislot = counted (counted (counted s.mine.minislot (f.id - s.mine.slot))
                (minislots_filled q.cluster.params (length f.payload / 2))) q.cluster.params.idle;
          };
        } in w) clean.rules_are
        ∙ ap (λ (x : LaneView). let w : View = record (view s) {
          mine = record x {
            last = f.id;
            slot = f.id + 1;
            minislot = counted (counted (counted x.minislot (f.id - x.slot))
                (minislots_filled r.cluster.params (length f.payload / 2))) r.cluster.params.idle;
          };
        } in w) here
        ∙ ap (λ (n : ℕ). let w : View = record (view s) {
          mine = record (at_spot l (after_dynamic r.cluster.params spot f)) { minislot = n };
        } in w)
        (limits spot.minislot (f.id - spot.slot) (minislots_filled r.cluster.params (length f.payload / 2))
        r.cluster.params.idle);
    shown_by = none_shown_by r.cluster.params.static_slots s.shown s.channel f s.mine.cycles;
  }

  came_same : (is : IsAllowed r.cluster channel spot f)
      → came s f at ≡ cond (nat_le f.id r.cluster.params.static_slots) (static_came s f at (Some is.due))
      (dynamic_came s f at (Some is.due))
  unfolding came
  came_same is =
      ap (came_with s f at) (ap (λ (q : Rules). due_at q.cluster f.id s.channel f.cycle) clean.rules_are
      ∙ ap (λ (c : Channel). due_at r.cluster f.id c f.cycle) clean.channel_is ∙ is.due_is)
      ∙ ap (λ (q : Rules). cond (nat_le f.id q.cluster.params.static_slots) (static_came s f at (Some is.due))
      (dynamic_came s f at (Some is.due))) clean.rules_are

  pub came_to : (is : IsAllowed r.cluster channel spot f)
      → AgreesBeside (lane_view s.other) s.shown (other_channel s.channel) is.due f
      → CameTo r.cluster.params.static_slots (view s) f (at_spot l (after_frame r.cluster.params spot f)) (view
      (came s f at))
  came_to is agrees =
      subst (λ (t : State). CameTo r.cluster.params.static_slots (view s) f (at_spot l
      (after_frame r.cluster.params spot f)) (view t)) (sym (came_same is))
      (by (nat_le f.id r.cluster.params.static_slots) refl is.allowed)
    where
      by : (b : Bool) → nat_le f.id r.cluster.params.static_slots ≡ b → IsAllowedAs r.cluster.params is.due spot f b
          → CameTo r.cluster.params.static_slots (view s) f (at_spot l (cond b (record spot { last = f.id })
          (after_dynamic r.cluster.params spot f)))
          (view (cond b (static_came s f at (Some is.due)) (dynamic_came s f at (Some is.due))))
      by true few owners = static_to is.due agrees owners (leb-true f.id r.cluster.params.static_slots few)
      by false high dynamic = dynamic_to is.due dynamic
