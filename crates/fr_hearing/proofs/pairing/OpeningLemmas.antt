-- A frame that opens a cycle, beside the other channel.
use Rattle.std.proofs.Common.{◌≡◌, ℕ, ◌+◌, ◌%◌, ◌<◌, ◌≤◌, Bool, true, false, cond, List, refl, sym, ap, subst, ◌∙◌}
use Rattle.std.proofs.Common.{Option, Some, None}
use Rattle.std.proofs.lemmas.Bool.{cond-true, cond-false}
use Rattle.std.specs.Prelude.{min, nat_lt, ◌==◌, ◌&&◌}
use Rattle.std.specs.Option.{is_none}
use Rattle.fr_frame.specs.Fields.{Fields}
use Rattle.fr_hearing.proofs.CoreLemmas.{skip_none}
use Rattle.fr_hearing.proofs.CountLemmas.{one_step}
use Rattle.fr_hearing.proofs.OpenLemmas.{untimed_distance}
use Rattle.fr_hearing.proofs.pairing.ViewLemmas.{LaneView, lane_view, View, view, at_spot, ShownBy, AgreesBeside}
use Rattle.fr_hearing.proofs.pairing.ViewLemmas.{IsPair, IsClean, CameTo, came_to}
use Rattle.fr_hearing.specs.Heard.{Spot, cycle_start, after_frame, IsFirst, IsOver}
use Rattle.fr_judging.specs.declared.judge.Shown.{Shown}
use Rattle.fr_judging.specs.declared.line.At.{At}
use Rattle.fr_judging.specs.declared.rules.Rules.{Rules}
use Rattle.fr_judging.specs.Distances.{distance_to, by_counts, steps_from}
use Rattle.fr_judging.specs.Judging.{State, came, listen, tell_silent, with_alone, skip_before, open_first, open_after}
use Rattle.fr_judging.specs.Judging.{open_closed, open_next, open_cycle, end_cycle, end_in, enter, leave, tell_gap}
use Rattle.fr_judging.specs.Judging.{find_some, static_end, silence}
use Rattle.fr_judging.specs.Lanes.{begun}
use Rattle.fr_judging.specs.Rules.{due_at, are_both, other_channel}
use Rattle.fr_recording.specs.Numbers.{counted}
use Rattle.fr_slots.specs.declared.channel.Channel.{Channel}

-- ---- the other channel

-- the cycles that this channel opened since the other's last frame, with one more
abbrev pub alone_after : View → ℕ → ℕ
alone_after v number =
    cond (are_both v.rules && nat_lt v.other.spoke number) (counted v.other.alone 1) v.other.alone

-- it isn't silent for three cycles
abbrev pub IsHeardOf : LaneView → ℕ → Type 0
IsHeardOf o number = nat_lt o.spoke number ≡ true → (counted o.alone 1 == silence) ≡ false

silent_none : (s : State) (f : Fields) (at : At) → (counted s.other.alone 1 == silence) ≡ false
    → tell_silent (with_alone s) f at ≡ with_alone s
unfolding tell_silent
silent_none s f at e =
    cond-false (counted s.other.alone 1 == silence) _ (with_alone s) e

pub listen_view : (s : State) (f : Fields) (at : At) → IsHeardOf (lane_view s.other) at.number
    → view (listen s f at) ≡ record (view s) {
      other = record (view s).other {
        alone = alone_after
            (view s) at.number;
      };
    }
unfolding listen
listen_view s f at heard = by (are_both s.rules) (nat_lt s.other.spoke at.number) refl
  where
    by : (both late : Bool) → nat_lt s.other.spoke at.number ≡ late
        → view (cond (both && late) (tell_silent (with_alone s) f at) s)
        ≡ record (view s) {
          other = record (view s).other {
            alone = cond (both && late) (counted s.other.alone 1) s.other.alone;
          };
        }
    by false late e = refl
    by true false e = refl
    by true true e = ap view (silent_none s f at (heard e))

-- ---- slots without an owner

abbrev pub FreeOf : State → Fields → ℕ → Type 0
FreeOf s f from = (k : ℕ) → from ≤ k → k < min f.id (s.rules.cluster.params.static_slots + 1)
    → due_at s.rules.cluster k s.channel f.cycle ≡ None

pub before_same : (s : State) (f : Fields) (at : At) → FreeOf s f (s.mine.last + 1) → skip_before s f at ≡ s
unfolding skip_before
before_same s f at free = skip_none s (Some at) f.cycle (s.mine.last + 1) (min f.id (static_end s)) free

module _ (r : Rules) (channel : Channel) (s : State) (clean : IsClean r channel (view s)) where
  pub free_of : (f : Fields) (from : ℕ)
      → ((k : ℕ) → from ≤ k → k < min f.id (r.cluster.params.static_slots + 1)
      → due_at r.cluster k channel f.cycle ≡ None) → FreeOf s f from
  free_of f from free =
      subst (λ (c : Channel). (k : ℕ) → from ≤ k → k < min f.id (s.rules.cluster.params.static_slots + 1)
      → due_at s.rules.cluster k c f.cycle ≡ None) (sym clean.channel_is)
      (subst (λ (q : Rules). (k : ℕ) → from ≤ k → k < min f.id (q.cluster.params.static_slots + 1)
      → due_at q.cluster k channel f.cycle ≡ None) (sym clean.rules_are) free)

  pub over_same : (at : Option At) (l : LaneView) (spot : Spot) → lane_view s.mine ≡ at_spot l spot
      → IsOver r.cluster channel spot → end_cycle s at ≡ s
  unfolding end_cycle
  over_same at l spot here over =
      ap (end_in s at) (ap (λ (x : LaneView). x.current) here)
      ∙ skip_none s at spot.cycle (s.mine.last + 1) (static_end s)
      (subst (λ (n : ℕ). (k : ℕ) → n + 1 ≤ k → k < s.rules.cluster.params.static_slots + 1
      → due_at s.rules.cluster k s.channel spot.cycle ≡ None) (sym (ap (λ (x : LaneView). x.last) here))
      (subst (λ (c : Channel). (k : ℕ) → spot.last + 1 ≤ k → k < s.rules.cluster.params.static_slots + 1
      → due_at s.rules.cluster k c spot.cycle ≡ None) (sym clean.channel_is)
      (subst (λ (q : Rules). (k : ℕ) → spot.last + 1 ≤ k → k < q.cluster.params.static_slots + 1
      → due_at q.cluster k channel spot.cycle ≡ None) (sym clean.rules_are) over)))

-- ---- a cycle has begun

abbrev pub begin_view : View → Fields → View
begin_view v f = record v {
  mine = record v.mine {
    current = Some f.cycle;
    last = 0;
    slot = v.rules.cluster.params.static_slots + 1;
    minislot = 1;
    cycles = counted v.mine.cycles 1;
  };
}

-- The frame has opened its cycle. The other channel's frames and its open cycle stay as they are.
pub record Opened (r : Rules) (v : View) (f : Fields) (number : ℕ) (w : View) : Type 0 where
  pub shown : List Shown
  pub is : w ≡ record v {
    mine = record (at_spot v.mine (after_frame r.cluster.params (cycle_start r.cluster.params f.cycle) f)) {
      cycles = counted v.mine.cycles 1;
    };
    other = record v.other { alone = alone_after v number };
    shown = shown;
  }
  pub shown_by : ShownBy r.cluster.params.static_slots v.shown shown v.channel f (counted v.mine.cycles 1)

module _ (r : Rules) (channel : Channel) (pair : IsPair r) (f : Fields) (at : At)
    (first : IsFirst r.cluster channel f) where
  -- after the slots before the frame
  heard_first : (v : View) (t : State) → IsClean r channel v → view t ≡ begin_view v f → v.mine.heard ≡ true
      → v.mine.held ≡ None
      → AgreesBeside v.other v.shown (other_channel channel) first.allowed.due f
      → IsHeardOf v.other at.number
      → (skip_before t f at ≡ t) × Opened r v f at.number (view (came (listen t f at) f at))
  heard_first v t clean e heard none agrees other = (skipped, opened)
    where
      clean_t : IsClean r channel (view t)
      clean_t = record {
        found = ap (λ (x : View). x.found) e ∙ clean.found;
        away = ap (λ (x : View). x.away) e ∙ clean.away;
        rules_are = ap (λ (x : View). x.rules) e ∙ clean.rules_are;
        channel_is = ap (λ (x : View). x.channel) e ∙ clean.channel_is;
      }

      skipped : skip_before t f at ≡ t
      skipped = before_same t f at (subst (λ (n : ℕ). FreeOf t f (n + 1))
          (sym (ap (λ (x : View). x.mine.last) e)) (free_of r channel t clean_t f 1 first.free))

      listened : view (listen t f at) ≡ record (begin_view v f) {
        other = record v.other { alone = alone_after v at.number };
      }
      listened = listen_view t f at (subst (λ (o : LaneView). IsHeardOf o at.number)
          (sym (ap (λ (x : View). x.other) e)) other)
          ∙ ap (λ (x : View). let w : View = record x {
            other = record x.other { alone = alone_after x at.number };
          } in w) e

      u : State
      u = listen t f at

      clean_u : IsClean r channel (view (listen t f at))
      clean_u = record {
        found = ap (λ (x : View). x.found) listened ∙ clean.found;
        away = ap (λ (x : View). x.away) listened ∙ clean.away;
        rules_are = ap (λ (x : View). x.rules) listened ∙ clean.rules_are;
        channel_is = ap (λ (x : View). x.channel) listened ∙ clean.channel_is;
      }

      lane : LaneView
      lane = record v.mine { cycles = counted v.mine.cycles 1 }

      here : lane_view (listen t f at).mine
          ≡ at_spot (record v.mine { cycles = counted v.mine.cycles 1 }) (cycle_start r.cluster.params f.cycle)
      here = ap (λ (x : View). x.mine) listened
          ∙ (λ i. record v.mine {
            held = none i;
            current = Some f.cycle;
            last = 0;
            slot = (ap (λ (q : Rules). q.cluster.params.static_slots + 1) clean.rules_are) i;
            minislot = 1;
            heard = heard i;
            cycles = counted v.mine.cycles 1;
          })

      agrees_u : AgreesBeside (lane_view (listen t f at).other) (listen t f at).shown
          (other_channel (listen t f at).channel) first.allowed.due f
      agrees_u = subst (λ (x : View). AgreesBeside x.other x.shown (other_channel x.channel) first.allowed.due f)
          (sym listened)
          (subst (λ (c : Channel). AgreesBeside v.other v.shown (other_channel c) first.allowed.due f)
          (sym clean.channel_is) agrees)

      came_is : CameTo r.cluster.params.static_slots (view (listen t f at)) f
          (at_spot (record v.mine { cycles = counted v.mine.cycles 1 })
          (after_frame r.cluster.params (cycle_start r.cluster.params f.cycle) f))
          (view (came (listen t f at) f at))
      came_is = came_to r channel pair (listen t f at) f at (cycle_start r.cluster.params f.cycle) clean_u
          (record v.mine { cycles = counted v.mine.cycles 1 }) here first.allowed agrees_u

      opened : Opened r v f at.number (view (came (listen t f at) f at))
      opened = record {
        shown = came_is.shown;
        is = came_is.is ∙ ap (λ (x : View). let w : View = record x {
          mine = at_spot (record v.mine { cycles = counted v.mine.cycles 1 })
              (after_frame r.cluster.params (cycle_start r.cluster.params f.cycle) f);
          shown = came_is.shown;
        } in w) listened;
        shown_by = subst (λ
            (x : View). ShownBy r.cluster.params.static_slots x.shown came_is.shown x.channel f x.mine.cycles) listened
            came_is.shown_by;
      }

  either_same : {X : Type 0} (b : Bool) (x y : X) → x ≡ y → cond b x y ≡ y
  either_same true x y e = e
  either_same false x y e = refl

  -- the first cycle of the channel
  pub opens_first : (s : State) → IsClean r channel (view s) → s.mine.current ≡ None → s.mine.heard ≡ true
      → s.mine.held ≡ None
      → AgreesBeside (lane_view s.other) s.shown (other_channel channel) first.allowed.due f
      → IsHeardOf (lane_view s.other) at.number → Opened r (view s) f at.number (view (open_cycle s f at))
  unfolding open_cycle open_first
  opens_first s clean closed heard none agrees other =
      let t : State = record s { mine = begun s.rules.cluster.params s.mine f at } in
      let is = heard_first (view s) t clean refl heard none agrees other in
      subst (λ (u : State). Opened r (view s) f at.number (view u))
      (sym (cond-true (is_none s.mine.current) (open_first s f at) (open_next s f at) (ap is_none closed)
      ∙ ap (λ (u : State). came (listen u f at) f at)
      (either_same s.rules.whole (skip_before t f at) t is.0))) is.1

  after_same : (s : State) → open_after s f at (by_counts 1)
      ≡ came (listen (skip_before (enter (leave s) f at 1) f at) f at) f at
  unfolding open_after tell_gap find_some
  after_same s = refl

  entered : (s : State) → view (enter (leave s) f at 1) ≡ begin_view (view s) f
  unfolding leave
  entered s = refl

  -- the next cycle
  pub opens_next : (s : State) (l : LaneView) (spot : Spot) → IsClean r channel (view s)
      → lane_view s.mine ≡ at_spot l spot → spot.cycle < 64 → IsOver r.cluster channel spot
      → f.cycle ≡ (spot.cycle + 1) % 64
      → AgreesBeside (lane_view s.other) s.shown (other_channel channel) first.allowed.due f
      → IsHeardOf (lane_view s.other) at.number → Opened r (view s) f at.number (view (open_cycle s f at))
  unfolding open_cycle
  opens_next s l spot clean here fits over next agrees other =
      let t : State = enter (leave s) f at 1 in
      let is = heard_first (view s) (enter (leave s) f at 1) clean (entered s) (ap (λ (x : LaneView). x.heard) here)
      (ap (λ (x : LaneView). x.held) here) agrees other in
      let steps_are : steps_from s.mine.current f.cycle ≡ 1 =
      ap (λ (x : LaneView). steps_from x.current f.cycle) here ∙ one_step spot.cycle f.cycle fits next in
      let distance_is : distance_to s.rules s.mine f at.time ≡ by_counts 1 =
      untimed_distance s.rules (steps_from s.mine.current f.cycle) s.mine.first f.id s.mine.began at.time
      (ap (λ (q : Rules). q.macrotick == 0) clean.rules_are ∙ pair.untimed) ∙ ap by_counts steps_are in
      subst (λ (u : State). Opened r (view s) f at.number (view u))
      (sym (cond-false (is_none s.mine.current) (open_first s f at) (open_next s f at)
      (ap (λ (x : LaneView). is_none x.current) here)
      ∙ ap (λ (u : State). open_closed u f at) (over_same r channel s clean (Some at) l spot here over)
      ∙ ap (open_after s f at) distance_is ∙ after_same s
      ∙ ap (λ (u : State). came (listen u f at) f at) is.0)) is.1
