-- Both lanes of a judge beside a run without faults, and the next frame of one of them.
use Rattle.std.proofs.Common.{◌≡◌, ℕ, ◌+◌, ◌-◌, ◌%◌, ◌<◌, ◌≤◌, true, false, List, refl, sym, ap, subst, ◌∙◌, arith, ◌⊎◌}
use Rattle.std.proofs.Common.{inl, inr, Option, Some, None}
use Rattle.std.proofs.lemmas.Bool.{ltb-true, ne_eqb}
use Rattle.std.specs.Prelude.{min, nat_lt}
use Rattle.fr_frame.specs.Fields.{Fields}
use Rattle.fr_hearing.proofs.CountLemmas.{opens_same, opens_first, opens_next, not_same}
use Rattle.fr_hearing.proofs.CourseLemmas.{same_cycle_after, last_after_frame}
use Rattle.fr_hearing.proofs.pairing.GoodLemmas.{held_view, freed_view, spoken_view, hold_is, place_is, settle_begun}
use Rattle.fr_hearing.proofs.pairing.GoodLemmas.{settle_between}
use Rattle.fr_hearing.proofs.pairing.OpeningLemmas.{Opened, IsHeardOf, alone_after}
use Rattle.fr_hearing.proofs.pairing.SideLemmas.{FrameMap, AreAlike, CountOk, ShownOk, agrees_beside, shown_more}
use Rattle.fr_hearing.proofs.pairing.SideLemmas.{shown_next, shown_aside, heard_of, alone_more}
use Rattle.fr_hearing.proofs.pairing.ViewLemmas.{AgreesBeside, LaneView, View, view, at_spot, ShownBy, IsPair, IsClean}
use Rattle.fr_hearing.proofs.StepLemmas.{held_at, settle_none, good_is}
use Rattle.fr_hearing.specs.Heard.{Spot, cycle_start, after_frame, IsFirst, IsFurther, IsNext, IsOver}
use Rattle.fr_judging.specs.declared.judge.Shown.{Shown}
use Rattle.fr_judging.specs.declared.lane.Held.{Held}
use Rattle.fr_judging.specs.declared.line.At.{At}
use Rattle.fr_judging.specs.declared.rules.Rules.{Rules}
use Rattle.fr_judging.specs.Judging.{State, settle, place_frame, speak, good, next_of}
use Rattle.fr_judging.specs.Lanes.{opens, same_open}
use Rattle.fr_judging.specs.Rules.{due_at, other_channel}
use Rattle.fr_logged.specs.declared.due.Due.{Due}
use Rattle.fr_recording.specs.Numbers.{counted, most_counted}
use Rattle.fr_slots.proofs.PlaceLemmas.{same_some}
use Rattle.fr_slots.specs.declared.channel.Channel.{Channel}

pub counted_more : (a m : ℕ) → a + 1 ≤ m → min (a + 1) m ≡ a + 1
counted_more a m few = omega (arith, few)

module _ (r : Rules) (pair : IsPair r) (static_few : r.cluster.params.static_slots ≤ 1023) (m : FrameMap)
    (alike : AreAlike r.cluster m) where
  -- ---- a lane

  -- a frame waits, which opens the first cycle or the next one
  abbrev pub Pending : Channel → LaneView → Held → Type 0
  Pending channel l h =
      ((l.current ≡ None) × (l.heard ≡ true) × IsFirst r.cluster channel h.frame × (l.cycles ≡ 0))
      ⊎ ((u : Spot) × (l ≡ record (at_spot l u) { held = Some h }) × (u.cycle < 64)
      × IsNext r.cluster channel u h.frame)

  pub record IsPending (channel : Channel) (l : LaneView) (spot : Spot) (number : ℕ) : Type 0 where
    pub held : Held
    pub held_is : l.held ≡ Some held
    pub opens_by : Pending channel l held
    pub spot_is : spot ≡ after_frame r.cluster.params (cycle_start r.cluster.params held.frame.cycle) held.frame
    pub cycles_are : l.cycles ≡ number
    pub here : m channel number held.frame.id held.frame
    pub count_is : held.frame.cycle ≡ number % 64

  pub record IsSettled (l : LaneView) (spot : Spot) (number : ℕ) : Type 0 where
    pub lane_is : l ≡ at_spot l spot
    pub cycles_are : l.cycles ≡ number + 1

  -- the place after the lane's last frame, and the number of that cycle of the run
  pub record HasSpoken (channel : Channel) (l : LaneView) (t : Spot) (n : ℕ) : Type 0 where
    pub spot : Spot
    pub number : ℕ
    pub judged : IsSettled l spot number ⊎ IsPending channel l spot number
    pub count_is : spot.cycle ≡ number % 64
    pub place : ((t ≡ spot) × (number + 1 ≡ n))
        ⊎ ((number + 2 ≡ n) × IsOver r.cluster channel spot × (t ≡ cycle_start r.cluster.params t.cycle)
        × (t.cycle ≡ (spot.cycle + 1) % 64))

  pub record IsSilent (l : LaneView) (t : Spot) (n : ℕ) : Type 0 where
    pub held : l.held ≡ None
    pub current : l.current ≡ None
    pub cycles : l.cycles ≡ 0
    pub few : n ≤ 1
    pub start : t ≡ cycle_start r.cluster.params t.cycle

  abbrev pub Stage : Channel → LaneView → Spot → ℕ → Type 0
  Stage channel l t n = IsSilent l t n ⊎ HasSpoken channel l t n

  abbrev pub abs : (channel : Channel) (l : LaneView) (t : Spot) (n : ℕ) → Stage channel l t n → ℕ
  abs channel l t n (inl silent) = 0
  abs channel l t n (inr spoken) = spoken.number

  pub record Bounds (l : LaneView) (n number : ℕ) : Type 0 where
    pub near : n ≤ number + 2
    pub low : number ≤ l.cycles
    pub high : l.cycles ≤ number + 1
    pub before : number + 1 ≤ n

  pub bounds : (channel : Channel) (l : LaneView) (t : Spot) (n : ℕ) → 1 ≤ n → (x : Stage channel l t n)
      → Bounds l n (abs channel l t n x)
  bounds channel l t n some (inl silent) =
      let few = silent.few in
      let none = silent.cycles in
      record {
        near = omega (arith, few);
        low = omega arith;
        high = omega (arith, none);
        before = omega (arith, some);
      }
  bounds channel l t n some (inr spoken) = by spoken.judged spoken.place
    where
      by : IsSettled l spoken.spot spoken.number ⊎ IsPending channel l spoken.spot spoken.number
          → ((t ≡ spoken.spot) × (spoken.number + 1 ≡ n))
          ⊎ ((spoken.number + 2 ≡ n) × IsOver r.cluster channel spoken.spot
          × (t ≡ cycle_start r.cluster.params t.cycle) × (t.cycle ≡ (spoken.spot.cycle + 1) % 64))
          → Bounds l n spoken.number
      by (inl settled) (inl here) =
          let cycles = settled.cycles_are in
          let number = here.1 in
          record {
            near = omega (arith, number);
            low = omega (arith, cycles);
            high = omega (arith, cycles);
            before = omega (arith, number);
          }
      by (inl settled) (inr past) =
          let cycles = settled.cycles_are in
          let number = past.0 in
          record {
            near = omega (arith, number);
            low = omega (arith, cycles);
            high = omega (arith, cycles);
            before = omega (arith, number);
          }
      by (inr pending) (inl here) =
          let cycles = pending.cycles_are in
          let number = here.1 in
          record {
            near = omega (arith, number);
            low = omega (arith, cycles);
            high = omega (arith, cycles);
            before = omega (arith, number);
          }
      by (inr pending) (inr past) =
          let cycles = pending.cycles_are in
          let number = past.0 in
          record {
            near = omega (arith, number);
            low = omega (arith, cycles);
            high = omega (arith, cycles);
            before = omega (arith, number);
          }

  pub stage_with_alone : (on : Channel) (l : LaneView) (k : ℕ) (u : Spot) (n : ℕ) → Stage on l u n
      → Stage on (record l { alone = k }) u n
  stage_with_alone on l k u n (inl silent) = inl (record {
    held = silent.held;
    current = silent.current;
    cycles = silent.cycles;
    few = silent.few;
    start = silent.start;
  })
  stage_with_alone on l k u n (inr talker) = inr (record {
    spot = talker.spot;
    number = talker.number;
    judged = by talker.judged;
    count_is = talker.count_is;
    place = talker.place;
  })
    where
      opens_by : (h : Held) → Pending on l h → Pending on (record l { alone = k }) h
      opens_by h (inl first) = inl first
      opens_by h (inr next) = inr (
        next.0,
        ap (λ (x : LaneView). let y : LaneView = record x { alone = k } in y) next.1,
        next.2,
        next.3,
      )

      by : IsSettled l talker.spot talker.number ⊎ IsPending on l talker.spot talker.number
          → IsSettled (record l { alone = k }) talker.spot talker.number
          ⊎ IsPending on (record l { alone = k }) talker.spot talker.number
      by (inl settled) = inl (record {
        lane_is = ap (λ (x : LaneView). let y : LaneView = record x { alone = k } in y) settled.lane_is;
        cycles_are = settled.cycles_are;
      })
      by (inr pending) = inr (record {
        held = pending.held;
        held_is = pending.held_is;
        opens_by = opens_by pending.held pending.opens_by;
        spot_is = pending.spot_is;
        cycles_are = pending.cycles_are;
        here = pending.here;
        count_is = pending.count_is;
      })

  pub abs_with_alone : (on : Channel) (l : LaneView) (k : ℕ) (u : Spot) (n : ℕ) (x : Stage on l u n)
      → abs on (record l { alone = k }) u n (stage_with_alone on l k u n x) ≡ abs on l u n x
  unfolding stage_with_alone
  abs_with_alone on l k u n (inl silent) = refl
  abs_with_alone on l k u n (inr talker) = refl

  -- ---- both lanes

  -- the frame that waits was recorded before, and if the other lane spoke before it, not in a later cycle
  abbrev pub Later : LaneView → LaneView → ℕ → ℕ → ℕ → Type 0
  Later l o records number other = (h : Held) → l.held ≡ Some h
      → (h.at.number ≤ records) × (nat_lt o.spoke h.at.number ≡ true → other ≤ number)

  pub record Joint (channel : Channel) (v : View) (t u : Spot) (n : ℕ) : Type 0 where
    pub clean : IsClean r channel v
    pub few : v.records ≤ most_counted
    pub stage : Stage channel v.mine t n
    pub aside : Stage (other_channel channel) v.other u n
    pub counts : CountOk v.mine
    pub counts_aside : CountOk v.other
    pub shown : ShownOk m channel v.shown v.mine
    pub shown_aside : ShownOk m (other_channel channel) v.shown v.other
    pub alone : v.mine.alone ≤ v.other.cycles - abs channel v.mine t n stage
    pub alone_aside : v.other.alone ≤ v.mine.cycles - abs (other_channel channel) v.other u n aside
    pub later : Later v.mine v.other v.records (abs channel v.mine t n stage)
        (abs (other_channel channel) v.other u n aside)
    pub later_aside : Later v.other v.mine v.records (abs (other_channel channel) v.other u n aside)
        (abs channel v.mine t n stage)

  -- ---- before the frame is placed

  -- the lane has its cycle open, and nothing waits
  pub record Ready (channel : Channel) (v w : View) (spot : Spot) (number other : ℕ) : Type 0 where
    pub clean : IsClean r channel w
    pub lane_is : w.mine ≡ at_spot w.mine spot
    pub cycles_are : w.mine.cycles ≡ number + 1
    pub other_is : w.other ≡ record v.other { alone = w.other.alone }
    pub records_are : w.records ≡ v.records
    pub spoke_is : w.mine.spoke ≡ v.records
    pub none_alone : w.mine.alone ≡ 0
    pub shown_ok : ShownOk m channel w.shown w.mine
    pub aside_ok : ShownOk m (other_channel channel) w.shown v.other
    pub alone_aside : w.other.alone ≤ w.mine.cycles - other

  pub clean_by : (channel : Channel) (v w : View) → w.found ≡ v.found → w.away ≡ v.away → w.rules ≡ v.rules
      → w.channel ≡ v.channel → IsClean r channel v → IsClean r channel w
  clean_by channel v w a b c e clean = record {
    found = a ∙ clean.found;
    away = b ∙ clean.away;
    rules_are = c ∙ clean.rules_are;
    channel_is = e ∙ clean.channel_is;
  }

  module _ (channel : Channel) (v : View) (t u : Spot) (n : ℕ) (some : 1 ≤ n) (few_cycles : n + 1 ≤ most_counted)
      (joint : Joint channel v t u n) (s : State) (e : view s ≡ v) (f : Fields) (at : At)
      (number_is : at.number ≡ v.records) (way : IsFurther r.cluster channel t f) (count : f.cycle ≡ (n - 1) % 64)
      (there : m channel (n - 1) f.id f) where
    ay : ℕ
    ay = abs (other_channel channel) v.other u n joint.aside

    other_bounds : Bounds v.other n (abs (other_channel channel) v.other u n joint.aside)
    other_bounds = bounds (other_channel channel) v.other u n some joint.aside

    spoken : view (speak s at) ≡ spoken_view v v.records
    spoken = ap (λ (x : View). spoken_view x at.number) e ∙ ap (spoken_view v) number_is

    spoken_clean : IsClean r channel (view (speak s at))
    spoken_clean = clean_by channel v (view (speak s at)) (ap (λ (x : View). x.found) spoken)
        (ap (λ (x : View). x.away) spoken) (ap (λ (x : View). x.rules) spoken) (ap (λ (x : View). x.channel) spoken)
        joint.clean

    -- a settled lane
    ready_settled : (spot : Spot) (number : ℕ) → IsSettled v.mine spot number
        → Ready channel v (view (settle (speak s at) (Some (next_of f)))) spot number
        (abs (other_channel channel) v.other u n joint.aside)
    ready_settled spot number is =
        let held_none : (speak s at).mine.held ≡ None = ap (λ (x : View). x.mine.held) e
        ∙ ap (λ (l : LaneView). l.held) is.lane_is in
        let same : view (settle (speak s at) (Some (next_of f))) ≡ spoken_view v v.records =
        ap view (settle_none (speak s at) (Some (next_of f)) held_none) ∙ spoken in
        subst (λ (w : View). Ready channel v w spot number (abs (other_channel channel) v.other u n joint.aside))
        (sym same) (record {
          clean = clean_by channel v (spoken_view v v.records) refl refl refl refl joint.clean;
          lane_is = ap (λ (l : LaneView). let k : LaneView = record l {
            heard = true;
            spoke = v.records;
            alone = 0;
          } in k) is.lane_is;
          cycles_are = is.cycles_are;
          other_is = refl;
          records_are = refl;
          spoke_is = refl;
          none_alone = refl;
          shown_ok = joint.shown;
          aside_ok = joint.shown_aside;
          alone_aside = joint.alone_aside;
        })

    -- the frame that waits opens its cycle
    opened_ready : (spot : Spot) (number : ℕ) (w : View) (is : IsPending channel v.mine spot number)
        → number + 1 ≤ n → abs channel v.mine t n joint.stage ≡ number
        → Opened r (freed_view (spoken_view v v.records)) is.held.frame is.held.at.number w
        → Ready channel v w spot number (abs (other_channel channel) v.other u n joint.aside)
    opened_ready spot number w is before mine opened =
        let later = joint.later is.held is.held_is in
        let cycles = is.cycles_are in
        let more : counted v.mine.cycles 1 ≡ v.mine.cycles + 1 = counted_more v.mine.cycles most_counted
        (omega (arith, cycles, before, few_cycles)) in
        let alone = joint.alone_aside in
        let low : alone_after v is.held.at.number
        ≤ v.mine.cycles + 1 - abs (other_channel channel) v.other u n joint.aside =
        alone_more v is.held.at.number v.mine.cycles (abs (other_channel channel) v.other u n joint.aside) alone
        (λ late. (let order = later.1 late in omega (arith, order, mine, cycles))) in
        subst (λ (x : View). Ready channel v x spot number (abs (other_channel channel) v.other u n joint.aside))
        (sym (opened.is ∙ (λ i. record (freed_view (spoken_view v v.records)) {
          mine = record (at_spot (freed_view (spoken_view v v.records)).mine (sym is.spot_is i)) {
            cycles = more i;
          };
          other = record v.other { alone = alone_after v is.held.at.number };
          shown = opened.shown;
        }))) (record {
          clean = clean_by channel v _ refl refl refl refl joint.clean;
          lane_is = refl;
          cycles_are = omega (arith, cycles);
          other_is = refl;
          records_are = refl;
          spoke_is = refl;
          none_alone = refl;
          shown_ok = shown_next r.cluster static_few m alike channel v.shown opened.shown v.mine
              (record (at_spot (freed_view (spoken_view v v.records)).mine spot) { cycles = v.mine.cycles + 1 }) number
              is.held.frame (subst (λ (c : Channel). ShownBy
              r.cluster.params.static_slots v.shown opened.shown c is.held.frame (v.mine.cycles + 1))
              joint.clean.channel_is (subst (λ (k : ℕ). ShownBy
              r.cluster.params.static_slots v.shown opened.shown v.channel is.held.frame k) more opened.shown_by))
              is.cycles_are (omega (arith, cycles)) is.here joint.shown;
          aside_ok = shown_aside r.cluster static_few m alike channel v.shown opened.shown v.other
              (counted v.mine.cycles 1) is.held.frame
              (subst (λ (c : Channel). ShownBy r.cluster.params.static_slots v.shown
              opened.shown c is.held.frame (counted v.mine.cycles 1)) joint.clean.channel_is opened.shown_by)
              joint.shown_aside;
          alone_aside = low;
        })

    pending_ready : (spot : Spot) (number : ℕ) (is : IsPending channel v.mine spot number) → number + 1 ≤ n
        → n ≤ number + 2 → abs channel v.mine t n joint.stage ≡ number
        → ((c : Option ℕ) → (c ≡ None) ⊎ ((k : ℕ) × (c ≡ Some k) × (k < 64) × (is.held.frame.cycle ≡ (k + 1) % 64))
        → is.held.frame.cycle < 64 → opens c (next_of is.held.frame) (Some (next_of f)) ≡ true)
        → Ready channel v (view (settle (speak s at) (Some (next_of f)))) spot number
        (abs (other_channel channel) v.other u n joint.aside)
    pending_ready spot number is before near mine opening = by is.opens_by
      where
        h : Held
        h = is.held

        held_is : (speak s at).mine.held ≡ Some is.held
        held_is = ap (λ (x : View). x.mine.held) e ∙ is.held_is

        cycles : v.mine.cycles ≡ number
        cycles = is.cycles_are

        heard : IsHeardOf v.other is.held.at.number
        heard =
            let b = other_bounds in
            let low = b.near in
            heard_of v.other is.held.at.number v.mine.cycles (abs (other_channel channel) v.other u n joint.aside)
            joint.alone_aside (omega (arith, cycles, before, low))

        agrees : (x : Due)
            → due_at r.cluster is.held.frame.id channel is.held.frame.cycle ≡ Some x
            → AgreesBeside v.other v.shown (other_channel channel) x is.held.frame
        agrees x due =
            let b = other_bounds in
            let low = b.low in
            let high = b.high in
            let next_to = b.near in
            let last = b.before in
            agrees_beside r.cluster static_few m alike channel v.other v.shown number is.held.frame x
            joint.counts_aside joint.shown_aside is.count_is is.here due (omega (arith, before, next_to, low))
            (omega (arith, near, last, high))

        other_is : view (speak s at) ≡ spoken_view v v.records
        other_is = spoken

        from_opened : Opened r (freed_view (view (speak s at))) is.held.frame is.held.at.number
            (view (settle (speak s at) (Some (next_of f))))
            → Ready channel v (view (settle (speak s at) (Some (next_of f)))) spot number
            (abs (other_channel channel) v.other u n joint.aside)
        from_opened opened = opened_ready spot number (view (settle (speak s at) (Some (next_of f)))) is before mine
            (subst (λ (x : View). Opened r (freed_view x) is.held.frame is.held.at.number
            (view (settle (speak s at) (Some (next_of f))))) spoken opened)

        by : Pending channel v.mine is.held
            → Ready channel v (view (settle (speak s at) (Some (next_of f)))) spot number
            (abs (other_channel channel) v.other u n joint.aside)
        by (inl first) = from_opened (settle_begun r channel pair (speak s at) is.held (Some (next_of f)) spoken_clean
            held_is (ap (λ (x : View). x.mine.current) e ∙ first.0) refl first.2
            (opening None (inl refl) first.2.allowed.count_fits)
            (subst (λ (x : View). AgreesBeside x.other x.shown
            (other_channel channel) first.2.allowed.due is.held.frame) (sym e)
            (agrees first.2.allowed.due first.2.allowed.due_is))
            (subst (λ (x : View). IsHeardOf x.other is.held.at.number) (sym e)
            heard))
        by (inr next) = from_opened (settle_between r channel pair (speak s at) is.held (Some (next_of f))
            (record v.mine { spoke = at.number; alone = 0 }) next.0 spoken_clean
            (ap (λ (x : View). let l : LaneView = record x.mine { heard = true; spoke = at.number; alone = 0 } in l) e
            ∙ ap (λ (l : LaneView). let k : LaneView = record l { heard = true; spoke = at.number; alone = 0 } in k)
            next.1) next.2 next.3
            (opening (Some next.0.cycle) (inr (next.0.cycle, refl, next.2, next.3.next_cycle))
            next.3.first.allowed.count_fits)
            (subst (λ (x : View). AgreesBeside x.other x.shown
            (other_channel channel) next.3.first.allowed.due is.held.frame) (sym e)
            (agrees next.3.first.allowed.due next.3.first.allowed.due_is))
            (subst (λ (x : View). IsHeardOf x.other is.held.at.number) (sym e)
            heard))

    -- ---- the lanes after the frame

    -- what a state after the frame has
    record After (z : View) : Type 0 where
      clean : IsClean r channel z
      other_is : z.other ≡ record v.other { alone = z.other.alone }
      records_are : z.records ≡ v.records
      spoke_is : z.mine.spoke ≡ v.records
      none_alone : z.mine.alone ≡ 0
      alone_aside : z.other.alone ≤ z.mine.cycles - abs (other_channel channel) v.other u n joint.aside
      shown_ok : ShownOk m channel z.shown z.mine
      aside_ok : ShownOk m (other_channel channel) z.shown v.other
      counts : CountOk z.mine
      stage : HasSpoken channel z.mine (after_frame r.cluster.params t f) n
      last_number : stage.number ≡ n - 1
      held_now : (h : Held) → z.mine.held ≡ Some h → h.at.number ≡ v.records

    -- with the other lane written out
    joined_by : (z : View) (al : ℕ) → z.other ≡ record v.other { alone = al } → After z → (w : LaneView)
        → z.other ≡ w → w ≡ record v.other { alone = al } → Joint channel (record z {
          other = record v.other {
            alone = al;
          };
        }) (after_frame r.cluster.params t f) u n
    joined_by z al other_is after w here there =
        let aside : Stage (other_channel channel) (record v.other { alone = al }) u n =
        stage_with_alone (other_channel channel) v.other al u n joint.aside in
        let same = abs_with_alone (other_channel channel) v.other al u n joint.aside in
        let number = after.last_number in
        let last = other_bounds in
        let before = last.before in
        let alone_is : z.other.alone ≡ al = ap (λ (l : LaneView). l.alone) other_is in
        let alone = after.alone_aside in
        let zero_alone = after.none_alone in
        let records = after.records_are in
        let spoke = after.spoke_is in
        record {
          clean = clean_by channel z (record z { other = record v.other { alone = al } }) refl refl refl refl
              after.clean;
          few = subst (λ (k : ℕ). k ≤ most_counted) (sym after.records_are) joint.few;
          stage = inr after.stage;
          aside = aside;
          counts = after.counts;
          counts_aside = joint.counts_aside;
          shown = after.shown_ok;
          shown_aside = after.aside_ok;
          alone = omega (arith, zero_alone);
          alone_aside = omega (arith, alone, alone_is, same);
          later = λ h held. (let now = after.held_now h held in (
            omega (arith, now, records),
            λ late. omega (arith, number, before, same),
          ));
          later_aside = λ h held. (let old = (joint.later_aside h held).0 in (
            omega (arith, old, records),
            λ late. absurd (let earlier = ltb-true z.mine.spoke h.at.number late in
                let none : ⊥ = omega (arith, earlier, old, spoke) in none),
          ));
        }

    joined : (z : View) → After z → Joint channel z (after_frame r.cluster.params t f) u n
    joined z after =
        subst (λ (o : LaneView). Joint channel (record z { other = o }) (after_frame r.cluster.params t f) u n)
        (sym after.other_is)
        (joined_by z z.other.alone after.other_is after z.other refl after.other_is)

    -- ---- the frame itself

    t_count : t.cycle ≡ (n - 1) % 64
    t_count = sym way.same_cycle ∙ count

    after_count : (after_frame r.cluster.params t f).cycle ≡ (n - 1) % 64
    after_count = same_cycle_after r.cluster.params t f ∙ t_count

    further_after : (w z : View) (spot : Spot) (number : ℕ) → t ≡ spot → number + 1 ≡ n
        → Ready channel v w spot number (abs (other_channel channel) v.other u n joint.aside) → (shown : List Shown)
        → z ≡ record w { mine = at_spot w.mine (after_frame r.cluster.params spot f); shown = shown }
        → ShownBy r.cluster.params.static_slots w.shown shown channel f w.mine.cycles → After z
    further_after w z spot number here last ready shown is shown_by =
        let cycles = ready.cycles_are in
        let number_n : n - 1 ≡ number = omega (arith, last) in
        let here_now : m channel number f.id f = subst (λ (k : ℕ). m channel k f.id f) number_n there in
        let lane : LaneView = at_spot w.mine (after_frame r.cluster.params spot f) in
        let spot_after : after_frame r.cluster.params spot f ≡ after_frame r.cluster.params t f =
        ap (λ (x : Spot). after_frame r.cluster.params x f) (sym here) in
        subst After (sym is) (record {
          clean = clean_by channel w _ refl refl refl refl ready.clean;
          other_is = ready.other_is;
          records_are = ready.records_are;
          spoke_is = ready.spoke_is;
          none_alone = ready.none_alone;
          alone_aside = ready.alone_aside;
          shown_ok = shown_more r.cluster static_few m alike channel w.shown shown
              (at_spot w.mine (after_frame r.cluster.params spot f)) number f shown_by ready.cycles_are here_now
              ready.shown_ok;
          aside_ok = shown_aside r.cluster static_few m alike channel w.shown shown v.other w.mine.cycles f shown_by
              ready.aside_ok;
          counts = λ c current. (
            omega (arith, cycles),
            sym (same_some (after_frame r.cluster.params spot f).cycle c current)
                ∙ ap (λ (x : Spot). x.cycle) spot_after ∙ after_count
                ∙ (let same : n - 1 ≡ w.mine.cycles - 1 = omega (arith, cycles, last) in
                ap (λ (k : ℕ). k % 64) same),
          );
          stage = record {
            spot = after_frame r.cluster.params t f;
            number = n - 1;
            judged = inl (record {
              lane_is = ap (at_spot w.mine) spot_after;
              cycles_are = omega (arith, cycles, last);
            });
            count_is = after_count;
            place = inl (refl, omega (arith, some));
          };
          last_number = refl;
          held_now = λ h held. absurd (let none : ⊥ = cc in none);
        })

    -- a further frame of the open cycle
    further_is : (s2 : State) (spot : Spot) (number : ℕ) → t ≡ spot → number + 1 ≡ n
        → Ready channel v (view s2) spot number (abs (other_channel channel) v.other u n joint.aside)
        → After (view (place_frame s2 f at))
    further_is s2 spot number here last ready =
        let b = other_bounds in
        let low = b.low in
        let high = b.high in
        let near = b.near in
        let before = b.before in
        let wayed : IsFurther r.cluster channel spot f =
        subst (λ (x : Spot). IsFurther r.cluster channel x f) here way in
        let number_n : n - 1 ≡ number = omega (arith, last) in
        let agrees : AgreesBeside v.other (view s2).shown (other_channel channel) wayed.allowed.due f =
        agrees_beside r.cluster static_few m alike channel v.other (view s2).shown number f wayed.allowed.due
        joint.counts_aside ready.aside_ok (count ∙ ap (λ (k : ℕ). k % 64) number_n)
        (subst (λ (k : ℕ). m channel k f.id f) number_n there) wayed.allowed.due_is
        (omega (arith, last, near, low)) (omega (arith, last, before, high)) in
        let agrees_now : AgreesBeside (view s2).other (view s2).shown (other_channel channel) wayed.allowed.due f =
        subst (λ (o : LaneView). AgreesBeside o (view s2).shown (other_channel channel) wayed.allowed.due f)
        (sym ready.other_is) agrees in
        let came = place_is r channel pair s2 f at (view s2).mine spot ready.clean ready.lane_is wayed agrees_now in
        further_after (view s2) (view (place_frame s2 f at)) spot number here last ready came.shown came.is
        (subst (λ (c : Channel). ShownBy r.cluster.params.static_slots (view s2).shown came.shown c f
        (view s2).mine.cycles) ready.clean.channel_is came.shown_by)

    -- the first frame of the next cycle waits
    past_is : (s2 : State) (spot : Spot) (number : ℕ) → number + 2 ≡ n → IsOver r.cluster channel spot
        → t ≡ cycle_start r.cluster.params t.cycle → t.cycle ≡ (spot.cycle + 1) % 64 → spot.cycle ≡ number % 64
        → Ready channel v (view s2) spot number (abs (other_channel channel) v.other u n joint.aside)
        → After (view (place_frame s2 f at))
    past_is s2 spot number last over start next spot_count ready =
        let cycles = ready.cycles_are in
        let fits : spot.cycle < 64 = below spot.cycle number spot_count in
        let next_one : f.cycle ≡ (spot.cycle + 1) % 64 = way.same_cycle ∙ next in
        let differs : same_open s2.mine.current (Some f.cycle) ≡ false =
        ap (λ (l : LaneView). same_open l.current (Some f.cycle)) ready.lane_is
        ∙ ne_eqb spot.cycle f.cycle (not_same spot.cycle f.cycle fits next_one) in
        let is = hold_is s2 f at differs in
        let first = first_is start in
        subst After (sym is) (record {
          clean = clean_by channel (view s2) _ refl refl refl refl ready.clean;
          other_is = ready.other_is;
          records_are = ready.records_are;
          spoke_is = ready.spoke_is;
          none_alone = ready.none_alone;
          alone_aside = ready.alone_aside;
          shown_ok = ready.shown_ok;
          aside_ok = ready.aside_ok;
          counts = λ c current. (
            omega (arith, cycles),
            sym (same_some spot.cycle c (sym (ap (λ (l : LaneView). l.current) ready.lane_is) ∙ current)) ∙ spot_count
                ∙ (let same : number ≡ s2.mine.cycles - 1 = omega (arith, cycles) in
                ap (λ (k : ℕ). k % 64) same),
          );
          stage = record {
            spot = after_frame r.cluster.params t f;
            number = n - 1;
            judged = inr (record {
              held = held_at f at;
              held_is = refl;
              opens_by = inr (
                spot,
                ap (λ (l : LaneView). let k : LaneView = record l { held = Some (held_at f at) } in k) ready.lane_is,
                fits,
                record { next_cycle = next_one; over = over; first = first },
              );
              spot_is = start_after start;
              cycles_are = omega (arith, cycles, last);
              here = there;
              count_is = count;
            });
            count_is = after_count;
            place = inl (refl, omega (arith, some));
          };
          last_number = refl;
          held_now = λ h held. sym (ap (λ (x : Held). x.at.number) (same_some (held_at f at) h held)) ∙ number_is;
        })
      where
        below : (c x : ℕ) → c ≡ x % 64 → c < 64
        below c x e = omega (arith, e)

        start_cycle : t ≡ cycle_start r.cluster.params t.cycle → t ≡ cycle_start r.cluster.params f.cycle
        start_cycle start = start ∙ ap (cycle_start r.cluster.params) (sym way.same_cycle)

        first_is : t ≡ cycle_start r.cluster.params t.cycle → IsFirst r.cluster channel f
        first_is start = first_of (subst (λ (x : Spot). IsFurther r.cluster channel x f) (start_cycle start) way)
          where
            first_of : IsFurther r.cluster channel (cycle_start r.cluster.params f.cycle) f
                → IsFirst r.cluster channel f
            first_of here = record { free = here.free; allowed = here.allowed }

        start_after : t ≡ cycle_start r.cluster.params t.cycle
            → after_frame r.cluster.params t f
            ≡ after_frame r.cluster.params (cycle_start r.cluster.params f.cycle) f
        start_after start = ap (λ (x : Spot). after_frame r.cluster.params x f) (start_cycle start)

    -- the first frame of the channel waits
    silent_is : IsSilent v.mine t n
        → After (view (place_frame (settle (speak s at) (Some (next_of f))) f at))
    silent_is silent =
        let few = silent.few in
        let cycles = silent.cycles in
        let held_none : (speak s at).mine.held ≡ None = ap (λ (x : View). x.mine.held) e ∙ silent.held in
        let differs : same_open (speak s at).mine.current (Some f.cycle) ≡ false =
        ap (λ (c : Option ℕ). same_open c (Some f.cycle)) (ap (λ (x : View). x.mine.current) e ∙ silent.current) in
        let is : view (place_frame (settle (speak s at) (Some (next_of f))) f at)
        ≡ held_view (spoken_view v v.records) (held_at f at) =
        ap (λ (x : State). view (place_frame x f at)) (settle_none (speak s at) (Some (next_of f)) held_none)
        ∙ hold_is (speak s at) f at differs ∙ ap (λ (x : View). held_view x (held_at f at)) spoken in
        let start : t ≡ cycle_start r.cluster.params f.cycle =
        silent.start ∙ ap (cycle_start r.cluster.params) (sym way.same_cycle) in
        let here : IsFurther r.cluster channel (cycle_start r.cluster.params f.cycle) f =
        subst (λ (x : Spot). IsFurther r.cluster channel x f) start way in
        subst After (sym is) (record {
          clean = clean_by channel v _ refl refl refl refl joint.clean;
          other_is = refl;
          records_are = refl;
          spoke_is = refl;
          none_alone = refl;
          alone_aside = joint.alone_aside;
          shown_ok = joint.shown;
          aside_ok = joint.shown_aside;
          counts = λ c current. absurd (let both_are : None ≡ Some c = sym silent.current ∙ current in
              let none : ⊥ = cc in none);
          stage = record {
            spot = after_frame r.cluster.params t f;
            number = n - 1;
            judged = inr (record {
              held = held_at f at;
              held_is = refl;
              opens_by = inl (silent.current, refl, record { free = here.free; allowed = here.allowed }, silent.cycles);
              spot_is = ap (λ (x : Spot). after_frame r.cluster.params x f) start;
              cycles_are = omega (arith, cycles, few);
              here = there;
              count_is = count;
            });
            count_is = after_count;
            place = inl (refl, omega (arith, some));
          };
          last_number = refl;
          held_now = λ h held. sym (ap (λ (x : Held). x.at.number) (same_some (held_at f at) h held)) ∙ number_is;
        })

    -- ---- each case

    module _ (spot : Spot) (number : ℕ) (is : IsPending channel v.mine spot number) where
      spot_cycle : spot.cycle ≡ is.held.frame.cycle
      spot_cycle = ap (λ (x : Spot). x.cycle) is.spot_is
          ∙ same_cycle_after r.cluster.params (cycle_start r.cluster.params is.held.frame.cycle) is.held.frame

      spot_last : spot.last ≡ is.held.frame.id
      spot_last = ap (λ (x : Spot). x.last) is.spot_is
          ∙ last_after_frame r.cluster.params (cycle_start r.cluster.params is.held.frame.cycle) is.held.frame

      opens_here : t ≡ spot → (c : Option ℕ) → opens c (next_of is.held.frame) (Some (next_of f)) ≡ true
      opens_here here c =
          let later = way.later in
          let last = spot_last in
          let same_last : t.last ≡ spot.last = ap (λ (x : Spot). x.last) here in
          opens_same c is.held.frame f (way.same_cycle ∙ ap (λ (x : Spot). x.cycle) here ∙ spot_cycle)
          (omega (arith, later, last, same_last))

      opens_past : t.cycle ≡ (spot.cycle + 1) % 64 → (c : Option ℕ)
          → (c ≡ None) ⊎ ((k : ℕ) × (c ≡ Some k) × (k < 64) × (is.held.frame.cycle ≡ (k + 1) % 64))
          → is.held.frame.cycle < 64 → opens c (next_of is.held.frame) (Some (next_of f)) ≡ true
      opens_past next c way_of fits = by way_of
        where
          next_one : f.cycle ≡ (is.held.frame.cycle + 1) % 64
          next_one = way.same_cycle ∙ next ∙ ap (λ (k : ℕ). (k + 1) % 64) spot_cycle

          by : (c ≡ None) ⊎ ((k : ℕ) × (c ≡ Some k) × (k < 64) × (is.held.frame.cycle ≡ (k + 1) % 64))
              → opens c (next_of is.held.frame) (Some (next_of f)) ≡ true
          by (inl none) = ap (λ (o : Option ℕ). opens o (next_of is.held.frame) (Some (next_of f))) none
              ∙ opens_first is.held.frame f fits next_one
          by (inr one) = ap (λ (o : Option ℕ). opens o (next_of is.held.frame) (Some (next_of f))) one.1
              ∙ opens_next one.0 is.held.frame f one.2 one.3 next_one

    after_is : After (view (place_frame (settle (speak s at) (Some (next_of f))) f at))
    after_is = by joint.stage refl
      where
        s2 : State
        s2 = settle (speak s at) (Some (next_of f))

        cases : (x : HasSpoken channel v.mine t n) → joint.stage ≡ inr x
            → (IsSettled v.mine x.spot x.number ⊎ IsPending channel v.mine x.spot x.number)
            → (((t ≡ x.spot) × (x.number + 1 ≡ n))
            ⊎ ((x.number + 2 ≡ n) × IsOver r.cluster channel x.spot × (t ≡ cycle_start r.cluster.params t.cycle)
            × (t.cycle ≡ (x.spot.cycle + 1) % 64)))
            → After (view (place_frame (settle (speak s at) (Some (next_of f))) f at))
        cases x same (inl settled) (inl here) =
            further_is (settle (speak s at) (Some (next_of f))) x.spot x.number here.0 here.1
            (ready_settled x.spot x.number settled)
        cases x same (inl settled) (inr past) =
            past_is (settle (speak s at) (Some (next_of f))) x.spot x.number past.0 past.1 past.2 past.3 x.count_is
            (ready_settled x.spot x.number settled)
        cases x same (inr pending) (inl here) =
            let last = here.1 in
            further_is (settle (speak s at) (Some (next_of f))) x.spot x.number here.0 here.1
            (pending_ready x.spot x.number pending (omega (arith, last)) (omega (arith, last))
            (ap (abs channel v.mine t n) same) (λ c way_of fits. opens_here x.spot x.number pending here.0 c))
        cases x same (inr pending) (inr past) =
            let last = past.0 in
            past_is (settle (speak s at) (Some (next_of f))) x.spot x.number past.0 past.1 past.2 past.3 x.count_is
            (pending_ready x.spot x.number pending (omega (arith, last)) (omega (arith, last))
            (ap (abs channel v.mine t n) same) (opens_past x.spot x.number pending past.3))

        by : (x : Stage channel v.mine t n) → joint.stage ≡ x
            → After (view (place_frame (settle (speak s at) (Some (next_of f))) f at))
        by (inl silent) same = silent_is silent
        by (inr x) same = cases x same x.judged x.place

    -- the frame of one channel leaves both as they have to be
    pub next_joint : Joint channel (view (good s f at)) (after_frame r.cluster.params t f) u n
    next_joint = subst (λ (x : State). Joint channel (view x) (after_frame r.cluster.params t f) u n)
        (sym (good_is s f at)) (joined (view (place_frame (settle (speak s at) (Some (next_of f))) f at)) after_is)
