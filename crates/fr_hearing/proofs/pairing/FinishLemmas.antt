-- Both lanes at the start of a cycle, between records, and at the end of the recording.
use Rattle.std.proofs.Common.{◌≡◌, ℕ, ◌+◌, ◌-◌, ◌%◌, ◌≤◌, Bool, true, false, cond, refl, sym, ap, subst, ◌∙◌, arith}
use Rattle.std.proofs.Common.{◌⊎◌, inl, inr, Some, None}
use Rattle.std.specs.Prelude.{min}
use Rattle.fr_hearing.proofs.AlarmLaws.{nothing_none}
use Rattle.fr_hearing.proofs.pairing.GoodLemmas.{freed_view, settle_begun, settle_between}
use Rattle.fr_hearing.proofs.pairing.JointLemmas.{Pending, IsPending, IsSettled, HasSpoken, Stage, abs, Bounds, bounds}
use Rattle.fr_hearing.proofs.pairing.JointLemmas.{Joint, clean_by, counted_more, stage_with_alone, abs_with_alone}
use Rattle.fr_hearing.proofs.pairing.OpeningLemmas.{Opened, IsHeardOf, alone_after, over_same}
use Rattle.fr_hearing.proofs.pairing.SideLemmas.{FrameMap, AreAlike, agrees_beside, shown_next, shown_aside, heard_of}
use Rattle.fr_hearing.proofs.pairing.SideLemmas.{alone_more}
use Rattle.fr_hearing.proofs.pairing.ViewLemmas.{AgreesBeside, LaneView, View, view, at_spot, ShownBy, IsPair}
use Rattle.fr_hearing.proofs.StepLemmas.{settle_none}
use Rattle.fr_hearing.specs.Heard.{Spot, cycle_start, IsOver}
use Rattle.fr_judging.specs.declared.rules.Rules.{Rules}
use Rattle.fr_judging.specs.Judging.{State, settle, end_cycle, tell_nothing, tell_end}
use Rattle.fr_judging.specs.Rules.{due_at, other_channel}
use Rattle.fr_logged.specs.declared.due.Due.{Due}
use Rattle.fr_recording.specs.Numbers.{counted, most_counted}
use Rattle.fr_slots.proofs.PlaceLemmas.{same_some}
use Rattle.fr_slots.specs.declared.channel.Channel.{Channel}
use Rattle.fr_slots.specs.declared.channel.Channel.TheVariants.{A, B}

abbrev pub swapped : View → View
swapped v = record v { mine = v.other; other = v.mine; channel = other_channel v.channel }

module _ (r : Rules) (pair : IsPair r) (static_few : r.cluster.params.static_slots ≤ 1023) (m : FrameMap)
    (alike : AreAlike r.cluster m) where
  abbrev pub JointOf : Channel → View → Spot → Spot → ℕ → Type 0
  JointOf channel v t u n = Joint r pair static_few m alike channel v t u n

  -- the other channel comes first
  pub swap_a : (v : View) (t u : Spot) (n : ℕ) → JointOf A v t u n → JointOf B (swapped v) u t n
  swap_a v t u n j = record {
    clean = record {
      found = j.clean.found;
      away = j.clean.away;
      rules_are = j.clean.rules_are;
      channel_is = ap other_channel j.clean.channel_is;
    };
    few = j.few;
    stage = j.aside;
    aside = j.stage;
    counts = j.counts_aside;
    counts_aside = j.counts;
    shown = j.shown_aside;
    shown_aside = j.shown;
    alone = j.alone_aside;
    alone_aside = j.alone;
    later = j.later_aside;
    later_aside = j.later;
  }

  pub swap_b : (v : View) (t u : Spot) (n : ℕ) → JointOf B v t u n → JointOf A (swapped v) u t n
  swap_b v t u n j = record {
    clean = record {
      found = j.clean.found;
      away = j.clean.away;
      rules_are = j.clean.rules_are;
      channel_is = ap other_channel j.clean.channel_is;
    };
    few = j.few;
    stage = j.aside;
    aside = j.stage;
    counts = j.counts_aside;
    counts_aside = j.counts;
    shown = j.shown_aside;
    shown_aside = j.shown;
    alone = j.alone_aside;
    alone_aside = j.alone;
    later = j.later_aside;
    later_aside = j.later;
  }

  -- one more record
  few_counted : (n most : ℕ) → min (n + 1) most ≤ most
  few_counted n most = omega arith

  at_least : (n most : ℕ) → n ≤ most → n ≤ min (n + 1) most
  at_least n most few = omega (arith, few)

  pub one_record : (channel : Channel) (v : View) (t u : Spot) (n : ℕ)
      → JointOf channel v t u n → JointOf channel (record v { records = counted v.records 1 }) t u n
  one_record channel v t u n j =
      let more : v.records ≤ counted v.records 1 = at_least v.records most_counted j.few in
      record {
        clean = record {
          found = j.clean.found;
          away = j.clean.away;
          rules_are = j.clean.rules_are;
          channel_is = j.clean.channel_is;
        };
        few = few_counted v.records most_counted;
        stage = j.stage;
        aside = j.aside;
        counts = j.counts;
        counts_aside = j.counts_aside;
        shown = j.shown;
        shown_aside = j.shown_aside;
        alone = j.alone;
        alone_aside = j.alone_aside;
        later = λ h held. (let old = (j.later h held).0 in omega (arith, old, more), (j.later h held).1);
        later_aside = λ h held. (
          let old = (j.later_aside h held).0 in omega (arith, old, more),
          (j.later_aside h held).1,
        );
      }

  -- ---- a new cycle

  pub record Turned (channel : Channel) (l : LaneView) (t : Spot) (n : ℕ)
      (x : Stage r pair static_few m alike channel l t n)
      (w : Spot) : Type 0 where
    pub stage : Stage r pair static_few m alike channel l w (n + 1)
    pub same : abs r pair static_few m alike channel l w (n + 1) stage ≡ abs r pair static_few m alike channel l t n x

  next_count : (a n s w : ℕ) → a + 1 ≡ n → s ≡ a % 64 → w ≡ n % 64 → w ≡ (s + 1) % 64
  next_count a n s w one is there = omega (arith, one, is, there)

  -- each channel had a frame in the cycle before, or the run begins
  pub turn_cycle : (channel : Channel) (l : LaneView) (t w : Spot) (n : ℕ)
      → (x : Stage r pair static_few m alike channel l t n) → w ≡ cycle_start r.cluster.params w.cycle
      → w.cycle ≡ n % 64 → (n ≡ 0) ⊎ (IsOver r.cluster channel t × (t ≡ cycle_start r.cluster.params t.cycle → ⊥))
      → Turned channel l t n x w
  turn_cycle channel l t w n (inl silent) start count (inl none) = record {
    stage = inl (record {
      held = silent.held;
      current = silent.current;
      cycles = silent.cycles;
      few = omega (arith, none);
      start = start;
    });
    same = refl;
  }
  turn_cycle channel l t w n (inl silent) start count (inr over) = absurd (over.1 silent.start)
  turn_cycle channel l t w n (inr spoken) start count before = by spoken.place before
    where
      by : ((t ≡ spoken.spot) × (spoken.number + 1 ≡ n))
          ⊎ ((spoken.number + 2 ≡ n) × IsOver r.cluster channel spoken.spot
          × (t ≡ cycle_start r.cluster.params t.cycle) × (t.cycle ≡ (spoken.spot.cycle + 1) % 64))
          → (n ≡ 0) ⊎ (IsOver r.cluster channel t × (t ≡ cycle_start r.cluster.params t.cycle → ⊥))
          → Turned channel l t n (inr spoken) w
      by (inl here) (inl none) = absurd (let number = here.1 in let no : ⊥ = omega (arith, number, none) in no)
      by (inl here) (inr over) =
          let number = here.1 in
          record {
            stage = inr (record {
              spot = spoken.spot;
              number = spoken.number;
              judged = spoken.judged;
              count_is = spoken.count_is;
              place = inr (
                omega (arith, number),
                subst (IsOver r.cluster channel) here.0 over.0,
                start,
                next_count spoken.number n spoken.spot.cycle w.cycle number spoken.count_is count,
              );
            });
            same = refl;
          }
      by (inr past) (inl none) = absurd (let number = past.0 in let no : ⊥ = omega (arith, number, none) in no)
      by (inr past) (inr over) = absurd (over.1 past.2)

  pub new_cycle : (channel : Channel) (v : View) (t u w z : Spot) (n : ℕ) (j : JointOf channel v t u n)
      → Turned channel v.mine t n j.stage w → Turned (other_channel channel) v.other u n j.aside z
      → JointOf channel v w z (n + 1)
  new_cycle channel v t u w z n j mine aside =
      let first = mine.same in
      let second = aside.same in
      let alone = j.alone in
      let alone_aside = j.alone_aside in
      record {
        clean = j.clean;
        few = j.few;
        stage = mine.stage;
        aside = aside.stage;
        counts = j.counts;
        counts_aside = j.counts_aside;
        shown = j.shown;
        shown_aside = j.shown_aside;
        alone = omega (arith, alone, first);
        alone_aside = omega (arith, alone_aside, second);
        later = λ h held. (
          (j.later h held).0,
          λ late. (let order = (j.later h held).1 late in
              omega (arith, order, first, second)),
        );
        later_aside = λ h held. (
          (j.later_aside h held).0,
          λ late. (let order = (j.later_aside h held).1 late in
              omega (arith, order, first, second)),
        );
      }

  -- ---- the end of the recording

  module _ (channel : Channel) (s : State) (t u : Spot) (n : ℕ) (some : 1 ≤ n) (few_cycles : n + 1 ≤ most_counted)
      (j : JointOf channel (view s) t u n) where
    ay : ℕ
    ay = abs r pair static_few m alike (other_channel channel) (view s).other u n j.aside

    -- the frame that waits opens its cycle
    opened_joint : (spot : Spot) (number : ℕ) (w : View)
        (is : IsPending r pair static_few m alike channel (view s).mine spot number)
        → (count : spot.cycle ≡ number % 64) → t ≡ spot → number + 1 ≡ n
        → abs r pair static_few m alike channel (view s).mine t n j.stage ≡ number
        → Opened r (freed_view (view s)) is.held.frame is.held.at.number w
        → JointOf channel w t u n × (w.mine ≡ at_spot w.mine t)
    opened_joint spot number w is count here last mine opened =
        let v : View = view s in
        let later = j.later is.held is.held_is in
        let cycles = is.cycles_are in
        let more : counted s.mine.cycles 1 ≡ s.mine.cycles + 1 = counted_more s.mine.cycles most_counted
        (omega (arith, cycles, last, few_cycles)) in
        let al : ℕ = alone_after (view s) is.held.at.number in
        let low : alone_after (view s) is.held.at.number
        ≤ s.mine.cycles + 1 - abs r pair static_few m alike (other_channel channel) (view s).other u n j.aside =
        alone_more (view s) is.held.at.number s.mine.cycles
        (abs r pair static_few m alike (other_channel channel) (view s).other u n j.aside) j.alone_aside
        (λ late. (let order = later.1 late in omega (arith, order, mine, cycles))) in
        let same = abs_with_alone r pair static_few m alike (other_channel channel) (view s).other
        (alone_after (view s) is.held.at.number) u n j.aside in
        let shown_is : ShownBy r.cluster.params.static_slots s.shown opened.shown channel is.held.frame
        (s.mine.cycles + 1) = subst (λ (c : Channel). ShownBy r.cluster.params.static_slots s.shown opened.shown c
        is.held.frame (s.mine.cycles + 1)) j.clean.channel_is
        (subst (λ (k : ℕ). ShownBy r.cluster.params.static_slots s.shown opened.shown s.channel is.held.frame k) more
        opened.shown_by) in
        let lane : LaneView = record (at_spot (freed_view (view s)).mine spot) { cycles = s.mine.cycles + 1 } in
        let alone = j.alone in
        subst (λ (x : View). JointOf channel x t u n × (x.mine ≡ at_spot x.mine t))
        (sym (opened.is ∙ (λ i. record (freed_view (view s)) {
          mine = record (at_spot (freed_view (view s)).mine (sym is.spot_is i)) { cycles = more i };
          other = record (view s).other { alone = alone_after (view s) is.held.at.number };
          shown = opened.shown;
        }))) (
          record {
            clean = clean_by r pair static_few m alike channel (view s) _ refl refl refl refl j.clean;
            few = j.few;
            stage = inr (record {
              spot = spot;
              number = number;
              judged = inl (record { lane_is = refl; cycles_are = omega (arith, cycles) });
              count_is = count;
              place = inl (here, last);
            });
            aside = stage_with_alone r pair static_few m alike (other_channel channel) (view s).other
                (alone_after (view s) is.held.at.number) u n j.aside;
            counts = λ c current. (
              omega arith,
              sym (same_some spot.cycle c current) ∙ count
                  ∙ (let number_is : number ≡ s.mine.cycles + 1 - 1 = omega (arith, cycles) in
                  ap (λ (k : ℕ). k % 64) number_is),
            );
            counts_aside = j.counts_aside;
            shown = shown_next r.cluster static_few m alike channel s.shown opened.shown (view s).mine
                (record (at_spot (freed_view (view s)).mine spot) { cycles = s.mine.cycles + 1 }) number is.held.frame
                shown_is is.cycles_are (omega (arith, cycles)) is.here j.shown;
            shown_aside = shown_aside r.cluster static_few m alike channel s.shown opened.shown (view s).other
                (s.mine.cycles + 1) is.held.frame shown_is j.shown_aside;
            alone = omega (arith, alone, mine);
            alone_aside = omega (arith, low, same);
            later = λ h held. absurd (let none : ⊥ = cc in none);
            later_aside = λ h held. (
              (j.later_aside h held).0,
              λ late. (let order = (j.later_aside h held).1 late in omega (arith, order, mine, same)),
            );
          },
          ap (at_spot (record (at_spot (freed_view (view s)).mine spot) { cycles = s.mine.cycles + 1 })) (sym here),
        )

    settled_pending : (spot : Spot) (number : ℕ)
        (is : IsPending r pair static_few m alike channel (view s).mine spot number)
        → (count : spot.cycle ≡ number % 64) → t ≡ spot → number + 1 ≡ n
        → abs r pair static_few m alike channel (view s).mine t n j.stage ≡ number
        → JointOf channel (view (settle s None)) t u n
        × ((view (settle s None)).mine ≡ at_spot (view (settle s None)).mine t)
    settled_pending spot number is count here last mine = by is.opens_by
      where
        cycles : s.mine.cycles ≡ number
        cycles = is.cycles_are

        b : Bounds r pair static_few m alike (view s).other n
            (abs r pair static_few m alike (other_channel channel) (view s).other u n j.aside)
        b = bounds r pair static_few m alike (other_channel channel) (view s).other u n some j.aside

        heard : IsHeardOf (view s).other is.held.at.number
        heard =
            let near = b.near in
            heard_of (view s).other is.held.at.number s.mine.cycles
            (abs r pair static_few m alike (other_channel channel) (view s).other u n j.aside) j.alone_aside
            (omega (arith, cycles, last, near))

        agrees : (x : Due) → due_at r.cluster is.held.frame.id channel is.held.frame.cycle ≡ Some x
            → AgreesBeside (view s).other s.shown (other_channel channel) x is.held.frame
        agrees x due =
            let low = b.low in
            let high = b.high in
            let near = b.near in
            let before = b.before in
            agrees_beside r.cluster static_few m alike channel (view s).other s.shown number is.held.frame x
            j.counts_aside j.shown_aside is.count_is is.here due (omega (arith, last, near, low))
            (omega (arith, last, before, high))

        by : Pending r pair static_few m alike channel (view s).mine is.held
            → JointOf channel (view (settle s None)) t u n
            × ((view (settle s None)).mine ≡ at_spot (view (settle s None)).mine t)
        by (inl first) = opened_joint spot number (view (settle s None)) is count here last mine
            (settle_begun r channel pair s is.held None j.clean is.held_is first.0 first.1 first.2 refl
            (agrees first.2.allowed.due first.2.allowed.due_is) heard)
        by (inr next) = opened_joint spot number (view (settle s None)) is count here last mine
            (settle_between r channel pair s is.held None (view s).mine next.0 j.clean next.1 next.2 next.3 refl
            (agrees next.3.first.allowed.due next.3.first.allowed.due_is) heard)

  -- a lane that had a frame in the last cycle, in which nothing waits
  pub record Ended (channel : Channel) (s : State) (t u : Spot) (n : ℕ) : Type 0 where
    pub joint : JointOf channel (view s) t u n
    pub lane_is : (view s).mine ≡ at_spot (view s).mine t

  pub settles : (channel : Channel) (s : State) (t u : Spot) (n : ℕ) → 1 ≤ n → n + 1 ≤ most_counted
      → (t ≡ cycle_start r.cluster.params t.cycle → ⊥) → (j : JointOf channel (view s) t u n)
      → Ended channel (settle s None) t u n
  settles channel s t u n some few_cycles not_start j = by j.stage refl
    where
      held_none : (l : LaneView) → l ≡ at_spot l t → l.held ≡ None
      held_none l e = ap (λ (x : LaneView). x.held) e

      settled_now : (spot : Spot) (number : ℕ) → IsSettled r pair static_few m alike (view s).mine spot number
          → t ≡ spot → Ended channel (settle s None) t u n
      settled_now spot number is here =
          let lane : (view s).mine ≡ at_spot (view s).mine t = is.lane_is ∙ ap (at_spot (view s).mine) (sym here) in
          let same : settle s None ≡ s = settle_none s None (ap (λ (x : LaneView). x.held) lane) in
          subst (λ (x : State). Ended channel x t u n) (sym same) (record { joint = j; lane_is = lane })

      cases : (x : HasSpoken r pair static_few m alike channel (view s).mine t n) → j.stage ≡ inr x
          → (IsSettled r pair static_few m alike (view s).mine x.spot x.number
          ⊎ IsPending r pair static_few m alike channel (view s).mine x.spot x.number)
          → (((t ≡ x.spot) × (x.number + 1 ≡ n))
          ⊎ ((x.number + 2 ≡ n) × IsOver r.cluster channel x.spot × (t ≡ cycle_start r.cluster.params t.cycle)
          × (t.cycle ≡ (x.spot.cycle + 1) % 64)))
          → Ended channel (settle s None) t u n
      cases x same judged (inr past) = absurd (not_start past.2)
      cases x same (inl settled) (inl here) = settled_now x.spot x.number settled here.0
      cases x same (inr pending) (inl here) = ended_by
          (settled_pending channel s t u n some few_cycles j x.spot x.number
          pending x.count_is here.0 here.1 (ap (abs r pair static_few m alike channel (view s).mine t n) same))
        where
          ended_by : JointOf channel (view (settle s None)) t u n
              × ((view (settle s None)).mine ≡ at_spot (view (settle s None)).mine t)
              → Ended channel (settle s None) t u n
          ended_by done = record { joint = done.0; lane_is = done.1 }

      by : (x : Stage r pair static_few m alike channel (view s).mine t n) → j.stage ≡ x
          → Ended channel (settle s None) t u n
      by (inl silent) same = absurd (not_start silent.start)
      by (inr x) same = cases x same x.judged x.place

  -- the end has no finding
  pub ends_quiet : (channel : Channel) (s : State) (t u : Spot) (n : ℕ) → Ended channel s t u n
      → IsOver r.cluster channel t → tell_end s ≡ s
  unfolding tell_end
  ends_quiet channel s t u n is over =
      ap tell_nothing (either_same s.rules.whole (end_cycle s None) s
      (over_same r channel s is.joint.clean None (view s).mine t is.lane_is over))
      ∙ nothing_told s (ap (λ (l : LaneView). l.heard) is.lane_is)
    where
      either_same : (b : Bool) (x y : State) → x ≡ y → cond b x y ≡ y
      either_same true x y e = e
      either_same false x y e = refl

      nothing_told : (x : State) → x.mine.heard ≡ true → tell_nothing x ≡ x
      nothing_told x e = nothing_none x e
