-- Frame by frame: what a channel keeps of times is on the schedule, so that each further frame is in time.
use Rattle.std.proofs.Common.{◌≡◌, ℕ, ℤ, pos, ◌+◌, ◌%◌, ◌<◌, ◌≤◌, Bool, true, false, cond, List, [], ◌∷◌, Option, Some}
use Rattle.std.proofs.Common.{None, refl, sym, ap, subst, ◌∙◌, arith, ◌⊎◌, inl, inr}
use Rattle.std.proofs.lemmas.Bool.{cond-true, cond-false, eq-eqb, ne_eqb}
use Rattle.std.specs.Prelude.{◌-ℤ◌, nat_le, nat_lt, ◌==◌}
use Rattle.fr_frame.specs.Fields.{Fields}
use Rattle.fr_hearing.proofs.CountLemmas.{opens_same, opens_first, opens_next, one_step, not_same}
use Rattle.fr_hearing.proofs.punctual.CalmLemmas.{Hand, hand, Watch, watch}
use Rattle.fr_hearing.proofs.punctual.StepLemmas.{Leads, MayLead, fixed_next, off, IsInStep, opened_watch, free_watch}
use Rattle.fr_hearing.proofs.punctual.StepLemmas.{came_watch, held_watch, settle_leads, settle_still, place_other}
use Rattle.fr_hearing.proofs.punctual.StepLemmas.{place_same}
use Rattle.fr_hearing.proofs.punctual.TimeLemmas.{in_cycle, soon, in_time, in_step}
use Rattle.fr_hearing.proofs.StepLemmas.{good_is}
use Rattle.fr_hearing.specs.Schedule.{Timeline, IsTimeline, slot_begins, AreNear, IsTimely, IsTimelyAs, Timed}
use Rattle.fr_hearing.specs.Schedule.{IsPunctual, IsAfter, Continue, ArePunctual}
use Rattle.fr_hearing.specs.Untimed.{untimed}
use Rattle.fr_judging.specs.declared.distance.Distance.{Distance}
use Rattle.fr_judging.specs.declared.lane.Fixed.{Fixed}
use Rattle.fr_judging.specs.declared.lane.Held.{Held}
use Rattle.fr_judging.specs.declared.lane.Next.{Next}
use Rattle.fr_judging.specs.declared.line.At.{At}
use Rattle.fr_judging.specs.declared.rules.Rules.{Rules}
use Rattle.fr_judging.specs.Distances.{by_times, by_counts, steps_from, distance_by, time_between, anew_by, is_long}
use Rattle.fr_judging.specs.Distances.{time_from, time_by, fixed_at}
use Rattle.fr_judging.specs.Judging.{State, settle, place_frame, speak, good, next_of}
use Rattle.fr_judging.specs.Lanes.{opens, same_open}
use Rattle.fr_judging.specs.Rules.{slot_time, cycle_time}
use Rattle.fr_slots.specs.Parameters.{Parameters, IsParameters}

-- ---- a step of the judgement

-- The second state follows from one that is watched so, and the first one from the same without times. The lane of its
-- channel has the property, and nothing else changed.
pub record Keeps (P : Hand → Type 0) (w : Watch) (u v : State) : Type 0 where
  pub same : u ≡ untimed v
  pub rules_are : v.rules ≡ w.rules
  pub channel_is : v.channel ≡ w.channel
  pub other_is : hand v.other ≡ w.other
  pub mine_is : P (hand v.mine)

-- the two watches differ in the lane of the channel alone
pub record Beside (w x : Watch) : Type 0 where
  pub rules_are : x.rules ≡ w.rules
  pub channel_is : x.channel ≡ w.channel
  pub other_is : x.other ≡ w.other

pub from_leads : (P : Hand → Type 0) (w x : Watch) (u v : State) → Leads u v x → Beside w x → P x.mine → Keeps P w u v
from_leads P w x u v leads beside mine = record {
  same = leads.same;
  rules_are = ap (λ (y : Watch). y.rules) leads.seen ∙ beside.rules_are;
  channel_is = ap (λ (y : Watch). y.channel) leads.seen ∙ beside.channel_is;
  other_is = ap (λ (y : Watch). y.other) leads.seen ∙ beside.other_is;
  mine_is = subst P (sym (ap (λ (y : Watch). y.mine) leads.seen)) mine;
}

pub keeps_then : (P Q : Hand → Type 0) (w : Watch) (u v : State) (step : State → State) → Keeps P w u v
    → Keeps Q (watch v) (step (untimed v)) (step v) → Keeps Q w (step u) (step v)
keeps_then P Q w u v step a b = record {
  same = ap step a.same ∙ b.same;
  rules_are = b.rules_are ∙ a.rules_are;
  channel_is = b.channel_is ∙ a.channel_is;
  other_is = b.other_is ∙ a.other_is;
  mine_is = b.mine_is;
}

-- a good frame is heard, confirms the one that waits, and is placed
good_keeps : (P : Hand → Type 0) (s : State) (f : Fields) (at : At)
    → Keeps P (watch s) (place_frame (settle (untimed (speak s at)) (Some (next_of f))) f at)
    (place_frame (settle (speak s at) (Some (next_of f))) f at)
    → Keeps P (watch s) (good (untimed s) f at) (good s f at)
good_keeps P s f at k =
    subst (λ (v : State). Keeps P (watch s) v (good s f at)) (sym (good_is (untimed s) f at))
    (subst (λ (v : State). Keeps P (watch s)
    (place_frame (settle (untimed (speak s at)) (Some (next_of f))) f at) v) (sym (good_is s f at)) k)

-- ---- what a lane keeps of times

module _ (r : Rules) (starts : ℕ → ℕ) (slack drift : ℕ) where
  abbrev pub line : Timeline
  line = record { macrotick = r.macrotick; starts = starts; slack = slack; drift = drift }

  abbrev pub params : Parameters
  params = r.cluster.params

  -- the first frame of a cycle of the run came in time
  pub record Began (cycle : ℕ) (began : Option ℤ) (first : ℕ) : Type 0 where
    pub time : ℕ
    pub began_is : began ≡ Some (pos time)
    pub from_one : 1 ≤ first
    pub timely : IsTimely params line cycle first time

  -- so did a static frame of the cycle, up to the last one
  pub record Refers (x : Timed) (f : Fixed) : Type 0 where
    pub time : ℕ
    pub time_is : f.time ≡ pos time
    pub from_one : 1 ≤ f.slot
    pub static : nat_le f.slot params.static_slots ≡ true
    pub so_far : f.slot ≤ x.frame.id
    pub near : AreNear slack time (slot_begins params line x.cycle f.slot)

  abbrev pub MayRefer : Timed → Option Fixed → Type 0
  MayRefer x None = Unit {0}
  MayRefer x (Some f) = Refers x f

  -- the cycle of the last frame is open
  pub record IsOpen (x : Timed) (h : Hand) : Type 0 where
    pub none_held : h.held ≡ None
    pub current_is : h.current ≡ Some (x.cycle % 64)
    pub begun : Began x.cycle h.began h.first
    pub reference : MayRefer x h.fixed

  -- no cycle is open, or the one before
  pub record IsShut (h : Hand) : Type 0 where
    pub none_open : h.current ≡ None
    pub none_begun : h.began ≡ None

  pub record IsBehind (x : Timed) (h : Hand) : Type 0 where
    pub cycle : ℕ
    pub next : x.cycle ≡ cycle + 1
    pub current_is : h.current ≡ Some (cycle % 64)
    pub begun : Began cycle h.began h.first

  -- the last frame waits
  pub record Waits (x : Timed) (h : Hand) : Type 0 where
    pub held : Held
    pub held_is : h.held ≡ Some held
    pub frame_is : held.frame ≡ x.frame
    pub time_is : held.at.time ≡ Some (pos x.time)
    pub before : IsShut h ⊎ IsBehind x h

  pub record IsFresh (h : Hand) : Type 0 where
    pub none_held : h.held ≡ None
    pub shut : IsShut h

  abbrev pub IsAt : Timed → Hand → Type 0
  IsAt x h = IsOpen x h ⊎ Waits x h

  -- before these frames
  abbrev pub Stands : List Timed → Hand → Type 0
  Stands xs h =
      (IsFresh h × ArePunctual params line xs)
      ⊎ ((x : Timed) × IsPunctual params line x × IsAt x h × Continue params line x xs)

  module _ (lawful : IsParameters params) (is : IsTimeline params line) where
    -- ---- the frame that waits

    -- the numbers of the distance
    step_by : (c a b from to : ℕ) (x y : Bool) → nat_lt params.static_slots a ≡ x → nat_lt params.static_slots b ≡ y
        → 1 ≤ a → 1 ≤ b → IsTimely params line c a from → IsTimely params line (c + 1) b to
        → by_times r 1 a b (Some (pos from)) (Some (pos to)) ≡ by_counts 1
    step_by c a b from to x y at_a at_b some_a some_b in_a in_b = by (r.macrotick == 0) x y at_a at_b
      where
        far : Distance
        far = distance_by (cycle_time r) 1 (time_between (slot_time r) a b (pos from) (pos to))

        static : (n : ℕ) → nat_lt params.static_slots n ≡ false → nat_le n params.static_slots ≡ true
        static n e = grind (arith)

        near : (cycle n time : ℕ) → nat_lt params.static_slots n ≡ false → IsTimely params line cycle n time
            → AreNear slack time (slot_begins params line cycle n)
        near cycle n time e timely = subst (IsTimelyAs params line cycle n time) (static n e) timely

        by : (z x y : Bool) → nat_lt params.static_slots a ≡ x → nat_lt params.static_slots b ≡ y
            → cond z (by_counts 1) (cond (nat_lt params.static_slots a) (by_counts 1)
            (cond (nat_lt params.static_slots b) (by_counts 1) far)) ≡ by_counts 1
        by true x y e g = refl
        by false true y e g = cond-true (nat_lt params.static_slots a) (by_counts 1)
            (cond (nat_lt params.static_slots b) (by_counts 1) far) e
        by false false true e g =
            cond-false (nat_lt params.static_slots a) (by_counts 1)
            (cond (nat_lt params.static_slots b) (by_counts 1) far) e
            ∙ cond-true (nat_lt params.static_slots b) (by_counts 1) far g
        by false false false e g =
            cond-false (nat_lt params.static_slots a) (by_counts 1)
            (cond (nat_lt params.static_slots b) (by_counts 1) far) e
            ∙ cond-false (nat_lt params.static_slots b) (by_counts 1) far g
            ∙ in_step params line lawful is c a b from to some_a some_b (near c a from e in_a)
            (near (c + 1) b to g in_b)

    -- the frame is in step with the open cycle
    waits_step : (x : Timed) (h : Hand) → IsPunctual params line x → (IsShut h ⊎ IsBehind x h)
        → by_times r (steps_from h.current x.frame.cycle) h.first x.frame.id h.began (Some (pos x.time))
        ≡ by_counts (steps_from h.current x.frame.cycle)
    waits_step x h punctual (inl shut) =
        ap (λ (o : Option ℤ). by_times r (steps_from h.current x.frame.cycle) h.first x.frame.id o
        (Some (pos x.time))) shut.none_begun
    waits_step x h punctual (inr behind) =
        let count = punctual.count_is in
        let next = behind.next in
        let one : steps_from h.current x.frame.cycle ≡ 1 =
        ap (λ (o : Option ℕ). steps_from o x.frame.cycle) behind.current_is
        ∙ one_step (behind.cycle % 64) x.frame.cycle (omega arith) (omega (arith, count, next)) in
        ap (λ (n : ℕ). by_times r n h.first x.frame.id h.began (Some (pos x.time))) one
        ∙ ap (λ (o : Option ℤ). by_times r 1 h.first x.frame.id o (Some (pos x.time))) behind.begun.began_is
        ∙ step_by behind.cycle h.first x.frame.id behind.begun.time x.time
        (nat_lt params.static_slots h.first) (nat_lt params.static_slots x.frame.id) refl refl
        behind.begun.from_one punctual.from_one behind.begun.timely
        (subst (λ (n : ℕ). IsTimely params line n x.frame.id x.time) behind.next punctual.timely)
        ∙ ap by_counts (sym one)

    -- the reference after a frame in time
    refers_next : (x : Timed) (fixed : Option Fixed) → IsPunctual params line x → MayRefer x fixed
        → MayRefer x (fixed_next r fixed x.frame.id (Some (pos x.time)))
    refers_next x fixed punctual before = by (nat_le x.frame.id params.static_slots) (r.macrotick == 0) refl
      where
        by : (b z : Bool) → nat_le x.frame.id params.static_slots ≡ b
            → MayRefer x (cond b (cond z fixed (fixed_at x.frame.id (Some (pos x.time)))) fixed)
        by false z e = before
        by true true e = before
        by true false e = record {
          time = x.time;
          time_is = refl;
          from_one = punctual.from_one;
          static = e;
          so_far = omega arith;
          near = subst (IsTimelyAs params line x.cycle x.frame.id x.time) e punctual.timely;
        }

    opened : (x : Timed) (w : Watch) (f : Fields) (at : At) → w.rules ≡ r → IsPunctual params line x
        → f ≡ x.frame → at.time ≡ Some (pos x.time) → IsOpen x (opened_watch (free_watch w) f at).mine
    opened x w f at rules_are punctual frame_is time_is = record {
      none_held = refl;
      current_is = ap (λ (g : Fields). Some g.cycle) frame_is ∙ ap (λ (n : ℕ). Some n) punctual.count_is;
      begun = record {
        time = x.time;
        began_is = time_is;
        from_one = subst (λ (g : Fields). 1 ≤ g.id) (sym frame_is) punctual.from_one;
        timely = subst (λ (g : Fields). IsTimely params line x.cycle g.id x.time) (sym frame_is) punctual.timely;
      };
      reference = subst (MayRefer x) (sym (ap (λ (q : Rules). fixed_next q None f.id at.time) rules_are
          ∙ ap (λ (g : Fields). fixed_next r None g.id at.time) frame_is
          ∙ ap (λ (o : Option ℤ). fixed_next r None x.frame.id o) time_is))
          (refers_next x None punctual tt);
    }

    -- the waiting frame opens its cycle
    pub settled : (x : Timed) (s : State) (next : Option Next) → s.rules ≡ r → IsPunctual params line x
        → (w : Waits x (hand s.mine)) → opens s.mine.current (next_of x.frame) next ≡ true
        → Keeps (IsOpen x) (watch s) (settle (untimed s) next) (settle s next)
    settled x s next rules_are punctual w opening =
        let h : Held = w.held in
        from_leads (IsOpen x) (watch s) (opened_watch (free_watch (watch s)) w.held.frame w.held.at)
        (settle (untimed s) next) (settle s next)
        (settle_leads s next w.held w.held_is
        (ap (λ (f : Fields). opens s.mine.current (next_of f) next) w.frame_is ∙ opening)
        (step w.held w.frame_is w.time_is))
        (record { rules_are = refl; channel_is = refl; other_is = refl })
        (opened x (watch s) w.held.frame w.held.at rules_are punctual w.frame_is w.time_is)
      where
        step : (h : Held) → h.frame ≡ x.frame → h.at.time ≡ Some (pos x.time) → IsInStep (watch s) h.frame h.at.time
        step h frame_is time_is =
            subst (λ (f : Fields). IsInStep (watch s) f h.at.time) (sym frame_is)
            (subst (IsInStep (watch s) x.frame) (sym time_is)
            (subst (λ (q : Rules). by_times q (steps_from s.mine.current x.frame.cycle) s.mine.first x.frame.id
            s.mine.began (Some (pos x.time)) ≡ by_counts (steps_from s.mine.current x.frame.cycle))
            (sym rules_are) (waits_step x (hand s.mine) punctual w.before)))

    pub settled_open : (x : Timed) (s : State) (next : Option Next) → IsOpen x (hand s.mine)
        → Keeps (IsOpen x) (watch s) (settle (untimed s) next) (settle s next)
    settled_open x s next o =
        from_leads (IsOpen x) (watch s) (watch s) (settle (untimed s) next) (settle s next)
        (settle_still s next o.none_held) (record { rules_are = refl; channel_is = refl; other_is = refl }) o

    -- the next frame confirms that the waiting one opens its cycle
    confirms : (x y : Timed) (h : Hand) → IsPunctual params line x → IsPunctual params line y → IsAfter x y
        → Waits x h → opens h.current (next_of x.frame) (Some (next_of y.frame)) ≡ true
    confirms x y h punctual_x punctual_y (inl further) w =
        opens_same h.current x.frame y.frame
        (punctual_y.count_is ∙ ap (λ (n : ℕ). n % 64) further.0 ∙ sym punctual_x.count_is) further.1
    confirms x y h punctual_x punctual_y (inr next) w =
        let count_x = punctual_x.count_is in
        let count_y = punctual_y.count_is in
        let fits : x.frame.cycle < 64 = omega (arith, count_x) in
        let then : y.frame.cycle ≡ (x.frame.cycle + 1) % 64 = omega (arith, count_x, count_y, next) in
        by fits then w.before
      where
        by : x.frame.cycle < 64 → y.frame.cycle ≡ (x.frame.cycle + 1) % 64 → (IsShut h ⊎ IsBehind x h)
            → opens h.current (next_of x.frame) (Some (next_of y.frame)) ≡ true
        by fits then (inl shut) =
            ap (λ (o : Option ℕ). opens o (next_of x.frame) (Some (next_of y.frame))) shut.none_open
            ∙ opens_first x.frame y.frame fits then
        by fits then (inr behind) =
            let count_x = punctual_x.count_is in
            let after = behind.next in
            ap (λ (o : Option ℕ). opens o (next_of x.frame) (Some (next_of y.frame))) behind.current_is
            ∙ opens_next (behind.cycle % 64) x.frame y.frame (omega arith) (omega (arith, count_x, after)) then

    -- ---- a frame after the last one

    refers_more : (x y : Timed) (fixed : Option Fixed) → y.cycle ≡ x.cycle → x.frame.id < y.frame.id
        → MayRefer x fixed → MayRefer y fixed
    refers_more x y None same later before = tt
    refers_more x y (Some f) same later before = record {
      time = before.time;
      time_is = before.time_is;
      from_one = before.from_one;
      static = before.static;
      so_far = (let few = before.so_far in omega (arith, few, later));
      near = subst (λ (n : ℕ). AreNear slack before.time (slot_begins params line n f.slot)) (sym same) before.near;
    }

    still_open : (x y : Timed) (h : Hand) → y.cycle ≡ x.cycle → x.frame.id < y.frame.id → IsOpen x h → IsOpen y h
    still_open x y h same later o = record {
      none_held = o.none_held;
      current_is = o.current_is ∙ ap (λ (n : ℕ). Some (n % 64)) (sym same);
      begun = subst (λ (n : ℕ). Began n h.began h.first) (sym same) o.begun;
      reference = refers_more x y h.fixed same later o.reference;
    }

    -- it is in time after the reference
    off_none : (y : Timed) (fixed : Option Fixed) → IsPunctual params line y → MayRefer y fixed
        → nat_le y.frame.id params.static_slots ≡ true → off r fixed y.frame.id (Some (pos y.time)) ≡ None
    off_none y fixed punctual refers static = by (r.macrotick == 0) fixed refers
      where
        near_y : AreNear slack y.time (slot_begins params line y.cycle y.frame.id)
        near_y = subst (IsTimelyAs params line y.cycle y.frame.id y.time) static punctual.timely

        by : (z : Bool) (o : Option Fixed) → MayRefer y o
            → cond z None (time_from (slot_time r) o y.frame.id (Some (pos y.time))) ≡ None
        by true o before = refl
        by false None before = refl
        by false (Some f) before =
            ap (λ (time : ℤ). time_by (slot_time r) (record { slot = f.slot; time = time }) y.frame.id (pos y.time))
            before.time_is
            ∙ in_time params line lawful is y.cycle f.slot y.frame.id before.time y.time before.from_one
            before.so_far before.near near_y

    anew_none : (x y : Timed) (began : Option ℤ) (first : ℕ) → IsPunctual params line y → y.cycle ≡ x.cycle
        → Began x.cycle began first → anew_by r began (Some (pos y.time)) ≡ false
    anew_none x y began first punctual same begun =
        ap (λ (o : Option ℤ). anew_by r o (Some (pos y.time))) begun.began_is ∙ by (r.macrotick == 0)
      where
        within : is_long (cycle_time r) (pos y.time -ℤ pos begun.time) ≡ false
        within = soon params line lawful is x.cycle begun.time y.time
            (in_cycle params line lawful is x.cycle first begun.time begun.timely)
            (in_cycle params line lawful is x.cycle y.frame.id y.time
            (subst (λ (n : ℕ). IsTimely params line n y.frame.id y.time) same punctual.timely))

        by : (z : Bool) → cond z false (is_long (cycle_time r) (pos y.time -ℤ pos begun.time)) ≡ false
        by true = refl
        by false = within

    -- a further frame of the open cycle
    place_further : (x y : Timed) (s : State) (at : At) → s.rules ≡ r → at.time ≡ Some (pos y.time)
        → IsPunctual params line y → y.cycle ≡ x.cycle → x.frame.id < y.frame.id → IsOpen x (hand s.mine)
        → Keeps (IsAt y) (watch s) (place_frame (untimed s) y.frame at) (place_frame s y.frame at)
    place_further x y s at rules_are time_is punctual same later o =
        let here : same_open s.mine.current (Some y.frame.cycle) ≡ true =
        ap (λ (c : Option ℕ). same_open c (Some y.frame.cycle)) o.current_is
        ∙ eq-eqb (x.cycle % 64) y.frame.cycle (ap (λ (n : ℕ). n % 64) (sym same) ∙ sym punctual.count_is) in
        let open_y : IsOpen y (hand s.mine) = still_open x y (hand s.mine) same later o in
        let soon_is : anew_by s.rules s.mine.began at.time ≡ false =
        ap (λ (q : Rules). anew_by q s.mine.began at.time) rules_are
        ∙ ap (anew_by r s.mine.began) time_is
        ∙ anew_none x y s.mine.began s.mine.first punctual same o.begun in
        let c : MayLead (place_frame (untimed s) y.frame at) (place_frame s y.frame at) (watch s)
        (came_watch (watch s) y.frame at) =
        place_same s y.frame at here soon_is
        (λ static. ap (λ (q : Rules). off q s.mine.fixed y.frame.id at.time) rules_are
        ∙ ap (off r s.mine.fixed y.frame.id) time_is
        ∙ off_none y s.mine.fixed punctual open_y.reference
        (ap (λ (q : Rules). nat_le y.frame.id q.cluster.params.static_slots) (sym rules_are) ∙ static)) in
        by c.same c.seen open_y
      where
        fixed_is : fixed_next s.rules s.mine.fixed y.frame.id at.time
            ≡ fixed_next r s.mine.fixed y.frame.id (Some (pos y.time))
        fixed_is = ap (λ (q : Rules). fixed_next q s.mine.fixed y.frame.id at.time) rules_are
            ∙ ap (fixed_next r s.mine.fixed y.frame.id) time_is

        by : place_frame (untimed s) y.frame at ≡ untimed (place_frame s y.frame at)
            → ((watch (place_frame s y.frame at) ≡ watch s)
            ⊎ (watch (place_frame s y.frame at) ≡ came_watch (watch s) y.frame at)) → IsOpen y (hand s.mine)
            → Keeps (IsAt y) (watch s) (place_frame (untimed s) y.frame at) (place_frame s y.frame at)
        by e (inl still) open_y =
            from_leads (IsAt y) (watch s) (watch s) (place_frame (untimed s) y.frame at) (place_frame s y.frame at)
            (record { same = e; seen = still }) (record { rules_are = refl; channel_is = refl; other_is = refl })
            (inl open_y)
        by e (inr came) open_y =
            from_leads (IsAt y) (watch s) (came_watch (watch s) y.frame at) (place_frame (untimed s) y.frame at)
            (place_frame s y.frame at) (record { same = e; seen = came })
            (record { rules_are = refl; channel_is = refl; other_is = refl })
            (inl (record {
              none_held = open_y.none_held;
              current_is = open_y.current_is;
              begun = open_y.begun;
              reference = subst (MayRefer y) (sym fixed_is)
                  (refers_next y s.mine.fixed punctual open_y.reference);
            }))

    -- the first frame of the next cycle
    place_next : (x y : Timed) (s : State) (at : At) → at.time ≡ Some (pos y.time) → IsPunctual params line y
        → y.cycle ≡ x.cycle + 1 → IsOpen x (hand s.mine)
        → Keeps (IsAt y) (watch s) (place_frame (untimed s) y.frame at) (place_frame s y.frame at)
    place_next x y s at time_is punctual next o =
        let count = punctual.count_is in
        let other : same_open s.mine.current (Some y.frame.cycle) ≡ false =
        ap (λ (c : Option ℕ). same_open c (Some y.frame.cycle)) o.current_is
        ∙ ne_eqb (x.cycle % 64) y.frame.cycle (not_same (x.cycle % 64) y.frame.cycle (omega arith)
        (omega (arith, count, next))) in
        from_leads (IsAt y) (watch s) (held_watch (watch s) y.frame at) (place_frame (untimed s) y.frame at)
        (place_frame s y.frame at) (place_other s y.frame at other)
        (record { rules_are = refl; channel_is = refl; other_is = refl })
        (inr (record {
          held = record { at = at; frame = y.frame };
          held_is = refl;
          frame_is = refl;
          time_is = time_is;
          before = inr (record { cycle = x.cycle; next = next; current_is = o.current_is; begun = o.begun });
        }))

    placed : (x y : Timed) (s : State) (at : At) → s.rules ≡ r → at.time ≡ Some (pos y.time)
        → IsPunctual params line y → IsAfter x y → IsOpen x (hand s.mine)
        → Keeps (IsAt y) (watch s) (place_frame (untimed s) y.frame at) (place_frame s y.frame at)
    placed x y s at rules_are time_is punctual (inl further) o =
        place_further x y s at rules_are time_is punctual further.0 further.1 o
    placed x y s at rules_are time_is punctual (inr next) o = place_next x y s at time_is punctual next o

    -- the first frame of all
    placed_first : (y : Timed) (s : State) (at : At) → at.time ≡ Some (pos y.time) → IsFresh (hand s.mine)
        → Keeps (IsAt y) (watch s) (place_frame (untimed s) y.frame at) (place_frame s y.frame at)
    placed_first y s at time_is fresh =
        let other : same_open s.mine.current (Some y.frame.cycle) ≡ false =
        ap (λ (c : Option ℕ). same_open c (Some y.frame.cycle)) fresh.shut.none_open in
        from_leads (IsAt y) (watch s) (held_watch (watch s) y.frame at) (place_frame (untimed s) y.frame at)
        (place_frame s y.frame at) (place_other s y.frame at other)
        (record { rules_are = refl; channel_is = refl; other_is = refl })
        (inr (record {
          held = record { at = at; frame = y.frame };
          held_is = refl;
          frame_is = refl;
          time_is = time_is;
          before = inl (record { none_open = fresh.shut.none_open; none_begun = fresh.shut.none_begun });
        }))

    -- ---- each frame

    settled_at : (x y : Timed) (s : State) → s.rules ≡ r → IsPunctual params line x → IsPunctual params line y
        → IsAfter x y → IsAt x (hand s.mine)
        → Keeps (IsOpen x) (watch s) (settle (untimed s) (Some (next_of y.frame)))
        (settle s (Some (next_of y.frame)))
    settled_at x y s rules_are punctual_x punctual_y after (inl o) = settled_open x s (Some (next_of y.frame)) o
    settled_at x y s rules_are punctual_x punctual_y after (inr w) =
        settled x s (Some (next_of y.frame)) rules_are punctual_x w
        (confirms x y (hand s.mine) punctual_x punctual_y after w)

    good_after : (x y : Timed) (s : State) (at : At) → s.rules ≡ r → at.time ≡ Some (pos y.time)
        → IsPunctual params line x → IsPunctual params line y → IsAfter x y → IsAt x (hand s.mine)
        → Keeps (IsAt y) (watch s) (good (untimed s) y.frame at) (good s y.frame at)
    good_after x y s at rules_are time_is punctual_x punctual_y after here =
        let t : State = speak s at in
        let a : Keeps (IsOpen x) (watch s) (settle (untimed (speak s at)) (Some (next_of y.frame)))
        (settle (speak s at) (Some (next_of y.frame))) =
        settled_at x y (speak s at) rules_are punctual_x punctual_y after here in
        let u : State = settle (speak s at) (Some (next_of y.frame)) in
        let b : Keeps (IsAt y) (watch s)
        (place_frame (settle (untimed (speak s at)) (Some (next_of y.frame))) y.frame at)
        (place_frame (settle (speak s at) (Some (next_of y.frame))) y.frame at) =
        keeps_then (IsOpen x) (IsAt y) (watch s) (settle (untimed (speak s at)) (Some (next_of y.frame)))
        (settle (speak s at) (Some (next_of y.frame))) (λ (v : State). place_frame v y.frame at) a
        (placed x y (settle (speak s at) (Some (next_of y.frame))) at (a.rules_are ∙ rules_are) time_is punctual_y after
        a.mine_is) in
        good_keeps (IsAt y) s y.frame at b

    good_first : (y : Timed) (s : State) (at : At) → at.time ≡ Some (pos y.time) → IsFresh (hand s.mine)
        → Keeps (IsAt y) (watch s) (good (untimed s) y.frame at) (good s y.frame at)
    good_first y s at time_is fresh =
        let t : State = speak s at in
        let a : Keeps IsFresh (watch s) (settle (untimed (speak s at)) (Some (next_of y.frame)))
        (settle (speak s at) (Some (next_of y.frame))) =
        from_leads IsFresh (watch s) (watch s) (settle (untimed (speak s at)) (Some (next_of y.frame)))
        (settle (speak s at) (Some (next_of y.frame)))
        (settle_still (speak s at) (Some (next_of y.frame)) fresh.none_held)
        (record { rules_are = refl; channel_is = refl; other_is = refl }) fresh in
        good_keeps (IsAt y) s y.frame at
        (keeps_then IsFresh (IsAt y) (watch s) (settle (untimed (speak s at)) (Some (next_of y.frame)))
        (settle (speak s at) (Some (next_of y.frame))) (λ (v : State). place_frame v y.frame at) a
        (placed_first y (settle (speak s at) (Some (next_of y.frame))) at time_is a.mine_is))

    stands : (x : Timed) (rest : List Timed) (s u v : State) → IsPunctual params line x → Continue params line x rest
        → Keeps (IsAt x) (watch s) u v → Keeps (Stands rest) (watch s) u v
    stands x rest s u v punctual more k = record {
      same = k.same;
      rules_are = k.rules_are;
      channel_is = k.channel_is;
      other_is = k.other_is;
      mine_is = inr (x, punctual, k.mine_is, more);
    }

    forget : (x : Timed) (s : State) → Keeps (IsOpen x) (watch s) (settle (untimed s) None) (settle s None)
        → Keeps (λ (h : Hand). Unit {0}) (watch s) (settle (untimed s) None) (settle s None)
    forget x s k = record {
      same = k.same;
      rules_are = k.rules_are;
      channel_is = k.channel_is;
      other_is = k.other_is;
      mine_is = tt;
    }

    -- the next frame
    pub good_at : (x : Timed) (rest : List Timed) (s : State) (at : At) → s.rules ≡ r → at.time ≡ Some (pos x.time)
        → Stands (x ∷ rest) (hand s.mine)
        → Keeps (Stands rest) (watch s) (good (untimed s) x.frame at) (good s x.frame at)
    good_at x rest s at rules_are time_is (inl fresh) =
        stands x rest s (good (untimed s) x.frame at) (good s x.frame at) fresh.1.0 fresh.1.1
        (good_first x s at time_is fresh.0)
    good_at x rest s at rules_are time_is (inr here) =
        stands x rest s (good (untimed s) x.frame at) (good s x.frame at) here.3.1 here.3.2
        (good_after here.0 x s at rules_are time_is here.1 here.3.1 here.3.0 here.2)

    -- the end of the channel
    pub settled_end : (s : State) → s.rules ≡ r → Stands [] (hand s.mine)
        → Keeps (λ (h : Hand). Unit {0}) (watch s) (settle (untimed s) None) (settle s None)
    settled_end s rules_are (inl fresh) =
        from_leads (λ (h : Hand). Unit {0}) (watch s) (watch s) (settle (untimed s) None) (settle s None)
        (settle_still s None fresh.0.none_held) (record { rules_are = refl; channel_is = refl; other_is = refl }) tt
    settled_end s rules_are (inr here) = by here.2
      where
        by : IsAt here.0 (hand s.mine)
            → Keeps (λ (h : Hand). Unit {0}) (watch s) (settle (untimed s) None) (settle s None)
        by (inl o) = forget here.0 s (settled_open here.0 s None o)
        by (inr w) = forget here.0 s (settled here.0 s None rules_are here.1 w refl)
