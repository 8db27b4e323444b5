-- The steps of the judgement that look at times, where the times are right: they do the same without times.
use Rattle.std.proofs.Common.{◌≡◌, ℕ, ◌-◌, ◌/◌, Bool, true, false, cond, length, refl, sym, ap, subst, ◌∙◌, ◌⊎◌, inl}
use Rattle.std.proofs.Common.{inr}
use Rattle.std.proofs.lemmas.Bool.{cond-true, cond-false}
use Rattle.std.specs.Prelude.{Option, Some, None, ℤ, nat_le, ◌==◌}
use Rattle.std.specs.Option.{is_none, option_or}
use Rattle.fr_frame.specs.Fields.{Fields}
use Rattle.fr_hearing.proofs.punctual.CalmLemmas.{Watch, watch, IsCalm, calm_none, calm_if, calm_then, find_some_calm}
use Rattle.fr_hearing.proofs.punctual.CalmLemmas.{before_calm, end_calm, back_calm, show_calm, keep_calm, leave_calm}
use Rattle.fr_hearing.proofs.punctual.CalmLemmas.{listen_calm, gap_calm, order_calm}
use Rattle.fr_hearing.specs.Untimed.{untimed, untimed_rules, untimed_lane}
use Rattle.fr_judging.specs.declared.distance.Distance.{Distance}
use Rattle.fr_judging.specs.declared.lane.Fixed.{Fixed}
use Rattle.fr_judging.specs.declared.lane.Held.{Held}
use Rattle.fr_judging.specs.declared.lane.Lane.{Lane}
use Rattle.fr_judging.specs.declared.lane.Next.{Next}
use Rattle.fr_judging.specs.declared.line.At.{At}
use Rattle.fr_judging.specs.declared.rules.Rules.{Rules}
use Rattle.fr_judging.specs.Distances.{by_times, by_counts, steps_from, is_anew, anew_by, time_finding, time_from}
use Rattle.fr_judging.specs.Distances.{fixed_at}
use Rattle.fr_judging.specs.Judging.{State, back, show, fix, keep_frame, static_came, static_found, static_with}
use Rattle.fr_judging.specs.Judging.{channels_finding, placed_finding, dynamic_came, came, skip_before, leave, listen}
use Rattle.fr_judging.specs.Judging.{tell_gap, enter, find_some, open_first, open_after, open_closed, open_next}
use Rattle.fr_judging.specs.Judging.{open_cycle, end_cycle, member, hold, place_frame, next_of, decide, wrong_count}
use Rattle.fr_judging.specs.Judging.{settle, settle_with, add_ill, speak}
use Rattle.fr_judging.specs.Lanes.{begun, opens, same_open, after_dynamic}
use Rattle.fr_judging.specs.Rules.{due_at, slot_time}
use Rattle.fr_judging.specs.Tallies.{long_counted, span_between}
use Rattle.fr_logged.specs.declared.due.Due.{Due}
use Rattle.fr_logged.specs.declared.finding.Finding.{Finding}
use Rattle.fr_logged.specs.declared.finding.Name.TheVariants as name
use Rattle.fr_logged.specs.Findings.{with_numbers}
use Rattle.fr_logged.specs.Logged.{place_of as frame_place}
use Rattle.fr_logged.specs.Rules.{static_finding, dynamic_finding}
use Rattle.fr_recording.specs.Numbers.{counted}

-- A step leads from a state to one that is watched so, and from the same without times to the first one.
pub record Leads (x y : State) (w : Watch) : Type 0 where
  pub same : x ≡ untimed y
  pub seen : watch y ≡ w

pub calm_leads : {s x y : State} → IsCalm s x y → Leads x y (watch s)
calm_leads c = record { same = c.same; seen = c.still }

pub leads_then : {x y : State} {w v : Watch} (step : State → State) → Leads x y w
    → (watch y ≡ w → Leads (step (untimed y)) (step y) v) → Leads (step x) (step y) v
leads_then step a b =
    let c = b a.seen in
    record { same = ap step a.same ∙ c.same; seen = c.seen }

-- ---- the reference of a channel

-- after a frame with the right time
abbrev pub fixed_by : Rules → Option Fixed → ℕ → Option ℤ → Option Fixed
fixed_by r fixed slot time = cond (r.macrotick == 0) fixed (fixed_at slot time)

abbrev pub fixed_next : Rules → Option Fixed → ℕ → Option ℤ → Option Fixed
fixed_next r fixed slot time = cond (nat_le slot r.cluster.params.static_slots) (fixed_by r fixed slot time) fixed

abbrev pub with_fixed : Watch → Option Fixed → Watch
with_fixed w fixed = record w { mine = record w.mine { fixed = fixed } }

abbrev pub came_watch : Watch → Fields → At → Watch
came_watch w f at = with_fixed w (fixed_next w.rules w.mine.fixed f.id at.time)

-- a static frame has its time
abbrev pub off : Rules → Option Fixed → ℕ → Option ℤ → Option Finding
off r fixed slot time = cond (r.macrotick == 0) None (time_from (slot_time r) fixed slot time)

abbrev pub IsInTime : Watch → Fields → Option ℤ → Type 0
IsInTime w f time = nat_le f.id w.rules.cluster.params.static_slots ≡ true → off w.rules w.mine.fixed f.id time ≡ None

-- ---- the frame of a slot

no_finding : (s : State) (f : Fields) (time : Option ℤ) (o : Option Finding)
    → off s.rules s.mine.fixed f.id time ≡ None → time_finding s.rules s.mine f.id time o ≡ None
no_finding s f time None fine = fine
no_finding s f time (Some x) fine = refl

channels_same : (s : State) (f : Fields) (d : Option Due)
    → channels_finding (untimed s) f d ≡ channels_finding s f d
unfolding channels_finding
channels_same s f None = refl
channels_same s f (Some d) = refl

placed_same : (s : State) (f : Fields) (d : Option Due) → placed_finding (untimed s) f d ≡ placed_finding s f d
unfolding placed_finding
placed_same s f None = refl
placed_same s f (Some d) = refl

fix_leads : (s : State) (f : Fields) (at : At) → Leads (fix (untimed s) f at None) (fix s f at None)
    (with_fixed (watch s) (fixed_by s.rules s.mine.fixed f.id at.time))
fix_leads s f at = record { same = refl; seen = refl }

static_leads : (s : State) (f : Fields) (at : At) (d : Option Due)
    → off s.rules s.mine.fixed f.id at.time ≡ None
    → Leads (static_came (untimed s) f at d) (static_came s f at d)
    (with_fixed (watch s) (fixed_by s.rules s.mine.fixed f.id at.time))
unfolding static_came
static_leads s f at d fine =
    let o : Option Finding = option_or (static_finding d f) (channels_finding s f d) in
    let t : State = show (back s f at d) f d in
    let shown : IsCalm s (show (back (untimed s) f at d) f d) t =
    calm_then (λ (u : State). show u f d) (back_calm s f at d) (show_calm (back s f at d) f d) in
    let w : Watch = with_fixed (watch s) (fixed_by s.rules s.mine.fixed f.id at.time) in
    let fixed_is : Leads (fix (show (back (untimed s) f at d) f d) f at None) (fix t f at None) w = record {
      same = ap (λ (u : State). fix u f at None) shown.same;
      seen = ap (λ (v : Watch). with_fixed v (fixed_by v.rules v.mine.fixed f.id at.time)) shown.still;
    } in
    let kept : IsCalm (fix t f at None) (keep_frame (untimed (fix t f at None)) f at (option_or o None))
    (keep_frame (fix t f at None) f at (option_or o None)) = keep_calm (fix t f at None) f at (option_or o None) in
    let plain : Leads (static_with (untimed s) f at d o None) (static_with s f at d o None) w = record {
      same = ap (λ (u : State). keep_frame u f at (option_or o None)) fixed_is.same ∙ kept.same;
      seen = kept.still ∙ fixed_is.seen;
    } in
    let timed_is : static_came s f at d ≡ static_with s f at d o None =
    ap (static_with s f at d o) (no_finding s f at.time o fine) in
    let untimed_is : static_came (untimed s) f at d ≡ static_with (untimed s) f at d o None =
    ap (λ (x : Option Finding). static_found (untimed s) f at d (option_or (static_finding d f) x))
    (channels_same s f d)
    ∙ ap (static_with (untimed s) f at d o) (no_finding (untimed s) f at.time o refl) in
    record {
      same = untimed_is ∙ plain.same ∙ ap untimed (sym timed_is);
      seen = ap watch timed_is ∙ plain.seen;
    }

dynamic_leads : (s : State) (f : Fields) (at : At) (d : Option Due)
    → Leads (dynamic_came (untimed s) f at d) (dynamic_came s f at d) (watch s)
unfolding dynamic_came
dynamic_leads s f at d =
    let t : State = record s { mine = after_dynamic s.rules.cluster.params s.mine f (length f.payload / 2) } in
    let o : Option Finding = option_or (dynamic_finding d f) (placed_finding s f d) in
    let kept : IsCalm t (keep_frame (untimed t) f at o) (keep_frame t f at o) = keep_calm t f at o in
    record {
      same = ap (λ (x : Option Finding). keep_frame (untimed t) f at (option_or (dynamic_finding d f) x))
          (placed_same s f d) ∙ kept.same;
      seen = kept.still;
    }

pub came_leads : (s : State) (f : Fields) (at : At) → IsInTime (watch s) f at.time
    → Leads (came (untimed s) f at) (came s f at) (came_watch (watch s) f at)
unfolding came
came_leads s f at fine = by (nat_le f.id s.rules.cluster.params.static_slots) refl
  where
    d : Option Due
    d = due_at s.rules.cluster f.id s.channel f.cycle

    by : (b : Bool) → nat_le f.id s.rules.cluster.params.static_slots ≡ b
        → Leads (cond b (static_came (untimed s) f at d) (dynamic_came (untimed s) f at d))
        (cond b (static_came s f at d) (dynamic_came s f at d))
        (with_fixed (watch s) (cond b (fixed_by s.rules s.mine.fixed f.id at.time) s.mine.fixed))
    by true e = static_leads s f at d (fine e)
    by false e = dynamic_leads s f at d

-- ---- a frame that opens a cycle

abbrev pub begun_watch : Watch → Fields → At → Watch
begun_watch w f at = record w {
  mine = record w.mine { current = Some f.cycle; began = at.time; first = f.id; fixed = None };
}

abbrev pub opened_watch : Watch → Fields → At → Watch
opened_watch w f at = came_watch (begun_watch w f at) f at

-- no reference, no wrong time
begun_in_time : (w : Watch) (f : Fields) (at : At) → IsInTime (begun_watch w f at) f at.time
begun_in_time w f at static = by (w.rules.macrotick == 0)
  where
    by : (b : Bool) → cond b None (time_from (slot_time w.rules) None f.id at.time) ≡ None
    by true = refl
    by false = refl

same_time : (w v : Watch) (f : Fields) (time : Option ℤ) → w ≡ v → IsInTime v f time → IsInTime w f time
same_time w v f time e fine = subst (λ (u : Watch). IsInTime u f time) (sym e) fine

came_begun : (s : State) (w : Watch) (f : Fields) (at : At) → watch s ≡ begun_watch w f at
    → Leads (came (untimed s) f at) (came s f at) (opened_watch w f at)
came_begun s w f at e =
    let c : Leads (came (untimed s) f at) (came s f at) (came_watch (watch s) f at) =
    came_leads s f at (same_time (watch s) (begun_watch w f at) f at.time e (begun_in_time w f at)) in
    record { same = c.same; seen = c.seen ∙ ap (λ (v : Watch). came_watch v f at) e }

abbrev begun_state : State → Fields → At → State
begun_state s f at = record s { mine = begun s.rules.cluster.params s.mine f at }

first_leads : (s : State) (f : Fields) (at : At)
    → Leads (open_first (untimed s) f at) (open_first s f at) (opened_watch (watch s) f at)
unfolding open_first
first_leads s f at =
    let t : State = begun_state s f at in
    let started : IsCalm t (untimed t) t = calm_none t in
    let u : State = cond s.rules.whole (skip_before t f at) t in
    let skipped : IsCalm t (cond s.rules.whole (skip_before (untimed t) f at) (untimed t)) u =
    calm_if s.rules.whole (before_calm t f at) (calm_none t) in
    let heard : IsCalm t (listen (cond s.rules.whole (skip_before (untimed t) f at) (untimed t)) f at) (listen u f at)
    = calm_then (λ (v : State). listen v f at) skipped (listen_calm u f at) in
    leads_then (λ (v : State). came v f at) (calm_leads heard) (λ e. came_begun (listen u f at) (watch s) f at e)

-- the lane at the next cycle, and after a gap
abbrev next_lane : At → ℕ → Lane → Lane
next_lane at past l = record l {
  span = span_between l.span l.began at.time;
  number = long_counted l.number past;
}

abbrev gap_lane : ℕ → Lane → Lane
gap_lane past l = record l {
  gaps = counted l.gaps 1;
  lost = long_counted l.lost (past - 1);
  number = long_counted l.number past;
}

enter_leads : (s : State) (f : Fields) (at : At) (past : ℕ)
    → Leads (enter (untimed s) f at past) (enter s f at past) (begun_watch (watch s) f at)
enter_leads s f at past = by (past == 1)
  where
    by : (b : Bool) → Leads
        (record (untimed s) {
          mine = begun s.rules.cluster.params (cond b (next_lane at past (untimed_lane s.mine))
              (gap_lane past (untimed_lane s.mine))) f at;
        })
        (record s {
          mine = begun s.rules.cluster.params (cond b (next_lane at past s.mine) (gap_lane past s.mine)) f at;
        })
        (begun_watch (watch s) f at)
    by true = record { same = refl; seen = refl }
    by false = record { same = refl; seen = refl }

after_leads : (s : State) (f : Fields) (at : At) (d : Distance)
    → Leads (open_after (untimed s) f at d) (open_after s f at d) (opened_watch (watch s) f at)
unfolding open_after
after_leads s f at d =
    let left : IsCalm s (leave (untimed s)) (leave s) = leave_calm s in
    let t : State = enter (leave s) f at d.past in
    let entered : Leads (enter (leave (untimed s)) f at d.past) t (begun_watch (watch s) f at) =
    leads_then (λ (v : State). enter v f at d.past) (calm_leads left)
    (λ e. let c = enter_leads (leave s) f at d.past in
    record { same = c.same; seen = c.seen ∙ ap (λ (v : Watch). begun_watch v f at) e }) in
    let u : State = tell_gap (skip_before t f at) f at d.past in
    let told : IsCalm t (tell_gap (skip_before (untimed t) f at) f at d.past) u =
    calm_then (λ (v : State). tell_gap v f at d.past) (before_calm t f at)
    (gap_calm (skip_before t f at) f at d.past) in
    let x : State = find_some u (Some at) (frame_place s.channel f) d.clock in
    let clocked : IsCalm t (find_some (tell_gap (skip_before (untimed t) f at) f at d.past) (Some at)
    (frame_place s.channel f) d.clock) x =
    calm_then (λ (v : State). find_some v (Some at) (frame_place s.channel f) d.clock) told
    (find_some_calm u (Some at) (frame_place s.channel f) d.clock) in
    let heard : IsCalm t (listen (find_some (tell_gap (skip_before (untimed t) f at) f at d.past) (Some at)
    (frame_place s.channel f) d.clock) f at) (listen x f at) =
    calm_then (λ (v : State). listen v f at) clocked (listen_calm x f at) in
    let rest : Leads (came (listen (find_some (tell_gap (skip_before (untimed t) f at) f at d.past) (Some at)
    (frame_place s.channel f) d.clock) f at) f at) (came (listen x f at) f at) (opened_watch (watch s) f at) =
    leads_then (λ (v : State). came v f at) (calm_leads heard)
    (λ e. came_begun (listen x f at) (watch s) f at (e ∙ entered.seen)) in
    leads_then (λ (v : State). came (listen (find_some (tell_gap (skip_before v f at) f at d.past) (Some at)
    (frame_place s.channel f) d.clock) f at) f at) entered (λ e. rest)

-- ---- the distance of two cycles

abbrev pub distance_in : Watch → Fields → Option ℤ → Distance
distance_in w f time = by_times w.rules (steps_from w.mine.current f.cycle) w.mine.first f.id w.mine.began time

-- the times agree with the counts
abbrev pub IsInStep : Watch → Fields → Option ℤ → Type 0
IsInStep w f time = distance_in w f time ≡ by_counts (steps_from w.mine.current f.cycle)

untimed_distance : (r : Rules) (steps a b : ℕ) (x y : Option ℤ)
    → by_times (untimed_rules r) steps a b x y ≡ by_counts steps
untimed_distance r steps a b None y = refl
untimed_distance r steps a b (Some x) None = refl
untimed_distance r steps a b (Some x) (Some y) = refl

closed_leads : (s : State) (f : Fields) (at : At) → IsInStep (watch s) f at.time
    → Leads (open_closed (untimed s) f at) (open_closed s f at) (opened_watch (watch s) f at)
closed_leads s f at fine =
    let d : Distance = by_counts (steps_from s.mine.current f.cycle) in
    let c : Leads (open_after (untimed s) f at d) (open_after s f at d) (opened_watch (watch s) f at) =
    after_leads s f at d in
    let timed_is : open_closed s f at ≡ open_after s f at d = ap (open_after s f at) fine in
    let untimed_is : open_closed (untimed s) f at ≡ open_after (untimed s) f at d =
    ap (open_after (untimed s) f at)
    (untimed_distance s.rules (steps_from s.mine.current f.cycle) s.mine.first f.id s.mine.began at.time) in
    record { same = untimed_is ∙ c.same ∙ ap untimed (sym timed_is); seen = ap watch timed_is ∙ c.seen }

same_step : (w v : Watch) (f : Fields) (time : Option ℤ) → w ≡ v → IsInStep v f time → IsInStep w f time
same_step w v f time e fine =
    ap (λ (u : Watch). distance_in u f time) e ∙ fine
    ∙ ap (λ (u : Watch). by_counts (steps_from u.mine.current f.cycle)) (sym e)

next_leads : (s : State) (f : Fields) (at : At) → IsInStep (watch s) f at.time
    → Leads (open_next (untimed s) f at) (open_next s f at) (opened_watch (watch s) f at)
next_leads s f at fine =
    leads_then (λ (v : State). open_closed v f at) (calm_leads (end_calm s (Some at)))
    (λ e. let t : State = end_cycle s (Some at) in
    let c = closed_leads t f at (same_step (watch t) (watch s) f at.time e fine) in
    record { same = c.same; seen = c.seen ∙ ap (λ (v : Watch). opened_watch v f at) e })

pub cycle_leads : (s : State) (f : Fields) (at : At) → IsInStep (watch s) f at.time
    → Leads (open_cycle (untimed s) f at) (open_cycle s f at) (opened_watch (watch s) f at)
unfolding open_cycle
cycle_leads s f at fine = by (is_none s.mine.current) (first_leads s f at) (next_leads s f at fine)
  where
    by : (b : Bool) → Leads (open_first (untimed s) f at) (open_first s f at) (opened_watch (watch s) f at)
        → Leads (open_next (untimed s) f at) (open_next s f at) (opened_watch (watch s) f at)
        → Leads (cond b (open_first (untimed s) f at) (open_next (untimed s) f at))
        (cond b (open_first s f at) (open_next s f at)) (opened_watch (watch s) f at)
    by true first next = first
    by false first next = next

-- ---- a good frame

-- the frame that waits no longer waits
abbrev pub free_watch : Watch → Watch
free_watch w = record w { mine = record w.mine { held = None } }

abbrev freed : State → State
freed s = record s { mine = record s.mine { held = None; ill_held = 0 } }

pub settle_leads : (s : State) (next : Option Next) (h : Held) → s.mine.held ≡ Some h
    → opens s.mine.current (next_of h.frame) next ≡ true → IsInStep (watch s) h.frame h.at.time
    → Leads (settle (untimed s) next) (settle s next) (opened_watch (free_watch (watch s)) h.frame h.at)
unfolding settle decide
settle_leads s next h held opening fine =
    let t : State = freed s in
    let c : Leads (open_cycle (untimed t) h.frame h.at) (open_cycle t h.frame h.at)
    (opened_watch (free_watch (watch s)) h.frame h.at) = cycle_leads t h.frame h.at fine in
    let decided : (u : State) (b : Bool) → b ≡ true
    → cond b (open_cycle u h.frame h.at) (wrong_count u h.frame h.at) ≡ open_cycle u h.frame h.at =
    λ u b e. cond-true b (open_cycle u h.frame h.at) (wrong_count u h.frame h.at) e in
    let timed_is : settle s next ≡ add_ill (open_cycle t h.frame h.at) s.mine.ill_held =
    ap (settle_with s next) held
    ∙ ap (λ (u : State). add_ill u s.mine.ill_held)
    (decided t (opens s.mine.current (next_of h.frame) next) opening) in
    let untimed_is : settle (untimed s) next ≡ add_ill (open_cycle (untimed t) h.frame h.at) s.mine.ill_held =
    ap (settle_with (untimed s) next) held
    ∙ ap (λ (u : State). add_ill u s.mine.ill_held)
    (decided (untimed t) (opens s.mine.current (next_of h.frame) next) opening) in
    record {
      same = untimed_is ∙ ap (λ (u : State). add_ill u s.mine.ill_held) c.same ∙ ap untimed (sym timed_is);
      seen = ap watch timed_is ∙ c.seen;
    }

pub settle_still : (s : State) (next : Option Next) → s.mine.held ≡ None
    → Leads (settle (untimed s) next) (settle s next) (watch s)
unfolding settle
settle_still s next none = record {
  same = ap (settle_with (untimed s) next) none ∙ ap untimed (sym (ap (settle_with s next) none));
  seen = ap watch (ap (settle_with s next) none);
}

-- a frame of the open cycle counts, or is in a wrong order
pub record MayLead (x y : State) (w v : Watch) : Type 0 where
  pub same : x ≡ untimed y
  pub seen : (watch y ≡ w) ⊎ (watch y ≡ v)

pub member_leads : (s : State) (f : Fields) (at : At) → IsInTime (watch s) f at.time
    → MayLead (member (untimed s) f at) (member s f at) (watch s) (came_watch (watch s) f at)
unfolding member
member_leads s f at fine =
    let wrong = order_calm s f.id (Some at) (frame_place s.channel f) (with_numbers name.Order s.mine.last f.id) in
    let t : State = skip_before s f at in
    let before : IsCalm s (skip_before (untimed s) f at) t = before_calm s f at in
    let right : Leads (came (skip_before (untimed s) f at) f at) (came t f at) (came_watch (watch s) f at) =
    leads_then (λ (v : State). came v f at) (calm_leads before)
    (λ e. let c = came_leads t f at (same_time (watch t) (watch s) f at.time e fine) in
    record { same = c.same; seen = c.seen ∙ ap (λ (v : Watch). came_watch v f at) e }) in
    by (nat_le f.id s.mine.last) wrong right
  where
    by : {x y u v : State} (b : Bool) → IsCalm s x y → Leads u v (came_watch (watch s) f at)
        → MayLead (cond b x u) (cond b y v) (watch s) (came_watch (watch s) f at)
    by true wrong right = record { same = wrong.same; seen = inl wrong.still }
    by false wrong right = record { same = right.same; seen = inr right.seen }

abbrev pub held_watch : Watch → Fields → At → Watch
held_watch w f at = record w { mine = record w.mine { held = Some (record { at = at; frame = f }) } }

hold_leads : (s : State) (f : Fields) (at : At)
    → Leads (hold (untimed s) f at) (hold s f at) (held_watch (watch s) f at)
unfolding hold
hold_leads s f at = record { same = refl; seen = refl }

-- the frame isn't of the open cycle
pub place_other : (s : State) (f : Fields) (at : At) → same_open s.mine.current (Some f.cycle) ≡ false
    → Leads (place_frame (untimed s) f at) (place_frame s f at) (held_watch (watch s) f at)
unfolding place_frame
place_other s f at other =
    let c : Leads (hold (untimed s) f at) (hold s f at) (held_watch (watch s) f at) = hold_leads s f at in
    let timed_is : place_frame s f at ≡ hold s f at =
    cond-false (same_open s.mine.current (Some f.cycle))
    (cond (is_anew s.rules s.mine at.time) (open_cycle s f at) (member s f at)) (hold s f at) other in
    let untimed_is : place_frame (untimed s) f at ≡ hold (untimed s) f at =
    cond-false (same_open s.mine.current (Some f.cycle))
    (cond (is_anew (untimed s).rules (untimed s).mine at.time) (open_cycle (untimed s) f at) (member (untimed s) f at))
    (hold (untimed s) f at) other in
    record { same = untimed_is ∙ c.same ∙ ap untimed (sym timed_is); seen = ap watch timed_is ∙ c.seen }

untimed_anew : (r : Rules) (x y : Option ℤ) → anew_by (untimed_rules r) x y ≡ false
untimed_anew r None y = refl
untimed_anew r (Some x) None = refl
untimed_anew r (Some x) (Some y) = refl

-- the frame is of the open cycle
pub place_same : (s : State) (f : Fields) (at : At) → same_open s.mine.current (Some f.cycle) ≡ true
    → anew_by s.rules s.mine.began at.time ≡ false → IsInTime (watch s) f at.time
    → MayLead (place_frame (untimed s) f at) (place_frame s f at) (watch s) (came_watch (watch s) f at)
unfolding place_frame
place_same s f at here soon fine =
    let c : MayLead (member (untimed s) f at) (member s f at) (watch s) (came_watch (watch s) f at) =
    member_leads s f at fine in
    let placed : (u : State) (a b : Bool) → a ≡ true → b ≡ false
    → cond a (cond b (open_cycle u f at) (member u f at)) (hold u f at) ≡ member u f at =
    λ u a b e o. cond-true a (cond b (open_cycle u f at) (member u f at)) (hold u f at) e
    ∙ cond-false b (open_cycle u f at) (member u f at) o in
    let timed_is : place_frame s f at ≡ member s f at =
    placed s (same_open s.mine.current (Some f.cycle)) (is_anew s.rules s.mine at.time) here soon in
    let untimed_is : place_frame (untimed s) f at ≡ member (untimed s) f at =
    placed (untimed s) (same_open s.mine.current (Some f.cycle)) (is_anew (untimed s).rules (untimed s).mine at.time)
    here (untimed_anew s.rules s.mine.began at.time) in
    record {
      same = untimed_is ∙ c.same ∙ ap untimed (sym timed_is);
      seen = subst (λ (u : State). (watch u ≡ watch s) ⊎ (watch u ≡ came_watch (watch s) f at)) (sym timed_is) c.seen;
    }

pub speak_leads : (s : State) (at : At) → Leads (speak (untimed s) at) (speak s at) (watch s)
speak_leads s at = record { same = refl; seen = refl }
