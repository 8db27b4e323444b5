-- A frame that opens the first cycle, or the next one.
use Rattle.std.proofs.Common.{◌≡◌, ℕ, ◌+◌, ◌<◌, ◌≤◌, Bool, true, false, cond, refl, sym, ap, subst, ◌∙◌, ◌*◌}
use Rattle.std.proofs.lemmas.Bool.{cond-true, cond-false, and_left}
use Rattle.std.specs.Prelude.{Option, Some, None, min, nat_lt, ◌==◌, ℤ, ◌&&◌}
use Rattle.std.specs.Option.{is_none}
use Rattle.fr_frame.specs.Fields.{Fields}
use Rattle.fr_hearing.proofs.CameLemmas.{IsPlain, core_at, came_at}
use Rattle.fr_hearing.proofs.CoreLemmas.{Core, core, skip_none}
use Rattle.fr_hearing.proofs.CountLemmas.{one_step}
use Rattle.fr_hearing.specs.Heard.{Spot, cycle_start, after_frame, IsFirst, IsNext, IsOver}
use Rattle.fr_judging.specs.declared.distance.Distance.{Distance}
use Rattle.fr_judging.specs.declared.line.At.{At}
use Rattle.fr_judging.specs.declared.rules.Rules.{Rules}
use Rattle.fr_judging.specs.Distances.{by_times, by_counts, steps_from, distance_to, distance_by, time_between}
use Rattle.fr_judging.specs.Judging.{State, came, listen, tell_silent, with_alone, skip_before, open_first, open_after}
use Rattle.fr_judging.specs.Judging.{open_closed, open_next, open_cycle, end_cycle, end_in, enter, leave, tell_gap}
use Rattle.fr_judging.specs.Judging.{find_some, none_found, none_away, static_end}
use Rattle.fr_judging.specs.Lanes.{begun}
use Rattle.fr_judging.specs.Rules.{due_at, are_both}
use Rattle.fr_slots.specs.declared.channel.Channel.{Channel}

-- ---- the other channel doesn't fall silent where one is judged

pub listen_none : (s : State) (f : Fields) (at : At) → are_both s.rules ≡ false → listen s f at ≡ s
unfolding listen
listen_none s f at one =
    cond-false (are_both s.rules && nat_lt s.other.spoke at.number) (tell_silent (with_alone s) f at) s
    (and_left (are_both s.rules) (nat_lt s.other.spoke at.number) one)

-- ---- static slots before the frame

-- the slots of a state's cluster before a frame
abbrev FreeBy : Core → Fields → ℕ → Type 0
FreeBy c f from = (k : ℕ) → from ≤ k → k < min f.id (c.rules.cluster.params.static_slots + 1)
    → due_at c.rules.cluster k c.channel f.cycle ≡ None

pub before_none : (c : Core) (s : State) (f : Fields) (at : At) → core s ≡ c → FreeBy c f (c.last + 1)
    → skip_before s f at ≡ s
unfolding skip_before
before_none c s f at e free =
    skip_none s (Some at) f.cycle (s.mine.last + 1) (min f.id (static_end s))
    (subst (λ (d : Core). FreeBy d f (d.last + 1)) (sym e) free)

-- ---- the first cycle

-- a place without an open cycle
abbrev pub core_before : Rules → Channel → Core
core_before r channel = record {
  found = none_found;
  away = none_away;
  rules = r;
  channel = channel;
  opposite = None;
  aside = None;
  answered = false;
  held = None;
  current = None;
  last = 0;
  slot = 0;
  minislot = 0;
  heard = true;
}

begun_core : (s : State) (f : Fields) (at : At) → core (record s { mine = begun s.rules.cluster.params s.mine f at })
    ≡ (record (core s) {
      current = Some f.cycle;
      last = 0;
      slot = s.rules.cluster.params.static_slots + 1;
      minislot = 1;
    })
begun_core s f at = refl

pub either_same : {X : Type 0} (b : Bool) (x y : X) → x ≡ y → cond b x y ≡ y
either_same true x y e = e
either_same false x y e = refl

abbrev pub begin_core : Core → Fields → Core
begin_core c f = record c {
  current = Some f.cycle;
  last = 0;
  slot = c.rules.cluster.params.static_slots + 1;
  minislot = 1;
}

-- a state whose cycle has just begun
started : (r : Rules) (channel : Channel) (s : State) (at : At) (f : Fields)
    → core s ≡ core_at r channel (cycle_start r.cluster.params f.cycle) → IsPlain r → IsFirst r.cluster channel f
    → core (came (listen s f at) f at) ≡ core_at r channel (after_frame r.cluster.params
    (cycle_start r.cluster.params f.cycle) f)
started r channel s at f e plain is =
    ap (λ (t : State). core (came t f at)) (listen_none s f at (ap (λ (c : Core). are_both c.rules) e ∙ plain.one))
    ∙ came_at r channel s at (cycle_start r.cluster.params f.cycle) f e plain is.allowed

pub open_first_at : (r : Rules) (channel : Channel) (s : State) (at : At) (f : Fields)
    → core s ≡ core_before r channel → IsPlain r → IsFirst r.cluster channel f
    → core (open_first s f at) ≡ core_at r channel (after_frame r.cluster.params
    (cycle_start r.cluster.params f.cycle) f)
unfolding open_first
open_first_at r channel s at f e plain is =
    let t : State = record s { mine = begun s.rules.cluster.params s.mine f at } in
    let started_is : core t ≡ core_at r channel (cycle_start r.cluster.params f.cycle) =
    ap (λ (c : Core). begin_core c f) e in
    let skipped_is : skip_before t f at ≡ t =
    before_none (core_at r channel (cycle_start r.cluster.params f.cycle)) t f at started_is is.free in
    ap (λ (u : State). core (came (listen u f at) f at))
    (either_same s.rules.whole (skip_before t f at) t skipped_is)
    ∙ started r channel t at f started_is plain is

-- ---- the next cycle

pub untimed_distance : (r : Rules) (steps a b : ℕ) (x y : Option ℤ) → (r.macrotick == 0) ≡ true
    → by_times r steps a b x y ≡ by_counts steps
untimed_distance r steps a b None y e = refl
untimed_distance r steps a b (Some x) None e = refl
untimed_distance r steps a b (Some x) (Some y) e =
    ap (λ (c : Bool). let d : Distance = cond c (by_counts steps)
    (cond (nat_lt r.cluster.params.static_slots a) (by_counts steps)
    (cond (nat_lt r.cluster.params.static_slots b) (by_counts steps)
    (distance_by (r.cluster.params.cycle_mt * r.macrotick) steps
    (time_between (r.cluster.params.static_mt * r.macrotick) a b x y)))) in d) e

pub over_none : (r : Rules) (channel : Channel) (s : State) (at : Option At) (spot : Spot)
    → core s ≡ core_at r channel spot → IsOver r.cluster channel spot → end_cycle s at ≡ s
unfolding end_cycle
over_none r channel s at spot e over =
    ap (end_in s at) (ap (λ (c : Core). c.current) e)
    ∙ skip_none s at spot.cycle (s.mine.last + 1) (static_end s)
    (subst (λ (c : Core). (k : ℕ) → c.last + 1 ≤ k → k < c.rules.cluster.params.static_slots + 1
    → due_at c.rules.cluster k c.channel spot.cycle ≡ None) (sym e) over)

-- what is told of a cycle that follows the one before
after_one : (s : State) (f : Fields) (at : At) → skip_before (enter (leave s) f at 1) f at ≡ enter (leave s) f at 1
    → open_after s f at (by_counts 1) ≡ came (listen (enter (leave s) f at 1) f at) f at
unfolding open_after tell_gap find_some
after_one s f at e = ap (λ (t : State). came (listen t f at) f at) e

entered : (s : State) (f : Fields) (at : At) → core (enter (leave s) f at 1) ≡ begin_core (core s) f
unfolding leave
entered s f at = refl

pub open_next_at : (r : Rules) (channel : Channel) (s : State) (at : At) (spot : Spot) (f : Fields)
    → core s ≡ core_at r channel spot → IsPlain r → spot.cycle < 64 → IsNext r.cluster channel spot f
    → core (open_next s f at) ≡ core_at r channel (after_frame r.cluster.params
    (cycle_start r.cluster.params f.cycle) f)
open_next_at r channel s at spot f e plain fits is =
    let t : State = enter (leave s) f at 1 in
    let started_is : core t ≡ core_at r channel (cycle_start r.cluster.params f.cycle) =
    entered s f at ∙ ap (λ (c : Core). begin_core c f) e in
    let skipped_is : skip_before t f at ≡ t =
    before_none (core_at r channel (cycle_start r.cluster.params f.cycle)) t f at started_is is.first.free in
    let steps_are : steps_from s.mine.current f.cycle ≡ 1 =
    ap (λ (c : Core). steps_from c.current f.cycle) e ∙ one_step spot.cycle f.cycle fits is.next_cycle in
    let distance_is : distance_to s.rules s.mine f at.time ≡ by_counts 1 =
    untimed_distance s.rules (steps_from s.mine.current f.cycle) s.mine.first f.id s.mine.began at.time
    (ap (λ (c : Core). c.rules.macrotick == 0) e ∙ plain.untimed) ∙ ap by_counts steps_are in
    ap (λ (u : State). core (open_closed u f at)) (over_none r channel s (Some at) spot e is.over)
    ∙ ap (λ (d : Distance). core (open_after s f at d)) distance_is
    ∙ ap core (after_one s f at skipped_is)
    ∙ started r channel t at f started_is plain is.first

-- ---- each cycle

pub cycle_first : (r : Rules) (channel : Channel) (s : State) (at : At) (f : Fields)
    → core s ≡ core_before r channel → IsPlain r → IsFirst r.cluster channel f
    → core (open_cycle s f at) ≡ core_at r channel (after_frame r.cluster.params
    (cycle_start r.cluster.params f.cycle) f)
unfolding open_cycle
cycle_first r channel s at f e plain is =
    ap core (cond-true (is_none s.mine.current) (open_first s f at) (open_next s f at)
    (ap (λ (c : Core). is_none c.current) e))
    ∙ open_first_at r channel s at f e plain is

pub cycle_next : (r : Rules) (channel : Channel) (s : State) (at : At) (spot : Spot) (f : Fields)
    → core s ≡ core_at r channel spot → IsPlain r → spot.cycle < 64 → IsNext r.cluster channel spot f
    → core (open_cycle s f at) ≡ core_at r channel (after_frame r.cluster.params
    (cycle_start r.cluster.params f.cycle) f)
unfolding open_cycle
cycle_next r channel s at spot f e plain fits is =
    ap core (cond-false (is_none s.mine.current) (open_first s f at) (open_next s f at)
    (ap (λ (c : Core). is_none c.current) e))
    ∙ open_next_at r channel s at spot f e plain fits is
