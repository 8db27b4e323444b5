-- The next frame of a channel: it is one of the open cycle, or waits for the frame after it.
use Rattle.std.proofs.Common.{◌≡◌, ◌+◌, ◌%◌, ◌<◌, true, false, cond, refl, sym, ap, ◌∙◌, ◌*◌}
use Rattle.std.proofs.lemmas.Bool.{cond-true, cond-false, eq-eqb, ne_eqb, lt-leb}
use Rattle.std.specs.Prelude.{Option, Some, None, nat_le, ◌==◌, ℤ, ◌-ℤ◌}
use Rattle.fr_frame.specs.Fields.{Fields}
use Rattle.fr_hearing.proofs.CameLemmas.{IsPlain, core_at, came_at}
use Rattle.fr_hearing.proofs.CoreLemmas.{Core, core}
use Rattle.fr_hearing.proofs.CountLemmas.{not_same}
use Rattle.fr_hearing.proofs.OpenLemmas.{core_before, before_none, cycle_first, cycle_next}
use Rattle.fr_hearing.specs.Heard.{Spot, cycle_start, after_frame, IsFirst, IsFurther, IsNext}
use Rattle.fr_judging.specs.declared.lane.Held.{Held}
use Rattle.fr_judging.specs.declared.lane.Next.{Next}
use Rattle.fr_judging.specs.declared.line.At.{At}
use Rattle.fr_judging.specs.declared.rules.Rules.{Rules}
use Rattle.fr_judging.specs.Distances.{is_anew, anew_by, is_long}
use Rattle.fr_judging.specs.Judging.{State, came, member, place_frame, hold, open_cycle, settle, settle_with, decide}
use Rattle.fr_judging.specs.Judging.{wrong_count, next_of, speak, good, skip_before, find, mark_odd, disturb}
use Rattle.fr_judging.specs.Lanes.{same_open, opens}
use Rattle.fr_logged.specs.declared.finding.Name.TheVariants as name
use Rattle.fr_logged.specs.Findings.{with_numbers}
use Rattle.fr_logged.specs.Logged.{place_of as frame_place}
use Rattle.fr_slots.specs.declared.channel.Channel.{Channel}

-- a frame waits at a place
abbrev pub waiting : Core → Held → Core
waiting c h = record c { held = Some h }

abbrev pub held_at : Fields → At → Held
held_at f at = record { at = at; frame = f }

-- ---- a frame of the open cycle

pub untimed_anew : (r : Rules) (x y : Option ℤ) → (r.macrotick == 0) ≡ true → anew_by r x y ≡ false
untimed_anew r None y e = refl
untimed_anew r (Some x) None e = refl
untimed_anew r (Some x) (Some y) e =
    cond-true (r.macrotick == 0) false (is_long (r.cluster.params.cycle_mt * r.macrotick) (y -ℤ x)) e

member_at : (r : Rules) (channel : Channel) (s : State) (at : At) (spot : Spot) (f : Fields)
    → core s ≡ core_at r channel spot → IsPlain r → IsFurther r.cluster channel spot f
    → core (member s f at) ≡ core_at r channel (after_frame r.cluster.params spot f)
unfolding member
member_at r channel s at spot f e plain is =
    ap core (cond-false (nat_le f.id s.mine.last)
    (find (mark_odd (disturb s) f.id) (Some at) (frame_place s.channel f) (with_numbers name.Order s.mine.last f.id))
    (came (skip_before s f at) f at)
    (ap (λ (c : Core). nat_le f.id c.last) e ∙ lt-leb f.id spot.last is.later))
    ∙ ap (λ (t : State). core (came t f at)) (before_none (core_at r channel spot) s f at e is.free)
    ∙ came_at r channel s at spot f e plain is.allowed

pub place_further : (r : Rules) (channel : Channel) (s : State) (at : At) (spot : Spot) (f : Fields)
    → core s ≡ core_at r channel spot → IsPlain r → IsFurther r.cluster channel spot f
    → core (place_frame s f at) ≡ core_at r channel (after_frame r.cluster.params spot f)
unfolding place_frame
place_further r channel s at spot f e plain is =
    ap core (cond-true (same_open s.mine.current (Some f.cycle))
    (cond (is_anew s.rules s.mine at.time) (open_cycle s f at) (member s f at)) (hold s f at)
    (ap (λ (c : Core). same_open c.current (Some f.cycle)) e ∙ eq-eqb spot.cycle f.cycle (sym is.same_cycle)))
    ∙ ap core (cond-false (is_anew s.rules s.mine at.time) (open_cycle s f at) (member s f at)
    (untimed_anew s.rules s.mine.began at.time (ap (λ (c : Core). c.rules.macrotick == 0) e ∙ plain.untimed)))
    ∙ member_at r channel s at spot f e plain is

-- ---- a frame that waits

hold_core : (s : State) (f : Fields) (at : At) → core (hold s f at) ≡ waiting (core s) (held_at f at)
unfolding hold
hold_core s f at = refl

pub place_other : (c : Core) (s : State) (f : Fields) (at : At) → core s ≡ c
    → same_open c.current (Some f.cycle) ≡ false → core (place_frame s f at) ≡ waiting c (held_at f at)
unfolding place_frame
place_other c s f at e other =
    ap core (cond-false (same_open s.mine.current (Some f.cycle))
    (cond (is_anew s.rules s.mine at.time) (open_cycle s f at) (member s f at)) (hold s f at)
    (ap (λ (d : Core). same_open d.current (Some f.cycle)) e ∙ other))
    ∙ hold_core s f at ∙ ap (λ (d : Core). waiting d (held_at f at)) e

pub place_first : (r : Rules) (channel : Channel) (s : State) (f : Fields) (at : At) → core s ≡ core_before r channel
    → core (place_frame s f at) ≡ waiting (core_before r channel) (held_at f at)
place_first r channel s f at e = place_other (core_before r channel) s f at e refl

pub place_next : (r : Rules) (channel : Channel) (s : State) (spot : Spot) (f : Fields) (at : At)
    → core s ≡ core_at r channel spot → spot.cycle < 64 → f.cycle ≡ (spot.cycle + 1) % 64
    → core (place_frame s f at) ≡ waiting (core_at r channel spot) (held_at f at)
place_next r channel s spot f at e fits next =
    place_other (core_at r channel spot) s f at e (ne_eqb spot.cycle f.cycle (not_same spot.cycle f.cycle fits next))

-- ---- a frame that no longer waits

abbrev pub freed : State → State
freed s = record s { mine = record s.mine { held = None; ill_held = 0 } }

abbrev pub free_core : Core → Core
free_core c = record c { held = None }

pub settle_none : (s : State) (next : Option Next) → s.mine.held ≡ None → settle s next ≡ s
unfolding settle
settle_none s next none = ap (settle_with s next) none

pub settle_some : (c : Core) (s : State) (next : Option Next) (h : Held) → core s ≡ waiting c h
    → opens c.current (next_of h.frame) next ≡ true → core (settle s next) ≡ core (open_cycle (freed s) h.frame h.at)
unfolding settle decide
settle_some c s next h e opening =
    ap (λ (o : Option Held). core (settle_with s next o)) (ap (λ (d : Core). d.held) e)
    ∙ ap core (cond-true (opens s.mine.current (next_of h.frame) next) (open_cycle (freed s) h.frame h.at)
    (wrong_count (freed s) h.frame h.at)
    (ap (λ (d : Core). opens d.current (next_of h.frame) next) e ∙ opening))

pub settle_at : (r : Rules) (channel : Channel) (s : State) (spot : Spot) (next : Option Next)
    → core s ≡ core_at r channel spot → core (settle s next) ≡ core_at r channel spot
settle_at r channel s spot next e = ap core (settle_none s next (ap (λ (c : Core). c.held) e)) ∙ e

pub settle_first : (r : Rules) (channel : Channel) (s : State) (h : Held) (next : Option Next)
    → core s ≡ waiting (core_before r channel) h → IsPlain r → IsFirst r.cluster channel h.frame
    → opens None (next_of h.frame) next ≡ true
    → core (settle s next) ≡ core_at r channel (after_frame r.cluster.params
    (cycle_start r.cluster.params h.frame.cycle) h.frame)
settle_first r channel s h next e plain is opening =
    settle_some (core_before r channel) s next h e opening
    ∙ cycle_first r channel (freed s) h.at h.frame (ap free_core e) plain is

pub settle_next : (r : Rules) (channel : Channel) (s : State) (spot : Spot) (h : Held) (next : Option Next)
    → core s ≡ waiting (core_at r channel spot) h → IsPlain r → spot.cycle < 64
    → IsNext r.cluster channel spot h.frame → opens (Some spot.cycle) (next_of h.frame) next ≡ true
    → core (settle s next) ≡ core_at r channel (after_frame r.cluster.params
    (cycle_start r.cluster.params h.frame.cycle) h.frame)
settle_next r channel s spot h next e plain fits is opening =
    settle_some (core_at r channel spot) s next h e opening
    ∙ cycle_next r channel (freed s) h.at spot h.frame (ap free_core e) plain fits is

-- ---- a good frame

pub good_is : (s : State) (f : Fields) (at : At)
    → good s f at ≡ place_frame (settle (speak s at) (Some (next_of f))) f at
unfolding good
good_is s f at = refl

abbrev pub heard_core : Core → Core
heard_core c = record c { heard = true }

pub spoken : (c : Core) (s : State) (at : At) → core s ≡ c → core (speak s at) ≡ heard_core c
spoken c s at e = ap heard_core e
