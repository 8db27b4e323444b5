-- A good frame of one channel, beside the other one.
use Rattle.std.proofs.Common.{◌≡◌, ℕ, ◌+◌, ◌<◌, ◌≤◌, true, false, cond, refl, sym, ap, subst, ◌∙◌, Option, Some, None}
use Rattle.std.proofs.lemmas.Bool.{cond-true, cond-false, lt-leb, eq-eqb}
use Rattle.std.specs.Prelude.{min, nat_le, ◌==◌}
use Rattle.fr_frame.specs.Fields.{Fields}
use Rattle.fr_hearing.proofs.pairing.OpeningLemmas.{IsHeardOf, Opened, before_same, free_of, opens_first, opens_next}
use Rattle.fr_hearing.proofs.pairing.ViewLemmas.{LaneView, lane_view, View, view, at_spot, AgreesBeside, IsPair}
use Rattle.fr_hearing.proofs.pairing.ViewLemmas.{IsClean, CameTo, came_to}
use Rattle.fr_hearing.proofs.StepLemmas.{untimed_anew, held_at, freed}
use Rattle.fr_hearing.specs.Heard.{Spot, after_frame, IsFirst, IsNext, IsFurther}
use Rattle.fr_judging.specs.declared.lane.Held.{Held}
use Rattle.fr_judging.specs.declared.lane.Next.{Next}
use Rattle.fr_judging.specs.declared.line.At.{At}
use Rattle.fr_judging.specs.declared.rules.Rules.{Rules}
use Rattle.fr_judging.specs.Distances.{is_anew}
use Rattle.fr_judging.specs.Judging.{State, came, skip_before, member, mark_odd, disturb, open_cycle, wrong_count}
use Rattle.fr_judging.specs.Judging.{decide, settle, settle_with, hold, place_frame, speak, next_of, find}
use Rattle.fr_judging.specs.Lanes.{same_open, opens}
use Rattle.fr_judging.specs.Rules.{due_at, other_channel}
use Rattle.fr_logged.specs.declared.finding.Name.TheVariants as name
use Rattle.fr_logged.specs.Findings.{with_numbers}
use Rattle.fr_logged.specs.Logged.{place_of as frame_place}
use Rattle.fr_slots.specs.declared.channel.Channel.{Channel}

-- the frame waits
abbrev pub held_view : View → Held → View
held_view v h = record v { mine = record v.mine { held = Some h } }

abbrev pub freed_view : View → View
freed_view v = record v { mine = record v.mine { held = None } }

abbrev pub spoken_view : View → ℕ → View
spoken_view v number = record v { mine = record v.mine { heard = true; spoke = number; alone = 0 } }

pub spoken_is : (s : State) (at : At) → view (speak s at) ≡ spoken_view (view s) at.number
spoken_is s at = refl

clean_freed : (r : Rules) (channel : Channel) (s : State) → IsClean r channel (view s)
    → IsClean r channel (view (freed s))
clean_freed r channel s clean = record {
  found = clean.found;
  away = clean.away;
  rules_are = clean.rules_are;
  channel_is = clean.channel_is;
}

pub hold_is : (s : State) (f : Fields) (at : At) → same_open s.mine.current (Some f.cycle) ≡ false
    → view (place_frame s f at) ≡ held_view (view s) (held_at f at)
unfolding place_frame hold
hold_is s f at other =
    ap view (cond-false (same_open s.mine.current (Some f.cycle))
    (cond (is_anew s.rules s.mine at.time) (open_cycle s f at) (member s f at)) (hold s f at) other)

module _ (r : Rules) (channel : Channel) (pair : IsPair r) where
  member_same : (s : State) (f : Fields) (at : At) (l : LaneView) (spot : Spot) → IsClean r channel (view s)
      → lane_view s.mine ≡ at_spot l spot → IsFurther r.cluster channel spot f → member s f at ≡ came s f at
  unfolding member
  member_same s f at l spot clean here way =
      cond-false (nat_le f.id s.mine.last)
      (find (mark_odd (disturb s) f.id) (Some at) (frame_place s.channel f)
      (with_numbers name.Order s.mine.last f.id))
      (came (skip_before s f at) f at)
      (ap (λ (x : LaneView). nat_le f.id x.last) here ∙ lt-leb f.id spot.last way.later)
      ∙ ap (λ (t : State). came t f at) (before_same s f at (free_of r channel s clean f (s.mine.last + 1)
      (subst (λ (n : ℕ). (k : ℕ) → n + 1 ≤ k → k < min f.id (r.cluster.params.static_slots + 1)
      → due_at r.cluster k channel f.cycle ≡ None)
      (sym (ap (λ (x : LaneView). x.last) here)) way.free)))

  -- a frame of the open cycle
  pub place_is : (s : State) (f : Fields) (at : At) (l : LaneView) (spot : Spot) → IsClean r channel (view s)
      → lane_view s.mine ≡ at_spot l spot → (way : IsFurther r.cluster channel spot f)
      → AgreesBeside (lane_view s.other) s.shown (other_channel channel) way.allowed.due f
      → CameTo r.cluster.params.static_slots (view s) f (at_spot l (after_frame r.cluster.params spot f)) (view
      (place_frame s f at))
  unfolding place_frame
  place_is s f at l spot clean here way agrees =
      subst (λ (t : State). CameTo r.cluster.params.static_slots (view s) f (at_spot l
      (after_frame r.cluster.params spot f)) (view t))
      (sym (cond-true (same_open s.mine.current (Some f.cycle))
      (cond (is_anew s.rules s.mine at.time) (open_cycle s f at) (member s f at)) (hold s f at)
      (ap (λ (x : LaneView). same_open x.current (Some f.cycle)) here
      ∙ eq-eqb spot.cycle f.cycle (sym way.same_cycle))
      ∙ cond-false (is_anew s.rules s.mine at.time) (open_cycle s f at) (member s f at)
      (untimed_anew s.rules s.mine.began at.time
      (ap (λ (q : Rules). q.macrotick == 0) clean.rules_are ∙ pair.untimed))
      ∙ member_same s f at l spot clean here way))
      (came_to r channel pair s f at spot clean l here way.allowed
      (subst (λ (c : Channel). AgreesBeside (lane_view s.other) s.shown (other_channel c) way.allowed.due f)
      (sym clean.channel_is) agrees))

  -- ---- the frame that waits

  settled : (s : State) (h : Held) (next : Option Next) → s.mine.held ≡ Some h
      → opens s.mine.current (next_of h.frame) next ≡ true
      → view (settle s next) ≡ view (open_cycle (freed s) h.frame h.at)
  unfolding settle decide
  settled s h next held opening =
      ap (λ (o : Option Held). view (settle_with s next o)) held
      ∙ ap view (cond-true (opens s.mine.current (next_of h.frame) next) (open_cycle (freed s) h.frame h.at)
      (wrong_count (freed s) h.frame h.at) opening)

  pub settle_begun : (s : State) (h : Held) (next : Option Next) → IsClean r channel (view s)
      → s.mine.held ≡ Some h → s.mine.current ≡ None → s.mine.heard ≡ true
      → (first : IsFirst r.cluster channel h.frame) → opens None (next_of h.frame) next ≡ true
      → AgreesBeside (lane_view s.other) s.shown (other_channel channel) first.allowed.due h.frame
      → IsHeardOf (lane_view s.other) h.at.number
      → Opened r (freed_view (view s)) h.frame h.at.number (view (settle s next))
  settle_begun s h next clean held closed heard first opening agrees other =
      subst (λ (w : View). Opened r (freed_view (view s)) h.frame h.at.number w)
      (sym (settled s h next held (ap (λ (c : Option ℕ). opens c (next_of h.frame) next) closed ∙ opening)))
      (opens_first r channel pair h.frame h.at first (freed s)
      (clean_freed r channel s clean) closed heard refl agrees other)

  pub settle_between : (s : State) (h : Held) (next : Option Next) (l : LaneView) (spot : Spot)
      → IsClean r channel (view s) → lane_view s.mine ≡ record (at_spot l spot) { held = Some h } → spot.cycle < 64
      → (way : IsNext r.cluster channel spot h.frame) → opens (Some spot.cycle) (next_of h.frame) next ≡ true
      → AgreesBeside (lane_view s.other) s.shown (other_channel channel) way.first.allowed.due h.frame
      → IsHeardOf (lane_view s.other) h.at.number
      → Opened r (freed_view (view s)) h.frame h.at.number (view (settle s next))
  settle_between s h next l spot clean here fits way opening agrees other =
      subst (λ (w : View). Opened r (freed_view (view s)) h.frame h.at.number w)
      (sym (settled s h next (ap (λ (x : LaneView). x.held) here)
      (ap (λ (x : LaneView). opens x.current (next_of h.frame) next) here ∙ opening)))
      (opens_next r channel pair h.frame h.at way.first (freed s) l spot (clean_freed r channel s clean)
      (ap (λ (x : LaneView). let y : LaneView = record x { held = None } in y) here) fits way.over way.next_cycle agrees
      other)
