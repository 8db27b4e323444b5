-- All frames of some cycles of a channel leave no finding.
use Rattle.std.proofs.Common.{◌≡◌, ℕ, ◌+◌, ◌%◌, ◌<◌, Bool, true, false, cond, List, ◌∷◌, refl, sym, ap, subst, ◌∙◌, ◌⊎◌}
use Rattle.std.proofs.Common.{inl, inr}
use Rattle.std.specs.Prelude.{Option, Some, None, nat_le}
use Rattle.fr_frame.specs.Fields.{Fields}
use Rattle.fr_hearing.proofs.CameLemmas.{IsPlain, core_at}
use Rattle.fr_hearing.proofs.CoreLemmas.{core}
use Rattle.fr_hearing.proofs.CountLemmas.{opens_same, opens_first, opens_next, next_fits}
use Rattle.fr_hearing.proofs.OpenLemmas.{core_before}
use Rattle.fr_hearing.proofs.StepLemmas.{waiting, held_at, place_further, place_next, settle_at, settle_first}
use Rattle.fr_hearing.proofs.StepLemmas.{settle_next, good_is, spoken}
use Rattle.fr_hearing.specs.Heard.{Spot, cycle_start, after_frame, after_dynamic, IsFirst, IsFurther, IsNext, FollowOn}
use Rattle.fr_judging.specs.declared.lane.Held.{Held}
use Rattle.fr_judging.specs.declared.line.At.{At}
use Rattle.fr_judging.specs.declared.rules.Rules.{Rules}
use Rattle.fr_judging.specs.Judging.{State, place_frame, settle, next_of, speak, good}
use Rattle.fr_judging.specs.Lanes.{opens}
use Rattle.fr_slots.specs.declared.channel.Channel.{Channel}
use Rattle.fr_slots.specs.Parameters.{Parameters}

-- ---- places

pub same_cycle_after : (p : Parameters) (s : Spot) (f : Fields) → (after_frame p s f).cycle ≡ s.cycle
same_cycle_after p s f = by (nat_le f.id p.static_slots)
  where
    by : (b : Bool) → (let t : Spot = cond b (record s { last = f.id }) (after_dynamic p s f) in t).cycle ≡ s.cycle
    by true = refl
    by false = refl

pub last_after_frame : (p : Parameters) (s : Spot) (f : Fields) → (after_frame p s f).last ≡ f.id
last_after_frame p s f = by (nat_le f.id p.static_slots)
  where
    by : (b : Bool) → (let t : Spot = cond b (record s { last = f.id }) (after_dynamic p s f) in t).last ≡ f.id
    by true = refl
    by false = refl

-- ---- the state before the frames that follow

-- the place is in an open cycle
pub record IsOpen (r : Rules) (channel : Channel) (s : State) (fs : List Fields) : Type 0 where
  pub spot : Spot
  pub here : core s ≡ core_at r channel spot
  pub fits : spot.cycle < 64
  pub rest : FollowOn r.cluster channel spot fs

-- the first frame of the next cycle waits
pub record IsWaiting (r : Rules) (channel : Channel) (s : State) (fs : List Fields) : Type 0 where
  pub spot : Spot
  pub held : Held
  pub here : core s ≡ waiting (core_at r channel spot) held
  pub fits : spot.cycle < 64
  pub next : IsNext r.cluster channel spot held.frame
  pub rest : FollowOn r.cluster channel (after_frame r.cluster.params (cycle_start r.cluster.params held.frame.cycle)
      held.frame) fs

-- the first frame of all waits
pub record IsBegun (r : Rules) (channel : Channel) (s : State) (fs : List Fields) : Type 0 where
  pub held : Held
  pub here : core s ≡ waiting (core_before r channel) held
  pub first : IsFirst r.cluster channel held.frame
  pub rest : FollowOn r.cluster channel (after_frame r.cluster.params (cycle_start r.cluster.params held.frame.cycle)
      held.frame) fs

abbrev pub IsOn : Rules → Channel → State → List Fields → Type 0
IsOn r channel s fs = IsOpen r channel s fs ⊎ (IsWaiting r channel s fs ⊎ IsBegun r channel s fs)

-- ---- one frame

abbrev Follows : Rules → Channel → Spot → Fields → List Fields → Type 0
Follows r channel spot f fs =
    (IsFurther r.cluster channel spot f × FollowOn r.cluster channel (after_frame r.cluster.params spot f) fs)
    ⊎ (IsNext r.cluster channel spot f
    × FollowOn r.cluster channel (after_frame r.cluster.params (cycle_start r.cluster.params f.cycle) f) fs)

-- the frame comes to an open cycle
place : (r : Rules) (channel : Channel) (s : State) (at : At) (spot : Spot) (f : Fields) (fs : List Fields)
    → core s ≡ core_at r channel spot → spot.cycle < 64 → IsPlain r → Follows r channel spot f fs
    → IsOn r channel (place_frame s f at) fs
place r channel s at spot f fs e fits plain (inl further) = inl (record {
  spot = after_frame r.cluster.params spot f;
  here = place_further r channel s at spot f e plain further.0;
  fits = subst (λ (n : ℕ). n < 64) (sym (same_cycle_after r.cluster.params spot f)) fits;
  rest = further.1;
})
place r channel s at spot f fs e fits plain (inr next) = inr (inl (record {
  spot = spot;
  held = held_at f at;
  here = place_next r channel s spot f at e fits next.0.next_cycle;
  fits = fits;
  next = next.0;
  rest = next.1;
}))

-- the frame confirms the first one of its cycle
opening : (r : Rules) (channel : Channel) (h : Fields) (g : Fields) (fs : List Fields) (c : Option ℕ)
    → h.cycle < 64
    → (g.cycle ≡ (h.cycle + 1) % 64 → opens c (next_of h) (Some (next_of g)) ≡ true)
    → Follows r channel (after_frame r.cluster.params (cycle_start r.cluster.params h.cycle) h) g fs
    → opens c (next_of h) (Some (next_of g)) ≡ true
opening r channel h g fs c fits by_next (inl further) =
    opens_same c h g
    (further.0.same_cycle ∙ same_cycle_after r.cluster.params (cycle_start r.cluster.params h.cycle) h)
    (subst (λ (n : ℕ). n < g.id) (last_after_frame r.cluster.params (cycle_start r.cluster.params h.cycle) h)
    further.0.later)
opening r channel h g fs c fits by_next (inr next) =
    by_next (next.0.next_cycle ∙ ap (λ (n : ℕ). (n + 1) % 64)
    (same_cycle_after r.cluster.params (cycle_start r.cluster.params h.cycle) h))

opened_fits : (p : Parameters) (h : Fields) → h.cycle < 64 → (after_frame p (cycle_start p h.cycle) h).cycle < 64
opened_fits p h fits = subst (λ (n : ℕ). n < 64) (sym (same_cycle_after p (cycle_start p h.cycle) h)) fits

settled : (r : Rules) (channel : Channel) (s : State) (at : At) (f : Fields) (fs : List Fields)
    → IsPlain r → IsOn r channel s (f ∷ fs)
    → IsOn r channel (place_frame (settle (speak s at) (Some (next_of f))) f at) fs
settled r channel s at f fs plain (inl open_one) =
    place r channel (settle (speak s at) (Some (next_of f))) at open_one.spot f fs
    (settle_at r channel (speak s at) open_one.spot (Some (next_of f))
    (spoken (core_at r channel open_one.spot) s at open_one.here))
    open_one.fits plain open_one.rest
settled r channel s at f fs plain (inr (inl w)) =
    let h : Fields = w.held.frame in
    let fits : h.cycle < 64 = next_fits w.spot.cycle h.cycle w.next.next_cycle in
    place r channel (settle (speak s at) (Some (next_of f))) at
    (after_frame r.cluster.params (cycle_start r.cluster.params h.cycle) h) f fs
    (settle_next r channel (speak s at) w.spot w.held (Some (next_of f))
    (spoken (waiting (core_at r channel w.spot) w.held) s at w.here) plain w.fits w.next
    (opening r channel h f fs (Some w.spot.cycle) fits
    (opens_next w.spot.cycle h f w.fits w.next.next_cycle) w.rest))
    (opened_fits r.cluster.params h fits) plain w.rest
settled r channel s at f fs plain (inr (inr b)) =
    let h : Fields = b.held.frame in
    let fits : h.cycle < 64 = b.first.allowed.count_fits in
    place r channel (settle (speak s at) (Some (next_of f))) at
    (after_frame r.cluster.params (cycle_start r.cluster.params h.cycle) h) f fs
    (settle_first r channel (speak s at) b.held (Some (next_of f))
    (spoken (waiting (core_before r channel) b.held) s at b.here) plain b.first
    (opening r channel h f fs None fits (opens_first h f fits) b.rest))
    (opened_fits r.cluster.params h fits) plain b.rest

pub next_frame : (r : Rules) (channel : Channel) (s : State) (at : At) (f : Fields) (fs : List Fields)
    → IsPlain r → IsOn r channel s (f ∷ fs) → IsOn r channel (good s f at) fs
next_frame r channel s at f fs plain on =
    subst (λ (t : State). IsOn r channel t fs) (sym (good_is s f at)) (settled r channel s at f fs plain on)
