-- Each frame of a channel leaves a finding, or follows the frames before it as the cluster allows.
use Rattle.std.proofs.Common.{◌≡◌, ℕ, ◌+◌, ◌<◌, ◌≤◌, Bool, true, false, cond, List, ◌∷◌, refl, sym, ap, subst, ◌∙◌}
use Rattle.std.proofs.Common.{arith, length, ◌⊎◌, inl, inr}
use Rattle.std.proofs.lemmas.Bool.{cond-true, cond-false, eqb-true, leb-false}
use Rattle.std.specs.Prelude.{Option, Some, min, nat_le, ◌==◌}
use Rattle.std.specs.Option.{is_none}
use Rattle.fr_frame.specs.Fields.{Fields}
use Rattle.fr_hearing.proofs.CameLemmas.{IsPlain, core_at}
use Rattle.fr_hearing.proofs.ConverseLemmas.{IsLawful}
use Rattle.fr_hearing.proofs.CoreLemmas.{Core, core}
use Rattle.fr_hearing.proofs.CourseLemmas.{same_cycle_after}
use Rattle.fr_hearing.proofs.FoundLemmas.{before_is, came_is, first_is, next_is}
use Rattle.fr_hearing.proofs.OpenLemmas.{core_before, before_none}
use Rattle.fr_hearing.proofs.SpelledLemmas.{IsSized}
use Rattle.fr_hearing.proofs.StepLemmas.{waiting, held_at, freed, free_core, settle_none, settle_at, settle_first}
use Rattle.fr_hearing.proofs.StepLemmas.{settle_next, place_further, place_other, place_first, good_is, spoken}
use Rattle.fr_hearing.proofs.StepLemmas.{untimed_anew}
use Rattle.fr_hearing.proofs.ToldLemmas.{Told, find_told, came_keeps, place_keeps}
use Rattle.fr_hearing.specs.Heard.{Spot, cycle_start, after_frame, IsAllowed, IsFirst, IsFurther, IsNext, AreFree}
use Rattle.fr_hearing.specs.Heard.{FollowOn, AreHeard, static_end as end_of}
use Rattle.fr_judging.specs.declared.lane.Held.{Held}
use Rattle.fr_judging.specs.declared.lane.Next.{Next}
use Rattle.fr_judging.specs.declared.line.At.{At}
use Rattle.fr_judging.specs.declared.rules.Rules.{Rules}
use Rattle.fr_judging.specs.Distances.{is_anew}
use Rattle.fr_judging.specs.Judging.{State, find, came, skip_before, member, mark_odd, disturb, open_first, open_next}
use Rattle.fr_judging.specs.Judging.{open_cycle, wrong_count, decide, settle, settle_with, hold, place_frame, speak}
use Rattle.fr_judging.specs.Judging.{good, next_of, none_found}
use Rattle.fr_judging.specs.Lanes.{same_open, opens}
use Rattle.fr_judging.specs.Rules.{has_sender_in}
use Rattle.fr_logged.specs.declared.finding.Finding.{Finding}
use Rattle.fr_logged.specs.declared.finding.Name.TheVariants as name
use Rattle.fr_logged.specs.Findings.{with_numbers}
use Rattle.fr_logged.specs.Logged.{place_of as frame_place}
use Rattle.fr_recording.specs.Numbers.{most_counted}
use Rattle.fr_slots.specs.declared.channel.Channel.{Channel}

-- a good frame: spelled, and in a slot of the cluster
pub record IsGood (r : Rules) (f : Fields) : Type 0 where
  pub sized : IsSized f
  pub lawful : IsLawful r.cluster.params.static_slots r.cluster.params.minislots f.id

-- The channel is judged as a whole, alone and without times.
pub record IsWhole (r : Rules) : Type 0 where
  pub plain : IsPlain r
  pub whole : r.whole ≡ true
  pub few : r.cluster.params.minislots < most_counted

-- ---- the places of a channel

-- No frame came yet, or the first one waits. A cycle is open, or the frame of another one waits then.
pub data Stage : Type 0 where
  before : Stage
  begun : Held → Stage
  within : Spot → Stage
  between : Spot → Held → Stage

abbrev pub stage_core : Rules → Channel → Stage → Core
stage_core r channel before = record (core_before r channel) { heard = false }
stage_core r channel (begun h) = waiting (core_before r channel) h
stage_core r channel (within spot) = core_at r channel spot
stage_core r channel (between spot h) = waiting (core_at r channel spot) h

abbrev pub Sound : Rules → Stage → Type 0
Sound r before = Unit {0}
Sound r (begun h) = IsGood r h.frame
Sound r (within spot) = spot.cycle < 64
Sound r (between spot h) = (spot.cycle < 64) × IsGood r h.frame

-- what the frames from there on are
abbrev pub Rest : Rules → Channel → Stage → List Fields → Type 0
Rest r channel before fs =
    AreHeard r.cluster channel fs × (has_sender_in r channel ≡ true → 1 ≤ length fs)
Rest r channel (begun h) fs = AreHeard r.cluster channel (h.frame ∷ fs)
Rest r channel (within spot) fs = FollowOn r.cluster channel spot fs
Rest r channel (between spot h) fs = FollowOn r.cluster channel spot (h.frame ∷ fs)

-- a frame leads from one place to the next
pub record Leads (r : Rules) (channel : Channel) (s : State) (from : Stage) (f : Fields) : Type 0 where
  pub next : Stage
  pub here : core s ≡ stage_core r channel next
  pub sound : Sound r next
  pub follows : (fs : List Fields) → Rest r channel next fs → Rest r channel from (f ∷ fs)

abbrev opened : Rules → Fields → Spot
opened r f = after_frame r.cluster.params (cycle_start r.cluster.params f.cycle) f

module _ (r : Rules) (channel : Channel) (is : IsWhole r) where
  -- ---- a frame of the open cycle

  member_is : (s : State) (at : At) (spot : Spot) (f : Fields) → core s ≡ core_at r channel spot
      → spot.cycle ≡ f.cycle → IsGood r f → Told (member s f at) ⊎ IsFurther r.cluster channel spot f
  unfolding member
  member_is s at spot f e same g = by (nat_le f.id s.mine.last) refl
    where
      x : Finding
      x = with_numbers name.Order s.mine.last f.id

      last_is : s.mine.last ≡ spot.last
      last_is = ap (λ (c : Core). c.last) e

      later : nat_le f.id s.mine.last ≡ false → spot.last < f.id
      later above = subst (λ (n : ℕ). n < f.id) last_is (leb-false f.id s.mine.last above)

      free_then : nat_le f.id s.mine.last ≡ false
          → AreFree r.cluster channel f.cycle (spot.last + 1) (min f.id (end_of r.cluster))
          → Told (came s f at) ⊎ IsAllowed r.cluster channel spot f
          → Told (came (skip_before s f at) f at) ⊎ IsFurther r.cluster channel spot f
      free_then above free (inl told) = inl (subst (λ (t : State). Told (came t f at))
          (sym (before_none (core_at r channel spot) s f at e free)) told)
      free_then above free (inr allowed) = inr (record {
        same_cycle = sym same;
        later = later above;
        free = free;
        allowed = allowed;
      })

      skipped_then : nat_le f.id s.mine.last ≡ false
          → Told (skip_before s f at)
          ⊎ AreFree r.cluster channel f.cycle (spot.last + 1) (min f.id (end_of r.cluster))
          → Told (came (skip_before s f at) f at) ⊎ IsFurther r.cluster channel spot f
      skipped_then above (inl told) = inl (came_keeps (skip_before s f at) f at told)
      skipped_then above (inr free) =
          free_then above free (came_is r channel is.plain s f at spot e g.sized g.lawful is.whole is.few)

      by : (b : Bool) → nat_le f.id s.mine.last ≡ b
          → Told (cond b (find (mark_odd (disturb s) f.id) (Some at) (frame_place s.channel f) x)
          (came (skip_before s f at) f at)) ⊎ IsFurther r.cluster channel spot f
      by true low = inl (find_told (mark_odd (disturb s) f.id) (Some at) (frame_place s.channel f) x
          (ap (λ (c : Core). c.found) e))
      by false above = skipped_then above (before_is r channel is.plain s f at spot e)

  place_member : (s : State) (at : At) (spot : Spot) (f : Fields) → core s ≡ core_at r channel spot
      → (spot.cycle == f.cycle) ≡ true → place_frame s f at ≡ member s f at
  unfolding place_frame
  place_member s at spot f e same =
      cond-true (same_open s.mine.current (Some f.cycle))
      (cond (is_anew s.rules s.mine at.time) (open_cycle s f at) (member s f at)) (hold s f at)
      (ap (λ (c : Core). same_open c.current (Some f.cycle)) e ∙ same)
      ∙ cond-false (is_anew s.rules s.mine at.time) (open_cycle s f at) (member s f at)
      (untimed_anew s.rules s.mine.began at.time
      (ap (λ (c : Core). c.rules.macrotick == 0) e ∙ is.plain.untimed))

  -- the frame comes to an open cycle
  placed : (s : State) (at : At) (spot : Spot) (f : Fields) → core s ≡ core_at r channel spot → spot.cycle < 64
      → IsGood r f → Told (place_frame s f at) ⊎ Leads r channel (place_frame s f at) (within spot) f
  placed s at spot f e fits g = by (spot.cycle == f.cycle) refl
    where
      further : Told (member s f at) ⊎ IsFurther r.cluster channel spot f → (spot.cycle == f.cycle) ≡ true
          → Told (place_frame s f at) ⊎ Leads r channel (place_frame s f at) (within spot) f
      further (inl told) same = inl (subst Told (sym (place_member s at spot f e same)) told)
      further (inr way) same = inr (record {
        next = within (after_frame r.cluster.params spot f);
        here = place_further r channel s at spot f e is.plain way;
        sound = subst (λ (n : ℕ). n < 64) (sym (same_cycle_after r.cluster.params spot f)) fits;
        follows = λ fs rest. inl (way, rest);
      })

      by : (b : Bool) → (spot.cycle == f.cycle) ≡ b
          → Told (place_frame s f at) ⊎ Leads r channel (place_frame s f at) (within spot) f
      by true same = further (member_is s at spot f e (eqb-true spot.cycle f.cycle same) g) same
      by false other = inr (record {
        next = between spot (held_at f at);
        here = place_other (core_at r channel spot) s f at e other;
        sound = (fits, g);
        follows = λ fs rest. rest;
      })

  -- ---- the frame that waits

  wrong_told : (s : State) (f : Fields) (at : At) → s.found ≡ none_found
      → Told (wrong_count s f at)
  unfolding wrong_count
  wrong_told s f at none = find_told (mark_odd (disturb s) f.id) (Some at) (frame_place s.channel f) _ none

  decided : (s : State) (h : Held) (next : Option Next) (X : Type 0) → s.found ≡ none_found
      → Told (open_cycle s h.frame h.at) ⊎ X
      → Told (decide s h.frame h.at next) ⊎ ((opens s.mine.current (next_of h.frame) next ≡ true) × X)
  unfolding decide
  decided s h next X none either = by (opens s.mine.current (next_of h.frame) next) refl either
    where
      by : (b : Bool) → opens s.mine.current (next_of h.frame) next ≡ b → Told (open_cycle s h.frame h.at) ⊎ X
          → Told (cond b (open_cycle s h.frame h.at) (wrong_count s h.frame h.at))
          ⊎ ((opens s.mine.current (next_of h.frame) next ≡ true) × X)
      by true is_open (inl told) = inl told
      by true is_open (inr x) = inr (is_open, x)
      by false shut either = inl (wrong_told s h.frame h.at none)

  settled_told : (s : State) (h : Held) (next : Option Next) → s.mine.held ≡ Some h
      → Told (decide (freed s) h.frame h.at next) → Told (settle s next)
  unfolding settle
  settled_told s h next held told = subst (λ (o : Option Held). Told (settle_with s next o)) (sym held) told

  first_opens : (s : State) (f : Fields) (at : At) → core s ≡ core_before r channel → IsGood r f
      → Told (open_cycle s f at) ⊎ IsFirst r.cluster channel f
  unfolding open_cycle
  first_opens s f at e g = elim (first_is r channel is.plain f at g.sized g.lawful is.whole is.few s e) [
    | inl told ↦ inl (subst Told (sym (cond-true (is_none s.mine.current) (open_first s f at) (open_next s f at)
        (ap (λ (c : Core). is_none c.current) e))) told)
    | inr first ↦ inr first
  ]

  next_opens : (s : State) (spot : Spot) (f : Fields) (at : At) → core s ≡ core_at r channel spot → spot.cycle < 64
      → IsGood r f → Told (open_cycle s f at) ⊎ IsNext r.cluster channel spot f
  unfolding open_cycle
  next_opens s spot f at e fits g =
      elim (next_is r channel is.plain f at g.sized g.lawful is.whole is.few s spot e fits) [
        | inl told ↦ inl (subst Told (sym (cond-false (is_none s.mine.current) (open_first s f at) (open_next s f at)
            (ap (λ (c : Core). is_none c.current) e))) told)
        | inr next ↦ inr next
      ]

  -- the first frame no longer waits
  pub begun_settles : (s : State) (h : Held) (next : Option Next) → core s ≡ waiting (core_before r channel) h
      → IsGood r h.frame → Told (settle s next)
      ⊎ (IsFirst r.cluster channel h.frame
      × (core (settle s next) ≡ core_at r channel (after_frame r.cluster.params
      (cycle_start r.cluster.params h.frame.cycle) h.frame)))
  begun_settles s h next e g =
      by (decided (freed s) h next (IsFirst r.cluster channel h.frame) (ap (λ (c : Core). c.found) e)
      (first_opens (freed s) h.frame h.at (ap free_core e) g))
    where
      by : Told (decide (freed s) h.frame h.at next)
          ⊎ ((opens (freed s).mine.current (next_of h.frame) next ≡ true) × IsFirst r.cluster channel h.frame)
          → Told (settle s next)
          ⊎ (IsFirst r.cluster channel h.frame
          × (core (settle s next) ≡ core_at r channel (after_frame r.cluster.params
          (cycle_start r.cluster.params h.frame.cycle) h.frame)))
      by (inl told) = inl (settled_told s h next (ap (λ (c : Core). c.held) e) told)
      by (inr way) = inr (
        way.1,
        settle_first r channel s h next e is.plain way.1
            (ap (λ (c : Core). opens c.current (next_of h.frame) next) (sym e) ∙ way.0),
      )

  pub between_settles : (s : State) (spot : Spot) (h : Held) (next : Option Next)
      → core s ≡ waiting (core_at r channel spot) h → spot.cycle < 64 → IsGood r h.frame → Told (settle s next)
      ⊎ (IsNext r.cluster channel spot h.frame
      × (core (settle s next) ≡ core_at r channel (after_frame r.cluster.params
      (cycle_start r.cluster.params h.frame.cycle) h.frame)))
  between_settles s spot h next e fits g =
      by (decided (freed s) h next (IsNext r.cluster channel spot h.frame) (ap (λ (c : Core). c.found) e)
      (next_opens (freed s) spot h.frame h.at (ap free_core e) fits g))
    where
      by : Told (decide (freed s) h.frame h.at next)
          ⊎ ((opens (freed s).mine.current (next_of h.frame) next ≡ true) × IsNext r.cluster channel spot h.frame)
          → Told (settle s next)
          ⊎ (IsNext r.cluster channel spot h.frame
          × (core (settle s next) ≡ core_at r channel (after_frame r.cluster.params
          (cycle_start r.cluster.params h.frame.cycle) h.frame)))
      by (inl told) = inl (settled_told s h next (ap (λ (c : Core). c.held) e) told)
      by (inr way) = inr (
        way.1,
        settle_next r channel s spot h next e is.plain fits way.1
            (ap (λ (c : Core). opens c.current (next_of h.frame) next) (sym e) ∙ way.0),
      )

  opened_fits : (f : Fields) → IsGood r f
      → (after_frame r.cluster.params (cycle_start r.cluster.params f.cycle) f).cycle < 64
  opened_fits f g = subst (λ (n : ℕ). n < 64)
      (sym (same_cycle_after r.cluster.params (cycle_start r.cluster.params f.cycle) f)) g.sized.count_fits

  -- ---- a good frame

  pub good_at : (s : State) (from : Stage) (f : Fields) (at : At) → core s ≡ stage_core r channel from → Sound r from
      → IsGood r f → Told (good s f at) ⊎ Leads r channel (good s f at) from f
  good_at s before f at e sound g =
      let spoke : core (speak s at) ≡ core_before r channel = spoken (stage_core r channel before) s at e in
      let none : settle (speak s at) (Some (next_of f)) ≡ speak s at =
      settle_none (speak s at) (Some (next_of f)) (ap (λ (c : Core). c.held) spoke) in
      inr (record {
        next = begun (held_at f at);
        here = ap core (good_is s f at) ∙ ap (λ (t : State). core (place_frame t f at)) none
            ∙ place_first r channel (speak s at) f at spoke;
        sound = g;
        follows = λ fs rest. (rest, λ some. omega arith);
      })
  good_at s (begun h) f at e sound g =
      by (begun_settles (speak s at) h (Some (next_of f)) (spoken (waiting (core_before r channel) h) s at e) sound)
    where
      t : State
      t = settle (speak s at) (Some (next_of f))

      then : IsFirst r.cluster channel h.frame
          → Told (place_frame (settle (speak s at) (Some (next_of f))) f at)
          ⊎ Leads r channel (place_frame (settle (speak s at) (Some (next_of f))) f at) (within (opened r h.frame)) f
          → Told (good s f at) ⊎ Leads r channel (good s f at) (begun h) f
      then first (inl told) = inl (subst Told (sym (good_is s f at)) told)
      then first (inr way) = inr (record {
        next = way.next;
        here = ap core (good_is s f at) ∙ way.here;
        sound = way.sound;
        follows = λ fs rest. (first, way.follows fs rest);
      })

      by : Told (settle (speak s at) (Some (next_of f)))
          ⊎ (IsFirst r.cluster channel h.frame
          × (core (settle (speak s at) (Some (next_of f))) ≡ core_at r channel (after_frame r.cluster.params
          (cycle_start r.cluster.params h.frame.cycle) h.frame)))
          → Told (good s f at) ⊎ Leads r channel (good s f at) (begun h) f
      by (inl told) = inl (subst Told (sym (good_is s f at))
          (place_keeps (settle (speak s at) (Some (next_of f))) f at told))
      by (inr way) = then way.0 (placed (settle (speak s at) (Some (next_of f))) at (opened r h.frame) f way.1
          (opened_fits h.frame sound) g)
  good_at s (within spot) f at e sound g = by (placed (settle (speak s at) (Some (next_of f))) at spot f
      (settle_at r channel (speak s at) spot (Some (next_of f)) (spoken (core_at r channel spot) s at e)) sound g)
    where
      by : Told (place_frame (settle (speak s at) (Some (next_of f))) f at)
          ⊎ Leads r channel (place_frame (settle (speak s at) (Some (next_of f))) f at) (within spot) f
          → Told (good s f at) ⊎ Leads r channel (good s f at) (within spot) f
      by (inl told) = inl (subst Told (sym (good_is s f at)) told)
      by (inr way) = inr (record {
        next = way.next;
        here = ap core (good_is s f at) ∙ way.here;
        sound = way.sound;
        follows = way.follows;
      })
  good_at s (between spot h) f at e sound g =
      by (between_settles (speak s at) spot h (Some (next_of f)) (spoken (waiting (core_at r channel spot) h) s at e)
      sound.0 sound.1)
    where
      then : IsNext r.cluster channel spot h.frame
          → Told (place_frame (settle (speak s at) (Some (next_of f))) f at)
          ⊎ Leads r channel (place_frame (settle (speak s at) (Some (next_of f))) f at) (within (opened r h.frame)) f
          → Told (good s f at) ⊎ Leads r channel (good s f at) (between spot h) f
      then next (inl told) = inl (subst Told (sym (good_is s f at)) told)
      then next (inr way) = inr (record {
        next = way.next;
        here = ap core (good_is s f at) ∙ way.here;
        sound = way.sound;
        follows = λ fs rest. inr (next, way.follows fs rest);
      })

      by : Told (settle (speak s at) (Some (next_of f)))
          ⊎ (IsNext r.cluster channel spot h.frame
          × (core (settle (speak s at) (Some (next_of f))) ≡ core_at r channel (after_frame r.cluster.params
          (cycle_start r.cluster.params h.frame.cycle) h.frame)))
          → Told (good s f at) ⊎ Leads r channel (good s f at) (between spot h) f
      by (inl told) = inl (subst Told (sym (good_is s f at))
          (place_keeps (settle (speak s at) (Some (next_of f))) f at told))
      by (inr way) = then way.0 (placed (settle (speak s at) (Some (next_of f))) at (opened r h.frame) f way.1
          (opened_fits h.frame sound.1) g)
