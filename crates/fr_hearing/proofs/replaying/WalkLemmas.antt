-- A run that follows some frames, window by window, to its end.
use Rattle.std.proofs.Common.{◌≡◌, ℕ, zero, suc, ◌+◌, ◌-◌, ◌*◌, ◌%◌, ◌<◌, ◌≤◌, Bool, true, false, cond, ◌&&◌, List, []}
use Rattle.std.proofs.Common.{◌∷◌, ◌++◌, length, Option, Some, None, refl, sym, ap, subst, ◌∙◌, arith, inl, inr}
use Rattle.std.specs.Prelude.{nat_le}
use Rattle.std.proofs.lemmas.Bool.{le-leb, lt-leb, leb-true, leb-false, ne_eqb}
use Rattle.std.proofs.lemmas.Bool.Decides.{eqb_tells}
use Rattle.std.proofs.lemmas.List.{append_assoc, append-nil}
use Rattle.std.proofs.Math.Nat.{mul-le-mul_right}
use Rattle.fr_bus.specs.Courses.{Standpoint, course_of, cycle_of, opportunities, first_passed, opening}
use Rattle.fr_bus.specs.Outcome.{longest}
use Rattle.fr_bus.specs.Record.{Recorded}
use Rattle.fr_bus.specs.Windows.{following, cycles_begun, counts_on, this_cycle}
use Rattle.fr_core.proofs.CaseLemmas.{both}
use Rattle.fr_core.specs.Worlds.{WorldState}
use Rattle.fr_frame.specs.Encoding.{encoded}
use Rattle.fr_frame.specs.Fields.{Fields}
use Rattle.fr_guarantees.proofs.ExactLemmas.{small_mod}
use Rattle.fr_guarantees.proofs.HeardLemmas.{longest_none}
use Rattle.fr_guarantees.proofs.HoldingLemmas.{nothing_kept}
use Rattle.fr_guarantees.proofs.LeadLemmas.{leads_not, leads_on}
use Rattle.fr_guarantees.proofs.PassingLemmas.{IsAt}
use Rattle.fr_guarantees.proofs.ProgressLemmas.{course_next, windows_fit, goes_on, next_later, begun_next, HasLater}
use Rattle.fr_guarantees.proofs.StaticLemmas.{static_follows}
use Rattle.fr_guarantees.proofs.WalkLemmas.{one_more}
use Rattle.fr_guarantees.specs.Exactness.{HasRoom}
use Rattle.fr_guarantees.specs.Leading.{Leads}
use Rattle.fr_hearing.proofs.CourseLemmas.{last_after_frame, same_cycle_after}
use Rattle.fr_hearing.proofs.NextLemmas.{IsFirst as IsFirstWindow, IsNextOf, next_window, static_passed, dynamic_passed}
use Rattle.fr_hearing.proofs.NextLemmas.{lane_of, after_first, after_static as course_static}
use Rattle.fr_hearing.proofs.NextLemmas.{after_dynamic as course_dynamic, slot_opened, opened_is, some_minislot}
use Rattle.fr_hearing.proofs.PassageLemmas.{IsAt as IsAtSpot, cycle_below, static_loud, static_quiet, first_at}
use Rattle.fr_hearing.proofs.PassageLemmas.{dynamic_quiet, dynamic_loud, after_static, slot_static}
use Rattle.fr_hearing.proofs.replaying.GoneLemmas.{IsGone}
use Rattle.fr_hearing.proofs.replaying.PlaceLemmas.{lane_static, lane_dynamic, lane_first, strictly, passed_slot}
use Rattle.fr_hearing.proofs.replaying.PlaceLemmas.{next_slot, later_by, same_slot, cycle_after}
use Rattle.fr_hearing.proofs.replaying.StepLemmas.{silent_is, IsLoudAs, loud_is, due_of_none, static_allowed}
use Rattle.fr_hearing.proofs.replaying.StepLemmas.{dynamic_allowed, fits_here, free_static, free_dynamic, owners_gone}
use Rattle.fr_hearing.proofs.replaying.StepLemmas.{senders_gone}
use Rattle.fr_hearing.specs.Heard.{Spot, cycle_start, after_frame, AreFree, IsFirst, IsFurther, FollowOn, IsOwners}
use Rattle.fr_hearing.specs.Listening.{IsThere}
use Rattle.fr_hearing.specs.Offering.{IsDueThere}
use Rattle.fr_hearing.specs.Replays.{cycles_after}
use Rattle.fr_hearing.specs.Runs.{AreReceived}
use Rattle.fr_judging.specs.Rules.{due_at}
use Rattle.fr_logged.specs.declared.due.Due.{Due}
use Rattle.fr_logged.specs.Dues.{due_of}
use Rattle.fr_minislot.specs.DynamicRows.{has_row_after}
use Rattle.fr_minislot.specs.Lanes.{Standing, opened_in}
use Rattle.fr_schedule.specs.Clusters.{IsCluster}
use Rattle.fr_schedule.specs.Descriptions.{Description}
use Rattle.fr_slots.proofs.PlaceLemmas.{same_some}
use Rattle.fr_slots.specs.declared.channel.Channel.{Channel}
use Rattle.fr_slots.specs.declared.channel.Channel.TheVariants.{A, B}
use Rattle.fr_slots.specs.Numbers.{last_slot}
use Rattle.fr_slots.specs.Parameters.{is_static_slot}
use Rattle.fr_slots.specs.Windows.{Opportunity, slot_of, is_static, static_window, opens_cycle, is_first_slot}
use Rattle.fr_slots.specs.Windows.{window_fits}

module _ (d : Description) (lawful : IsCluster d) (cycles most : ℕ) (room : HasRoom d cycles most)
    (channel : Channel) where
  abbrev course : WorldState → Standpoint
  course w = course_of d.params cycles w.bus.sealed

  -- ---- a run on the way

  -- the slot of the frame comes later in this cycle
  record IsAhead (c : Standpoint) (g : Fields) : Type 0 where
    static : g.id ≤ d.params.static_slots → c.statics < g.id
    dynamic : d.params.static_slots < g.id → (lane_of channel c).slot ≤ g.id

  abbrev Ahead : Standpoint → (s : Spot) (gs : List Fields) → FollowOn d channel s gs → Type 0
  Ahead c s [] over = Unit {0}
  Ahead c s (g ∷ gs) (inl further) = IsAhead c g
  Ahead c s (g ∷ gs) (inr next) = Unit {0}

  abbrev IsUnopened : Standpoint → Type 0
  IsUnopened c = c.statics < d.params.static_slots → (lane_of channel c).slot ≡ d.params.static_slots + 1

  -- these frames are to follow
  record IsOn (calls : ℕ) (w : WorldState) (s : Spot) (gs : List Fields) : Type 0 where
    is_at : IsAt d cycles nothing_kept calls w
    at : IsAtSpot d channel (course w) s
    follow : FollowOn d channel s gs
    ahead : Ahead (course w) s gs follow
    unopened : IsUnopened (course w)

  -- they followed, up to the end of the run
  pub record IsWalked (w : WorldState) (gs : List Fields) : Type 0 where
    pub world : WorldState
    pub leads : Leads w world
    pub finished : following d.params cycles world.bus.sealed ≡ None
    pub calls : ℕ
    pub is_at : IsAt d cycles nothing_kept calls world
    pub rest : List Recorded
    pub sealed : world.bus.sealed ≡ w.bus.sealed ++ rest
    pub received : AreReceived d.params channel rest gs

  walked_quiet : (calls : ℕ) (w : WorldState) (window : Opportunity) (gs : List Fields)
      → (gone : IsGone d cycles calls w window channel None) → IsWalked gone.world gs → IsWalked w gs
  walked_quiet calls w window gs gone walked = record {
    world = walked.world;
    leads = leads_on gone.leads walked.leads;
    finished = walked.finished;
    calls = walked.calls;
    is_at = walked.is_at;
    rest = gone.recorded ∷ walked.rest;
    sealed = walked.sealed ∙ ap (λ (l : List Recorded). l ++ walked.rest) gone.sealed
        ∙ append_assoc w.bus.sealed (gone.recorded ∷ []) walked.rest;
    received = inl (silent_is d.params channel gone.recorded gone.passed_as, walked.received);
  }

  walked_loud : (calls : ℕ) (w : WorldState) (window : Opportunity) (g : Fields) (gs : List Fields)
      → (gone : IsGone d cycles calls w window channel (Some g)) → IsLoudAs d channel gone.recorded g
      → IsWalked gone.world gs → IsWalked w (g ∷ gs)
  walked_loud calls w window g gs gone loud walked = record {
    world = walked.world;
    leads = leads_on gone.leads walked.leads;
    finished = walked.finished;
    calls = walked.calls;
    is_at = walked.is_at;
    rest = gone.recorded ∷ walked.rest;
    sealed = walked.sealed ∙ ap (λ (l : List Recorded). l ++ walked.rest) gone.sealed
        ∙ append_assoc w.bus.sealed (gone.recorded ∷ []) walked.rest;
    received = inr (
      loud.loud.bytes,
      g,
      gs,
      refl,
      loud.loud.hears,
      loud.loud.spelled ∙ ap (λ (f : Fields). encoded f channel) loud.frame_is,
      walked.received,
    );
  }

  abbrev Walks : ℕ → Type 0
  Walks fuel = (calls : ℕ) (w : WorldState) (s : Spot) (gs : List Fields) → IsOn calls w s gs
      → cycles_begun w.bus.sealed + cycles_after s.cycle gs ≡ cycles → calls + 3 * length gs ≤ most
      → length w.bus.sealed + fuel ≡ cycles * opportunities d.params + 1 → IsWalked w gs

  begun_after : (v w : WorldState) (r : Recorded) (window : Opportunity) (b : Bool)
      → v.bus.sealed ≡ w.bus.sealed ++ r ∷ [] → r.window ≡ window → opens_cycle window ≡ b
      → cycles_begun v.bus.sealed ≡ cycles_begun w.bus.sealed + cond b 1 0
  begun_after v w r window b sealed is opens =
      ap cycles_begun sealed ∙ begun_next w.bus.sealed r b (ap opens_cycle is ∙ opens)

  -- the frame of this window, as a listener receives it
  static_there : (window : Opportunity) (slot : ℕ) (g : Fields) (x : Due) → is_static window ≡ true → g.id ≡ slot
      → g.cycle ≡ window.cycle → due_of d slot channel window.cycle ≡ Some x
      → IsOwners x g → IsThere d window channel slot g (is_static window)
  static_there window slot g x static id cycle due owners =
      subst (IsThere d window channel slot g) (sym static) (record {
        id_is = id;
        cycle_is = cycle;
        due = x;
        due_is = due;
        owners = owners;
      })

  heard_as : (calls : ℕ) (w : WorldState) (window : Opportunity) (slot : ℕ) (g : Fields)
      → (gone : IsGone d cycles calls w window channel (Some g))
      → window_fits d.params window ≡ true → slot_of window channel ≡ Some slot
      → IsThere d window channel slot g (is_static window) → IsLoudAs d channel gone.recorded g
  heard_as calls w window slot g gone fits slot_is there =
      loud_is d channel gone.recorded g slot lawful
      (ap (window_fits d.params) gone.window_is ∙ fits)
      (ap (λ (v : Opportunity). slot_of v channel) gone.window_is ∙ slot_is) gone.whole
      (subst (λ (v : Opportunity). IsThere d v channel slot g (is_static v)) (sym gone.window_is) there) gone.passed_as

  -- ---- a static window

  module _ (fuel : ℕ) (again : Walks fuel) (calls : ℕ) (w : WorldState) (s : Spot)
      (is_at : IsAt d cycles nothing_kept calls w) (at : IsAtSpot d channel (course w) s)
      (unopened : IsUnopened (course w)) (count : length w.bus.sealed + suc fuel ≡ cycles * opportunities d.params + 1)
      (window : Opportunity) (next : following d.params cycles w.bus.sealed ≡ Some window)
      (further : (course w).statics < d.params.static_slots)
      (is : window ≡ static_window (course w).windows (cycle_of (course w)) ((course w).statics + 1)) where
    slot : ℕ
    slot = (course w).statics + 1

    static_few : d.params.static_slots ≤ 1023
    static_few = lawful.params_are.static_slots_fit.at_most

    static_is : is_static window ≡ true
    static_is = ap is_static is

    slot_here : slot_of window channel ≡ Some ((course w).statics + 1)
    slot_here = ap (λ (v : Opportunity). slot_of v channel) is
        ∙ slot_static channel (course w).windows (cycle_of (course w)) ((course w).statics + 1)

    static_here : is_static_slot d.params ((course w).statics + 1) ≡ true
    static_here = le-leb ((course w).statics + 1) d.params.static_slots (omega (arith, further))

    cycle_here : window.cycle ≡ s.cycle
    cycle_here = ap (λ (v : Opportunity). v.cycle) is ∙ sym at.cycle_is

    cycle_fits : window.cycle < 64
    cycle_fits = subst (λ (n : ℕ). n < 64) (sym (ap (λ (v : Opportunity). v.cycle) is)) (cycle_below (course w))

    shut : opens_cycle window ≡ false
    shut = ap opens_cycle is
        ∙ ne_eqb ((course w).statics + 1) 1 (λ one. let some = at.some_static in
        let none : ⊥ = omega (arith, one, some) in none)

    course_after : (v : WorldState) (r : Recorded) → v.bus.sealed ≡ w.bus.sealed ++ r ∷ [] → r.window ≡ window
        → course v ≡ static_passed (course w)
    course_after v r sealed window_is =
        ap (course_of d.params cycles) sealed
        ∙ course_static d.params cycles w.bus.sealed r (course w).windows (cycle_of (course w)) (course w).statics
        at.some_static (window_is ∙ is)

    unopened_after : IsUnopened (static_passed (course w))
    unopened_after more = ap (λ (l : Standing). l.slot) (lane_static channel (course w)) ∙ unopened further

    quiet_static : (gs : List Fields) (follow : FollowOn d channel s gs) → Ahead (static_passed (course w)) s gs follow
        → due_at d ((course w).statics + 1) channel s.cycle ≡ None
        → cycles_begun w.bus.sealed + cycles_after s.cycle gs ≡ cycles → calls + 3 * length gs ≤ most → IsWalked w gs
    quiet_static gs follow ahead none left enough =
        let few = static_few in
        let due : due_of d ((course w).statics + 1) channel window.cycle ≡ None =
        ap (due_of d ((course w).statics + 1) channel) cycle_here
        ∙ due_of_none d ((course w).statics + 1) channel s.cycle (omega arith) (omega (arith, further, few)) none in
        let gone = free_static d lawful cycles most room channel calls w is_at window next ((course w).statics + 1)
        static_is slot_here static_here cycle_fits due in
        let e = course_after gone.world gone.recorded gone.sealed gone.window_is in
        let one = one_more gone.world w.bus.sealed gone.recorded gone.sealed in
        let begun = begun_after gone.world w gone.recorded window false gone.sealed gone.window_is shut in
        walked_quiet calls w window gs gone (again calls gone.world s gs (record {
          is_at = gone.is_at;
          at = subst (λ (c : Standpoint). IsAtSpot d channel c s) (sym e)
              (static_quiet d channel lawful (course w) s at further none);
          follow = follow;
          ahead = subst (λ (c : Standpoint). Ahead c s gs follow) (sym e) ahead;
          unopened = subst IsUnopened (sym e) unopened_after;
        }) (omega (arith, begun, left)) enough (omega (arith, count, one)))

    ahead_after : (t : Spot) → t.last ≡ (course w).statics + 1 → (gs : List Fields) (follow : FollowOn d channel t gs)
        → Ahead (static_passed (course w)) t gs follow
    ahead_after t last [] over = tt
    ahead_after t last (g ∷ gs) (inr next_one) = tt
    ahead_after t last (g ∷ gs) (inl way) =
        let later = way.0.later in
        let lane : (lane_of channel (static_passed (course w))).slot ≡ d.params.static_slots + 1 =
        ap (λ (l : Standing). l.slot) (lane_static channel (course w)) ∙ unopened further in
        record {
          static = λ few. omega (arith, later, last);
          dynamic = λ above. omega (arith, above, lane);
        }

    loud_static : (g : Fields) (gs : List Fields) → IsFurther d channel s g
        → FollowOn d channel (after_frame d.params s g) gs → g.id ≡ (course w).statics + 1
        → cycles_begun w.bus.sealed + cycles_after s.cycle (g ∷ gs) ≡ cycles → calls + 3 * length (g ∷ gs) ≤ most
        → IsWalked w (g ∷ gs)
    loud_static g gs way follow id left enough =
        let x = static_allowed d channel s g way.allowed (omega (arith, id, further)) in
        let cycle : g.cycle ≡ window.cycle = way.same_cycle ∙ sym cycle_here in
        let due : due_of d ((course w).statics + 1) channel window.cycle ≡ Some x.due =
        ap (λ (n : ℕ). due_of d n channel window.cycle) (sym id)
        ∙ ap (due_of d g.id channel) (sym cycle) ∙ x.due_is in
        let gone = owners_gone d lawful cycles most room channel calls w is_at window next (omega (arith, enough))
        ((course w).statics + 1) slot_here cycle_fits g id cycle static_is static_here x.due due x.owners in
        let e = course_after gone.world gone.recorded gone.sealed gone.window_is in
        let one = one_more gone.world w.bus.sealed gone.recorded gone.sealed in
        let begun = begun_after gone.world w gone.recorded window false gone.sealed gone.window_is shut in
        let same_after : after_frame d.params s g ≡ (record s { last = (course w).statics + 1 }) =
        after_static d channel lawful s g ((course w).statics + 1) id (omega (arith, further)) in
        let t : Spot = record s { last = (course w).statics + 1 } in
        let then : FollowOn d channel (record s { last = (course w).statics + 1 }) gs =
        subst (λ (u : Spot). FollowOn d channel u gs) same_after follow in
        let counted : cycles_after s.cycle (g ∷ gs) ≡ cycles_after s.cycle gs = later_by s.cycle gs g way.same_cycle in
        let loud = heard_as (calls + 3) w window ((course w).statics + 1) g gone
        (fits_here d lawful cycles most room channel calls w is_at window next) slot_here
        (static_there window ((course w).statics + 1) g x.due static_is id cycle due x.owners) in
        walked_loud (calls + 3) w window g gs gone loud
        (again (calls + 3) gone.world (record s { last = (course w).statics + 1 }) gs (record {
          is_at = gone.is_at;
          at = subst (λ (c : Standpoint). IsAtSpot d channel c (record s { last = (course w).statics + 1 })) (sym e)
              (static_loud d channel lawful (course w) s at further);
          follow = then;
          ahead = subst (λ (c : Standpoint). Ahead c (record s { last = (course w).statics + 1 }) gs then) (sym e)
              (ahead_after (record s { last = (course w).statics + 1 }) refl gs then);
          unopened = subst IsUnopened (sym e) unopened_after;
        }) (omega (arith, begun, left, counted)) (omega (arith, enough)) (omega (arith, count, one)))

    static_step : (gs : List Fields) (follow : FollowOn d channel s gs) → Ahead (course w) s gs follow
        → cycles_begun w.bus.sealed + cycles_after s.cycle gs ≡ cycles → calls + 3 * length gs ≤ most → IsWalked w gs
    static_step [] over ahead left enough =
        let behind = at.behind further in
        quiet_static [] over tt (over ((course w).statics + 1) (omega (arith, behind)) (omega (arith, further))) left
        enough
    static_step (g ∷ gs) (inr way) ahead left enough =
        let behind = at.behind further in
        quiet_static (g ∷ gs) (inr way) tt
        (way.0.over ((course w).statics + 1) (omega (arith, behind)) (omega (arith, further))) left enough
    static_step (g ∷ gs) (inl way) ahead left enough = elim (eqb_tells g.id ((course w).statics + 1)) [
      | inl same ↦ loud_static g gs way.0 way.1 same.1 left enough
      | inr other ↦ (
          let behind = at.behind further in
          let more : (course w).statics + 1 < g.id = above g ahead other.1 in
          quiet_static (g ∷ gs) (inl way) (record {
            static = λ few. more;
            dynamic = λ high. subst (λ (l : Standing). l.slot ≤ g.id) (sym (lane_static channel (course w)))
                (ahead.dynamic high);
          }) (ap (due_at d ((course w).statics + 1) channel) (sym way.0.same_cycle)
          ∙ way.0.free ((course w).statics + 1) (omega (arith, behind)) (omega (arith, more, further))) left enough)
    ]
      where
        above : (g : Fields) → IsAhead (course w) g → (g.id ≡ (course w).statics + 1 → ⊥)
            → (course w).statics + 1 < g.id
        above g a differs = by_case (nat_le g.id ((course w).statics + 1)) refl
          where
            by_case : (b : Bool) → nat_le g.id ((course w).statics + 1) ≡ b → (course w).statics + 1 < g.id
            by_case false f = leb-false g.id ((course w).statics + 1) f
            by_case true f =
                let low = leb-true g.id ((course w).statics + 1) f in
                let high = a.static (omega (arith, low, further)) in
                absurd (differs (omega (arith, low, high)))

  -- ---- a dynamic window

  module _ (fuel : ℕ) (again : Walks fuel) (calls : ℕ) (w : WorldState) (s : Spot)
      (is_at : IsAt d cycles nothing_kept calls w) (at : IsAtSpot d channel (course w) s)
      (count : length w.bus.sealed + suc fuel ≡ cycles * opportunities d.params + 1)
      (window : Opportunity) (next : following d.params cycles w.bus.sealed ≡ Some window) (m : ℕ)
      (over : d.params.static_slots ≤ (course w).statics) (is : window ≡ opening (course w) m) (some : 1 ≤ m) where
    lane : Standing
    lane = lane_of channel (course w)

    dynamic_is : is_static window ≡ false
    dynamic_is = ap is_static is ∙ ne_eqb m 0 (λ none. let no : ⊥ = omega (arith, none, some) in no)

    shut_now : opens_cycle window ≡ false
    shut_now = ap (λ (b : Bool). b && is_first_slot window.a) dynamic_is

    slot_now : slot_of window channel ≡ opened_in (lane_of channel (course w)) m
    slot_now = ap (λ (v : Opportunity). slot_of v channel) is ∙ slot_opened channel (course w) m

    cycle_now : window.cycle ≡ s.cycle
    cycle_now = ap (λ (v : Opportunity). v.cycle) is ∙ sym at.cycle_is

    cycle_below_now : window.cycle < 64
    cycle_below_now = subst (λ (n : ℕ). n < 64) (sym (ap (λ (v : Opportunity). v.cycle) is)) (cycle_below (course w))

    course_now : (v : WorldState) (r : Recorded) → v.bus.sealed ≡ w.bus.sealed ++ r ∷ [] → r.window ≡ window
        → course v ≡ dynamic_passed (course w) m (longest A r.sent) (longest B r.sent)
    course_now v r sealed window_is =
        ap (course_of d.params cycles) sealed
        ∙ course_dynamic d.params cycles w.bus.sealed r m some (window_is ∙ is)

    unopened_now : (x y : ℕ) → IsUnopened (dynamic_passed (course w) m x y)
    unopened_now x y more = absurd (let none : ⊥ = omega (arith, more, over) in none)

    -- another slot than the frame's
    NotHere : (gs : List Fields) → FollowOn d channel s gs → Type 0
    NotHere [] over_is = Unit {0}
    NotHere (g ∷ gs) (inr way) = Unit {0}
    NotHere (g ∷ gs) (inl way) = opened_in (lane_of channel (course w)) m ≡ Some g.id → ⊥

    ahead_now : (r : Recorded) (gs : List Fields) (follow : FollowOn d channel s gs) → Ahead (course w) s gs follow
        → NotHere gs follow
        → Ahead (dynamic_passed (course w) m (longest A r.sent) (longest B r.sent)) s gs follow
    unfolding NotHere
    ahead_now r [] over_is ahead other = tt
    ahead_now r (g ∷ gs) (inr way) ahead other = tt
    ahead_now r (g ∷ gs) (inl way) ahead other = record {
      static = λ few. absurd (let low = ahead.static few in let none : ⊥ = omega (arith, low, few, over) in none);
      dynamic = λ high. subst (λ (l : Standing). l.slot ≤ g.id) (sym (lane_dynamic channel (course w) m r))
          (passed_slot (lane_of channel (course w)) m (longest channel r.sent) g.id (ahead.dynamic high) other);
    }

    quiet_dynamic : (gs : List Fields) (follow : FollowOn d channel s gs) → Ahead (course w) s gs follow
        → NotHere gs follow → cycles_begun w.bus.sealed + cycles_after s.cycle gs ≡ cycles
        → calls + 3 * length gs ≤ most → IsWalked w gs
    quiet_dynamic gs follow ahead other left enough =
        let gone = free_dynamic d lawful cycles most room channel calls w is_at window next dynamic_is in
        let e = course_now gone.world gone.recorded gone.sealed gone.window_is in
        let one = one_more gone.world w.bus.sealed gone.recorded gone.sealed in
        let begun = begun_after gone.world w gone.recorded window false gone.sealed gone.window_is shut_now in
        let none = longest_none channel gone.recorded.sent gone.passed_as in
        walked_quiet calls w window gs gone (again calls gone.world s gs (record {
          is_at = gone.is_at;
          at = subst (λ (c : Standpoint). IsAtSpot d channel c s) (sym e)
              (dynamic_quiet d channel lawful (course w) m gone.recorded (gone.window_is ∙ is) some over s at none);
          follow = follow;
          ahead = subst (λ (c : Standpoint). Ahead c s gs follow) (sym e)
              (ahead_now gone.recorded gs follow ahead other);
          unopened = subst IsUnopened (sym e)
              (unopened_now (longest A gone.recorded.sent) (longest B gone.recorded.sent));
        }) (omega (arith, begun, left)) enough (omega (arith, count, one)))

    ahead_then : (r : Recorded) (t : Spot) (id : ℕ) → t.last ≡ id → d.params.static_slots < id
        → opened_in (lane_of channel (course w)) m ≡ Some id → (gs : List Fields) (follow : FollowOn d channel t gs)
        → Ahead (dynamic_passed (course w) m (longest A r.sent) (longest B r.sent)) t gs follow
    ahead_then r t id last high opened [] over_is = tt
    ahead_then r t id last high opened (g ∷ gs) (inr way) = tt
    ahead_then r t id last high opened (g ∷ gs) (inl way) =
        let later = way.0.later in
        let after : (lane_of channel (dynamic_passed (course w) m (longest A r.sent) (longest B r.sent))).slot
        ≡ id + 1 = ap (λ (l : Standing). l.slot) (lane_dynamic channel (course w) m r)
        ∙ next_slot (lane_of channel (course w)) m (longest channel r.sent) id opened in
        record {
          static = λ few. absurd (let none : ⊥ = omega (arith, few, later, last, high) in none);
          dynamic = λ above. omega (arith, later, last, after);
        }

    loud_dynamic : (g : Fields) (gs : List Fields) → IsFurther d channel s g
        → FollowOn d channel (after_frame d.params s g) gs → opened_in (lane_of channel (course w)) m ≡ Some g.id
        → cycles_begun w.bus.sealed + cycles_after s.cycle (g ∷ gs) ≡ cycles → calls + 3 * length (g ∷ gs) ≤ most
        → IsWalked w (g ∷ gs)
    loud_dynamic g gs way follow opened left enough =
        let o = opened_is (lane_of channel (course w)) m g.id opened in
        let slot_is : g.id ≡ (lane_of channel (course w)).slot = o.slot_is in
        let most_static = at.lane.dynamic_slot in
        let high : d.params.static_slots < g.id = omega (arith, slot_is, most_static) in
        let x = dynamic_allowed d channel s g way.allowed high in
        let cycle : g.cycle ≡ window.cycle = way.same_cycle ∙ sym cycle_now in
        let due : due_of d g.id channel window.cycle ≡ Some x.due =
        ap (due_of d g.id channel) (sym cycle) ∙ x.due_is in
        let lane_begins = at.lane.begins in
        let slots = at.lane.slots in
        let begins = o.begins in
        let minislot : window.minislot ≡ m = ap (λ (v : Opportunity). v.minislot) is in
        let last_time = x.senders.in_time in
        let there : IsDueThere d window channel g.id g = record {
          id_is = refl;
          cycle_is = cycle;
          due = x.due;
          due_is = due;
          has_data = x.senders.has_data;
          no_sync = x.senders.no_sync;
          no_startup = x.senders.no_startup;
          words = x.senders.words;
          preamble = x.senders.preamble;
          in_time = omega (arith, lane_begins, slots, begins, minislot, last_time, slot_is);
        } in
        let at_slot : slot_of window channel ≡ Some g.id = slot_now ∙ opened in
        let gone = senders_gone d lawful cycles most room channel calls w is_at window next (omega (arith, enough)) g.id
        at_slot cycle_below_now g refl cycle dynamic_is (lt-leb g.id d.params.static_slots high) there in
        let e = course_now gone.world gone.recorded gone.sealed gone.window_is in
        let one = one_more gone.world w.bus.sealed gone.recorded gone.sealed in
        let begun = begun_after gone.world w gone.recorded window false gone.sealed gone.window_is shut_now in
        let counted : cycles_after s.cycle (g ∷ gs) ≡ cycles_after s.cycle gs = later_by s.cycle gs g way.same_cycle in
        let loud = heard_as (calls + 3) w window g.id g gone
        (fits_here d lawful cycles most room channel calls w is_at window next) at_slot
        (subst (IsThere d window channel g.id g) (sym dynamic_is) there) in
        let spot_is : IsAtSpot d channel (dynamic_passed (course w) m (longest A gone.recorded.sent)
        (longest B gone.recorded.sent)) (after_frame d.params s g) =
        subst (λ (f : Fields). IsAtSpot d channel (dynamic_passed (course w) m (longest A gone.recorded.sent)
        (longest B gone.recorded.sent)) (after_frame d.params s f)) loud.frame_is
        (dynamic_loud d channel lawful (course w) m gone.recorded (gone.window_is ∙ is) some over s at loud.loud) in
        let still : (after_frame d.params s g).cycle ≡ s.cycle = same_cycle_after d.params s g in
        let left_after : cycles_after (after_frame d.params s g).cycle gs ≡ cycles_after s.cycle gs =
        ap (λ (n : ℕ). cycles_after n gs) still in
        walked_loud (calls + 3) w window g gs gone loud
        (again (calls + 3) gone.world (after_frame d.params s g) gs (record {
          is_at = gone.is_at;
          at = subst (λ (c : Standpoint). IsAtSpot d channel c (after_frame d.params s g)) (sym e) spot_is;
          follow = follow;
          ahead = subst (λ (c : Standpoint). Ahead c (after_frame d.params s g) gs follow) (sym e)
              (ahead_then gone.recorded (after_frame d.params s g) g.id (last_after_frame d.params s g) high opened gs
              follow);
          unopened = subst IsUnopened (sym e)
              (unopened_now (longest A gone.recorded.sent) (longest B gone.recorded.sent));
        }) (omega (arith, begun, left, counted, left_after)) (omega (arith, enough)) (omega (arith, count, one)))

    dynamic_step : (gs : List Fields) (follow : FollowOn d channel s gs) → Ahead (course w) s gs follow
        → cycles_begun w.bus.sealed + cycles_after s.cycle gs ≡ cycles → calls + 3 * length gs ≤ most → IsWalked w gs
    unfolding NotHere
    dynamic_step [] over_is ahead left enough = quiet_dynamic [] over_is tt tt left enough
    dynamic_step (g ∷ gs) (inr way) ahead left enough = quiet_dynamic (g ∷ gs) (inr way) tt tt left enough
    dynamic_step (g ∷ gs) (inl way) ahead left enough =
        elim (same_slot (opened_in (lane_of channel (course w)) m) g.id) [
          | inl here ↦ loud_dynamic g gs way.0 way.1 here left enough
          | inr other ↦ quiet_dynamic (g ∷ gs) (inl way) ahead other left enough
        ]

  -- ---- the first window of a cycle

  module _ (fuel : ℕ) (again : Walks fuel) (calls : ℕ) (w : WorldState)
      (is_at : IsAt d cycles nothing_kept calls w)
      (count : length w.bus.sealed + suc fuel ≡ cycles * opportunities d.params + 1)
      (window : Opportunity) (next : following d.params cycles w.bus.sealed ≡ Some window)
      (is : window ≡ static_window (course w).windows ((course w).begun % 64) 1)
      (g : Fields) (gs : List Fields) (first : IsFirst d channel g)
      (follow : FollowOn d channel (after_frame d.params (cycle_start d.params g.cycle) g) gs)
      (cycle_is : g.cycle ≡ (course w).begun % 64) where
    some_slots : 2 ≤ d.params.static_slots
    some_slots = lawful.params_are.static_slots_fit.from_least

    first_static : is_static window ≡ true
    first_static = ap is_static is

    first_slot : slot_of window channel ≡ Some 1
    first_slot = ap (λ (v : Opportunity). slot_of v channel) is
        ∙ slot_static channel (course w).windows ((course w).begun % 64) 1

    first_is_static : is_static_slot d.params 1 ≡ true
    first_is_static = le-leb 1 d.params.static_slots (let some = some_slots in omega (arith, some))

    first_cycle : window.cycle ≡ g.cycle
    first_cycle = ap (λ (v : Opportunity). v.cycle) is ∙ sym cycle_is

    first_fits : window.cycle < 64
    first_fits = subst (λ (n : ℕ). n < 64) (sym first_cycle) first.allowed.count_fits

    first_opens : opens_cycle window ≡ true
    first_opens = ap opens_cycle is

    course_first : (v : WorldState) (r : Recorded) → v.bus.sealed ≡ w.bus.sealed ++ r ∷ [] → r.window ≡ window
        → course v ≡ first_passed (course w)
    course_first v r sealed window_is =
        ap (course_of d.params cycles) sealed
        ∙ after_first d.params cycles w.bus.sealed r (course w).windows ((course w).begun % 64) (window_is ∙ is)

    unopened_first : IsUnopened (first_passed (course w))
    unopened_first more = lane_first channel (course w)

    -- the place after it, with this last frame
    place_first : (last : ℕ) → last ≤ 1 → AreFree d channel g.cycle (last + 1) 2
        → IsAtSpot d channel (first_passed (course w)) (record (cycle_start d.params g.cycle) { last = last })
    place_first last few free =
        subst (λ (n : ℕ). IsAtSpot d channel (first_passed (course w)) (record (cycle_start d.params n) {
          last = last;
        })) (sym cycle_is)
        (first_at d channel lawful (course w) last refl few
        (subst (λ (n : ℕ). AreFree d channel n (last + 1) 2) cycle_is free))

    quiet_first : (g.id ≡ 1 → ⊥) → cycles_begun w.bus.sealed + 1 + cycles_after g.cycle gs ≡ cycles
        → calls + 3 * length (g ∷ gs) ≤ most → IsWalked w (g ∷ gs)
    quiet_first other left enough =
        let some = first.allowed.slot_is in
        let two : 2 ≤ g.id = strictly 1 g.id some (λ same. other (sym same)) in
        let slots = some_slots in
        let none : due_at d 1 channel g.cycle ≡ None = first.free 1 (omega arith) (omega (arith, two, slots)) in
        let due : due_of d 1 channel window.cycle ≡ None =
        ap (due_of d 1 channel) first_cycle ∙ due_of_none d 1 channel g.cycle (omega arith) (omega arith) none in
        let gone = free_static d lawful cycles most room channel calls w is_at window next 1 first_static first_slot
        first_is_static first_fits due in
        let e = course_first gone.world gone.recorded gone.sealed gone.window_is in
        let one = one_more gone.world w.bus.sealed gone.recorded gone.sealed in
        let begun = begun_after gone.world w gone.recorded window true gone.sealed gone.window_is first_opens in
        let s : Spot = cycle_start d.params g.cycle in
        let free : AreFree d channel g.cycle 1 2 =
        λ k low high. (let same : k ≡ 1 = omega (arith, low, high) in
        ap (λ (n : ℕ). due_at d n channel g.cycle) same ∙ none) in
        let further : IsFurther d channel (cycle_start d.params g.cycle) g = record {
          same_cycle = refl;
          later = omega (arith, some);
          free = first.free;
          allowed = first.allowed;
        } in
        let then : FollowOn d channel (cycle_start d.params g.cycle) (g ∷ gs) = inl (further, follow) in
        let counted = later_by g.cycle gs g refl in
        let ahead : IsAhead (first_passed (course w)) g = record {
          static = λ few. omega (arith, two);
          dynamic = λ high. (let lane = lane_first channel (course w) in omega (arith, high, lane));
        } in
        walked_quiet calls w window (g ∷ gs) gone
        (again calls gone.world (cycle_start d.params g.cycle) (g ∷ gs) (record {
          is_at = gone.is_at;
          at = subst (λ (c : Standpoint). IsAtSpot d channel c (cycle_start d.params g.cycle)) (sym e)
              (place_first 0 (omega arith) free);
          follow = inl (further, follow);
          ahead = subst (λ (c : Standpoint). IsAhead c g) (sym e) ahead;
          unopened = subst IsUnopened (sym e) unopened_first;
        }) (omega (arith, begun, left, counted)) enough (omega (arith, count, one)))

    ahead_first : (t : Spot) → t.last ≡ 1 → (hs : List Fields) (then : FollowOn d channel t hs)
        → Ahead (first_passed (course w)) t hs then
    ahead_first t last [] over = tt
    ahead_first t last (h ∷ hs) (inr way) = tt
    ahead_first t last (h ∷ hs) (inl way) =
        let later = way.0.later in
        record {
          static = λ few. omega (arith, later, last);
          dynamic = λ high. (let lane = lane_first channel (course w) in omega (arith, high, lane));
        }

    loud_first : g.id ≡ 1 → cycles_begun w.bus.sealed + 1 + cycles_after g.cycle gs ≡ cycles
        → calls + 3 * length (g ∷ gs) ≤ most → IsWalked w (g ∷ gs)
    loud_first id left enough =
        let slots = some_slots in
        let x = static_allowed d channel (cycle_start d.params g.cycle) g first.allowed (omega (arith, id, slots)) in
        let due : due_of d 1 channel window.cycle ≡ Some x.due =
        ap (λ (n : ℕ). due_of d n channel window.cycle) (sym id) ∙ ap (due_of d g.id channel) first_cycle ∙ x.due_is in
        let gone = owners_gone d lawful cycles most room channel calls w is_at window next (omega (arith, enough)) 1
        first_slot first_fits g id (sym first_cycle) first_static first_is_static x.due due x.owners in
        let e = course_first gone.world gone.recorded gone.sealed gone.window_is in
        let one = one_more gone.world w.bus.sealed gone.recorded gone.sealed in
        let begun = begun_after gone.world w gone.recorded window true gone.sealed gone.window_is first_opens in
        let same_after : after_frame d.params (cycle_start d.params g.cycle) g
        ≡ (record (cycle_start d.params g.cycle) { last = 1 }) =
        after_static d channel lawful (cycle_start d.params g.cycle) g 1 id (omega (arith, slots)) in
        let then : FollowOn d channel (record (cycle_start d.params g.cycle) { last = 1 }) gs =
        subst (λ (u : Spot). FollowOn d channel u gs) same_after follow in
        let loud = heard_as (calls + 3) w window 1 g gone
        (fits_here d lawful cycles most room channel calls w is_at window next) first_slot
        (static_there window 1 g x.due first_static id (sym first_cycle) due x.owners) in
        walked_loud (calls + 3) w window g gs gone loud
        (again (calls + 3) gone.world (record (cycle_start d.params g.cycle) { last = 1 }) gs (record {
          is_at = gone.is_at;
          at = subst (λ (c : Standpoint). IsAtSpot d channel c (record (cycle_start d.params g.cycle) { last = 1 }))
              (sym e) (place_first 1 (omega arith)
              (λ k low high. absurd (let none : ⊥ = omega (arith, low, high) in none)));
          follow = then;
          ahead = subst (λ (c : Standpoint). Ahead c (record (cycle_start d.params g.cycle) { last = 1 }) gs then)
              (sym e) (ahead_first (record (cycle_start d.params g.cycle) { last = 1 }) refl gs then);
          unopened = subst IsUnopened (sym e) unopened_first;
        }) (omega (arith, begun, left)) (omega (arith, enough)) (omega (arith, count, one)))

    first_step : cycles_begun w.bus.sealed + 1 + cycles_after g.cycle gs ≡ cycles
        → calls + 3 * length (g ∷ gs) ≤ most → IsWalked w (g ∷ gs)
    first_step left enough = elim (eqb_tells g.id 1) [
      | inl same ↦ loud_first same.1 left enough
      | inr other ↦ quiet_first other.1 left enough
    ]

  -- ---- a frame that comes later in the cycle

  lane_row : (on : Channel) (w : WorldState) → (lane_of on (course w)).begins ≤ d.params.minislots
      → (lane_of on (course w)).slot ≤ 2047
      → has_row_after d.params (counts_on on (this_cycle w.bus.sealed)) ≡ true
  lane_row A w within few =
      both (nat_le (course w).a.begins d.params.minislots) (nat_le (course w).a.slot last_slot)
      (le-leb (course w).a.begins d.params.minislots within) (le-leb (course w).a.slot last_slot few)
  lane_row B w within few =
      both (nat_le (course w).b.begins d.params.minislots) (nat_le (course w).b.slot last_slot)
      (le-leb (course w).b.begins d.params.minislots within) (le-leb (course w).b.slot last_slot few)

  goes_further : (calls : ℕ) (w : WorldState) (s : Spot) (g : Fields) → IsAt d cycles nothing_kept calls w
      → IsAtSpot d channel (course w) s → IsFurther d channel s g → IsAhead (course w) g
      → HasLater d.params cycles w.bus.sealed
  goes_further calls w s g is_at at way ahead = by (nat_le g.id d.params.static_slots) refl
    where
      by : (b : Bool) → nat_le g.id d.params.static_slots ≡ b → HasLater d.params cycles w.bus.sealed
      by true e =
          let few = leb-true g.id d.params.static_slots e in
          let low = ahead.static few in
          let some = at.some_static in
          record {
            window = static_window (length w.bus.sealed) (cycle_of (course w)) ((course w).statics + 1);
            follows = static_follows d.params cycles w.bus.sealed at.some_window (omega (arith, low, few));
            later = ne_eqb ((course w).statics + 1) 1 (λ one. let none : ⊥ = omega (arith, one, some) in none);
          }
      by false e =
          let high = leb-false g.id d.params.static_slots e in
          let x = dynamic_allowed d channel s g way.allowed high in
          let few = x.few in
          let lane = ahead.dynamic high in
          let within = x.senders.within in
          let begins = at.lane.begins in
          let slots = at.lane.slots in
          next_later d.params cycles w.bus.sealed channel is_at.course at.some_cycle
          (lane_row channel w (omega (arith, within, begins, slots, lane)) (omega (arith, lane, few)))

  next_counted : (s : Spot) (g : Fields) (gs : List Fields) → s.cycle < 64 → g.cycle ≡ (s.cycle + 1) % 64
      → cycles_after s.cycle (g ∷ gs) ≡ 1 + cycles_after g.cycle gs
  next_counted s g gs fits next =
      ap (λ (b : Bool). cond b 0 1 + cycles_after g.cycle gs)
      (ne_eqb g.cycle s.cycle (λ same. let none : ⊥ = omega (arith, same, next, fits) in none))

  -- ---- the end of the run

  ended : (calls : ℕ) (w : WorldState) (s : Spot) (gs : List Fields) → IsAt d cycles nothing_kept calls w
      → IsAtSpot d channel (course w) s → (follow : FollowOn d channel s gs) → Ahead (course w) s gs follow
      → cycles_begun w.bus.sealed + cycles_after s.cycle gs ≡ cycles
      → following d.params cycles w.bus.sealed ≡ None → IsWalked w gs
  ended calls w s [] is_at at over ahead left e = record {
    world = w;
    leads = leads_not w;
    finished = e;
    calls = calls;
    is_at = is_at;
    rest = [];
    sealed = sym (append-nil w.bus.sealed);
    received = refl;
  }
  ended calls w s (g ∷ gs) is_at at (inl way) ahead left e =
      let later = goes_further calls w s g is_at at way.0 ahead in
      absurd (let both_are : None ≡ Some later.window = sym e ∙ later.follows in let none : ⊥ = cc in none)
  ended calls w s (g ∷ gs) is_at at (inr way) ahead left e =
      let fits : s.cycle < 64 = subst (λ (n : ℕ). n < 64) (sym at.cycle_is) (cycle_below (course w)) in
      let counted = next_counted s g gs fits way.0.next_cycle in
      let later = goes_on d.params cycles w.bus.sealed (omega (arith, left, counted)) in
      absurd (let both_are : None ≡ Some later.window = sym e ∙ later.follows in let none : ⊥ = cc in none)

  -- ---- the whole way

  -- the first window of a cycle comes only if another cycle is left
  one_cycle : (calls : ℕ) (w : WorldState) (window : Opportunity) → IsAt d cycles nothing_kept calls w
      → following d.params cycles w.bus.sealed ≡ Some window → opens_cycle window ≡ true
      → cycles_begun w.bus.sealed + 1 ≤ cycles
  one_cycle calls w window is_at next opens =
      let r : Recorded = record { window = window; sent = []; corrupt_a = None; corrupt_b = None } in
      let after = course_next d.params cycles w.bus.sealed r is_at.course next in
      let fit = after.begun_fit in
      let more = begun_next w.bus.sealed r true opens in
      omega (arith, fit, more)

  opening_step : (fuel : ℕ) → Walks fuel → (calls : ℕ) (w : WorldState) (s : Spot) (gs : List Fields)
      → IsAt d cycles nothing_kept calls w → IsAtSpot d channel (course w) s
      → (follow : FollowOn d channel s gs) → Ahead (course w) s gs follow
      → cycles_begun w.bus.sealed + cycles_after s.cycle gs ≡ cycles → calls + 3 * length gs ≤ most
      → length w.bus.sealed + suc fuel ≡ cycles * opportunities d.params + 1 → (window : Opportunity)
      → following d.params cycles w.bus.sealed ≡ Some window → IsFirstWindow (course w) window → IsWalked w gs
  opening_step fuel again calls w s [] is_at at over ahead left enough count window next first =
      let more = one_cycle calls w window is_at next (ap opens_cycle first.is) in
      absurd (let none : ⊥ = omega (arith, more, left) in none)
  opening_step fuel again calls w s (g ∷ gs) is_at at (inl way) ahead left enough count window next first =
      let later = goes_further calls w s g is_at at way.0 ahead in
      let same : window ≡ later.window = same_some window later.window (sym next ∙ later.follows) in
      let opens : opens_cycle window ≡ true = ap opens_cycle first.is in
      let shut : opens_cycle window ≡ false = ap opens_cycle same ∙ later.later in
      absurd (let none : ⊥ = cc (sym opens ∙ shut) in none)
  opening_step fuel again calls w s (g ∷ gs) is_at at (inr way) ahead left enough count window next first =
      let fits : s.cycle < 64 = subst (λ (n : ℕ). n < 64) (sym at.cycle_is) (cycle_below (course w)) in
      let counted = next_counted s g gs fits way.0.next_cycle in
      first_step fuel again calls w is_at count window next first.is g gs way.0.first way.1
      (cycle_after (course w) s.cycle g.cycle at.some_cycle at.cycle_is way.0.next_cycle)
      (omega (arith, left, counted)) enough

  none_left : Walks 0
  none_left calls w s gs on left enough count =
      let fits = windows_fit d.params cycles w.bus.sealed on.is_at.course in
      let begun : cycles_begun w.bus.sealed * opportunities d.params ≤ cycles * opportunities d.params =
      mul-le-mul_right (opportunities d.params) on.is_at.course.begun_fit in
      absurd (let none : ⊥ = omega (arith, fits, begun, count) in none)

  walk_on : (fuel : ℕ) → Walks fuel → Walks (suc fuel)
  walk_on fuel again calls w s gs on left enough count = by (following d.params cycles w.bus.sealed) refl
    where
      windows : (window : Opportunity) → following d.params cycles w.bus.sealed ≡ Some window
          → IsNextOf (course w) window → IsWalked w gs
      windows window e (inl first) = opening_step fuel again calls w s gs on.is_at on.at on.follow on.ahead left
          enough count window e first
      windows window e (inr (inl static)) = static_step fuel again calls w s on.is_at on.at on.unopened count
          window e static.1.further static.1.is gs on.follow on.ahead left enough
      windows window e (inr (inr dynamic)) = dynamic_step fuel again calls w s on.is_at on.at count window e
          dynamic.1.minislot dynamic.1.over dynamic.1.is
          (some_minislot (course w) dynamic.1.minislot on.at.begins_a on.at.begins_b dynamic.1.least) gs on.follow
          on.ahead left enough

      by : (o : Option Opportunity) → following d.params cycles w.bus.sealed ≡ o → IsWalked w gs
      by None e = ended calls w s gs on.is_at on.at on.follow on.ahead left e
      by (Some window) e = windows window e (next_window d.params cycles w.bus.sealed window e)

  walk : (fuel : ℕ) → Walks fuel
  walk zero = none_left
  walk (suc fuel) = walk_on fuel (walk fuel)

  -- from the first window of the first frame's cycle
  pub walks_from : (w : WorldState) → IsAt d cycles nothing_kept 0 w → (g : Fields) (gs : List Fields)
      → IsFirst d channel g → FollowOn d channel (after_frame d.params (cycle_start d.params g.cycle) g) gs
      → cycles_begun w.bus.sealed ≡ g.cycle → (window : Opportunity)
      → following d.params cycles w.bus.sealed ≡ Some window → opens_cycle window ≡ true
      → g.cycle + 1 + cycles_after g.cycle gs ≡ cycles → 3 * length (g ∷ gs) ≤ most → IsWalked w (g ∷ gs)
  walks_from w is_at g gs first follow begun window next opens left enough =
      by (next_window d.params cycles w.bus.sealed window next)
    where
      fits : length w.bus.sealed ≤ cycles * opportunities d.params
      fits =
          let few = windows_fit d.params cycles w.bus.sealed is_at.course in
          let most_of : cycles_begun w.bus.sealed * opportunities d.params ≤ cycles * opportunities d.params =
          mul-le-mul_right (opportunities d.params) is_at.course.begun_fit in
          omega (arith, few, most_of)

      fuel : ℕ
      fuel = cycles * opportunities d.params - length w.bus.sealed

      by : IsNextOf (course w) window → IsWalked w (g ∷ gs)
      by (inl start) =
          let count_fits = first.allowed.count_fits in
          let cycle_is : g.cycle ≡ (course w).begun % 64 =
          sym (ap (λ (n : ℕ). n % 64) begun ∙ small_mod g.cycle count_fits) in
          let room_left = fits in
          first_step (cycles * opportunities d.params - length w.bus.sealed)
          (walk (cycles * opportunities d.params - length w.bus.sealed)) 0 w is_at (omega (arith, room_left)) window
          next start.is g gs first follow cycle_is (omega (arith, begun, left)) (omega (arith, enough))
      by (inr (inl static)) =
          let way = is_at.course.under_way static.0 in
          let some = way.1 in
          let shut : opens_cycle window ≡ false = ap opens_cycle static.1.is
          ∙ ne_eqb ((course w).statics + 1) 1 (λ one. let none : ⊥ = omega (arith, one, some) in none) in
          absurd (let none : ⊥ = cc (sym opens ∙ shut) in none)
      by (inr (inr dynamic)) =
          let m = dynamic.1.minislot in
          let some = some_minislot (course w) dynamic.1.minislot (omega arith) (omega arith) dynamic.1.least in
          let still : is_static window ≡ false = ap is_static dynamic.1.is
          ∙ ne_eqb dynamic.1.minislot 0 (λ none. let no : ⊥ = omega (arith, none, some) in no) in
          let shut : opens_cycle window ≡ false = ap (λ (b : Bool). b && is_first_slot window.a) still in
          absurd (let none : ⊥ = cc (sym opens ∙ shut) in none)
