-- One more window of a run in which no host commits anything: nothing passes on the channel, or its owner's null frame.
use Rattle.std.proofs.Common.{◌≡◌, ◌≢◌, ℕ, ◌<◌, Bool, true, false, not, ◌&&◌, ◌||◌, List, [], ◌∷◌, ◌++◌, length, Option}
use Rattle.std.proofs.Common.{Some, None, refl, sym, ap, subst, ◌∙◌, arith, slice_get}
use Rattle.std.specs.Prelude.{is_some, ◌==◌}
use Rattle.std.proofs.lemmas.Bool.{ne_eqb, or_right, false_from_ne_true}
use Rattle.std.proofs.lemmas.Option.{slice_get_within}
use Rattle.arrayvec.specs.ArrayVec.{ArrayVec}
use Rattle.fr_bus.specs.declared.outcome.Sent.{Sent}
use Rattle.fr_bus.specs.Outcome.{all_passed}
use Rattle.fr_bus.specs.Record.{Recorded, corrupt_on}
use Rattle.fr_bus.specs.Stations.{Station}
use Rattle.fr_bus.specs.Windows.{following}
use Rattle.fr_core.specs.Steps.{offer_of}
use Rattle.fr_core.specs.Worlds.{WorldState, interface_at}
use Rattle.fr_frame.specs.Encoding.{encoded}
use Rattle.fr_frame.specs.Fields.{Fields}
use Rattle.fr_guarantees.proofs.HeardLemmas.{offer_on, sent_by, none_pass, one_passes}
use Rattle.fr_guarantees.proofs.HoldingLemmas.{nothing_kept}
use Rattle.fr_guarantees.proofs.OfferLemmas.{length-frame}
use Rattle.fr_guarantees.proofs.PassingLemmas.{IsAt, AreMute, past_silent, at_silent, none_commits}
use Rattle.fr_guarantees.proofs.WindowLemmas.{recorded_by, HasPassed}
use Rattle.fr_guarantees.specs.Exactness.{HasRoom}
use Rattle.fr_guarantees.specs.Leading.{Leads}
use Rattle.fr_guardian.specs.Guarding.{passes, passes_in}
use Rattle.fr_hearing.proofs.OfferLaws.{line_is, not_owned}
use Rattle.fr_hearing.proofs.replaying.OfferLemmas.{none_here, null_here}
use Rattle.fr_hearing.proofs.replaying.SenderLemmas.{CanNull}
use Rattle.fr_interface.specs.State.{State}
use Rattle.fr_journal.specs.Offers.{owns, null_frame, commit_offered}
use Rattle.fr_logged.proofs.DueLemmas.{static_sender}
use Rattle.fr_logged.proofs.FirstLemmas.{none_found_in}
use Rattle.fr_schedule.specs.Clusters.{IsCluster}
use Rattle.fr_schedule.specs.Descriptions.{Description, is_guarded}
use Rattle.fr_slots.proofs.PlaceLemmas.{same_some}
use Rattle.fr_slots.specs.declared.channel.Channel.{Channel}
use Rattle.fr_slots.specs.declared.channel.Channel.TheVariants.{A, B}
use Rattle.fr_slots.specs.declared.plan.Own.{Own}
use Rattle.fr_slots.specs.Faults.{claims, is_owned}
use Rattle.fr_slots.specs.Parameters.{Parameters, is_static_slot}
use Rattle.fr_slots.specs.Plans.{Plan}
use Rattle.fr_slots.specs.Windows.{Opportunity, slot_of, is_static}

-- ---- what passed

-- the only transmission that passed has the bytes of this frame, or there is none
pub record IsLone (channel : Channel) (r : Recorded) (g : Fields) : Type 0 where
  pub sender : Sent
  pub only : all_passed channel r.sent ≡ sender ∷ []
  pub spelled : sender.bytes.items ≡ encoded g channel

abbrev pub PassedAs : Channel → Recorded → Option Fields → Type 0
PassedAs channel r None = all_passed channel r.sent ≡ []
PassedAs channel r (Some g) = IsLone channel r g

-- The window has gone. On the channel this frame passed in it, or nothing.
pub record IsGone (d : Description) (cycles calls : ℕ) (w : WorldState) (window : Opportunity) (channel : Channel)
    (o : Option Fields) : Type 0 where
  pub world : WorldState
  pub leads : Leads w world
  pub is_at : IsAt d cycles nothing_kept calls world
  pub recorded : Recorded
  pub sealed : world.bus.sealed ≡ w.bus.sealed ++ recorded ∷ []
  pub window_is : recorded.window ≡ window
  pub whole : corrupt_on recorded channel ≡ None
  pub passed_as : PassedAs channel recorded o

pub all_mute : (d : Description) (window : Opportunity) → AreMute d nothing_kept window
all_mute d window n plan at on number is begins = refl

pub whole_by : (d : Description) (window : Opportunity) (stations : List Station)
    (channel : Channel) → corrupt_on (recorded_by d window stations) channel ≡ None
whole_by d window stations A = refl
whole_by d window stations B = refl

pub frame_some : (g : Fields) (channel : Channel) → (length (encoded g channel) == 0) ≡ false
frame_some g channel = ne_eqb (length (encoded g channel)) 0 (λ none. let no : ⊥ = omega
    (arith, none, length-frame g channel) in no)

-- ---- nodes that don't own the slot

pub not_owner : (plan : Plan) (window : Opportunity) (channel : Channel) (slot : ℕ)
    → is_owned plan.owned slot channel window.cycle ≡ false → owns plan window channel slot ≡ false
not_owner plan window channel slot none = by (is_static window) refl
  where
    by : (b : Bool) → is_static window ≡ b → owns plan window channel slot ≡ false
    by false dynamic = ap (λ (o : Option Own). is_some o)
        (not_owned plan window channel slot dynamic)
    by true static = ap (λ (o : Option Own). is_some o)
        (line_is plan window channel slot static
        ∙ none_found_in
        (claims slot channel window.cycle) plan.owned none)

-- the static slot of a window has this owner alone
pub only_owner : (d : Description) (window : Opportunity) (channel : Channel) (slot k n : ℕ) (owner plan : Plan)
    → IsCluster d → window.cycle < 64 → is_static_slot d.params slot ≡ true → slice_get d.plans k ≡ Some owner
    → is_owned owner.owned slot channel window.cycle ≡ true → slice_get d.plans n ≡ Some plan → n ≢ k
    → is_owned plan.owned slot channel window.cycle ≡ false
only_owner d window channel slot k n owner plan lawful fits static at owned there other =
    false_from_ne_true (is_owned plan.owned slot channel window.cycle)
    (λ is. other (lawful.one_sender window.cycle slot channel n k fits
    (static_sender d slot channel window.cycle n plan static there is)
    (static_sender d slot channel window.cycle k owner static at owned)))

-- the guardian passes its owner's transmission
pub passes_owner : (d : Description) (window : Opportunity) (channel : Channel) (slot k : ℕ) (plan : Plan)
    → slice_get d.plans k ≡ Some plan → slot_of window channel ≡ Some slot
    → (is_static window ≡ true → is_owned plan.owned slot channel window.cycle ≡ true)
    → passes d k window channel ≡ true
passes_owner d window channel slot k plan at slot_is owned =
    (λ i. passes_in d window channel (at i) (slot_is i)) ∙ by (is_static window) refl
  where
    by : (b : Bool) → is_static window ≡ b
        → (not (is_static window && is_guarded d.guard channel) || is_owned plan.owned slot channel window.cycle) ≡ true
    by true static = or_right (not (is_static window && is_guarded d.guard channel))
        (is_owned plan.owned slot channel window.cycle) (owned static)
    by false dynamic = ap (λ (b : Bool). not (b && is_guarded d.guard channel)
        || is_owned plan.owned slot channel window.cycle) dynamic

module _ (d : Description) (lawful : IsCluster d) (cycles most : ℕ) (room : HasRoom d cycles most) (calls : ℕ)
    (w : WorldState) (here : IsAt d cycles nothing_kept calls w) (window : Opportunity)
    (next : following d.params cycles w.bus.sealed ≡ Some window) where
  abbrev past : HasPassed w window
  past = past_silent d cycles most room nothing_kept calls w here window next (all_mute d window)

  in_w : (n : ℕ) → n < length past.stations → n < length w.interfaces
  in_w n within = subst (λ (m : ℕ). n < m) past.offers.one_each within

  no_commit : (channel : Channel) (n : ℕ) → n < length w.interfaces
      → commit_offered (interface_at w n).plan (interface_at w n).entries window channel ≡ None
  no_commit = none_commits d cycles most room nothing_kept calls w here window next (all_mute d window)

  gone : (channel : Channel) (o : Option Fields)
      → PassedAs channel (recorded_by w.bus.cluster window past.stations) o
      → IsGone d cycles calls w window channel o
  gone channel o passed_as = record {
    world = past.world;
    leads = past.leads;
    is_at = at_silent d cycles most room nothing_kept calls w here window next (all_mute d window);
    recorded = recorded_by w.bus.cluster window past.stations;
    sealed = past.sealed;
    window_is = refl;
    whole = whole_by w.bus.cluster window past.stations channel;
    passed_as = passed_as;
  }

  -- nobody owns the slot
  pub goes_quiet : (channel : Channel)
      → ((n slot : ℕ) (plan : Plan) → slice_get d.plans n ≡ Some plan → slot_of window channel ≡ Some slot
      → owns plan window channel slot ≡ false)
      → IsGone d cycles calls w window channel None
  goes_quiet channel nobody = gone channel None
      (none_pass w.bus.cluster window channel past.stations (λ n. offer_of (interface_at w n) window)
      (λ n within. past.offers.are n (in_w n within))
      (λ n within. none_here (interface_at w n) window channel (no_commit channel n (in_w n within))
      (λ slot slot_is. nobody n slot (interface_at w n).plan (here.nodes n (in_w n within)).plan_at slot_is)))

  -- its owner sends a null frame
  pub goes_null : (channel : Channel) (slot : ℕ) (g : Fields) → slot_of window channel ≡ Some slot
      → is_static window ≡ true → is_static_slot d.params slot ≡ true → window.cycle < 64
      → CanNull d window channel slot g → IsGone d cycles calls w window channel (Some g)
  goes_null channel slot g slot_is static static_slot fits can =
      let within : can.node < length w.interfaces =
      (let inside = slice_get_within d.plans can.node can.plan can.plan_at in
      omega (arith, inside, here.one_each)) in
      let node = here.nodes can.node within in
      let s : State = interface_at w can.node in
      let same : can.plan ≡ s.plan = same_some can.plan s.plan (sym can.plan_at ∙ node.plan_at) in
      let owner : owns s.plan window channel slot ≡ true =
      ap (λ (q : Plan). owns q window channel slot) (sym same)
      ∙ ap (λ (o : Option Own). is_some o) can.line in
      let frame : null_frame s.params s.plan window channel slot ≡ g =
      ap (λ (p : Parameters). null_frame p s.plan window channel slot) node.params_are
      ∙ ap (λ (q : Plan). null_frame d.params q window channel slot) (sym same) ∙ can.frame_is in
      let bytes : ArrayVec ℕ = record { items = encoded g channel } in
      let offers : offer_on channel (offer_of s window) ≡ Some (record { items = encoded g channel }) =
      null_here s window channel slot slot_is (no_commit channel can.node within) owner
      ∙ ap (λ (f : Fields). let o : Option (ArrayVec ℕ) = Some (record { items = encoded f channel }) in o) frame in
      let inside : can.node < length past.stations = omega (arith, within, past.offers.one_each) in
      let plan_at : slice_get w.bus.cluster.plans can.node ≡ Some can.plan =
      ap (λ (c : Description). slice_get c.plans can.node) here.cluster ∙ can.plan_at in
      gone channel (Some g) (record {
        sender = sent_by w.bus.cluster window can.node channel (record { items = encoded g channel });
        only = one_passes w.bus.cluster window channel past.stations (λ n. offer_of (interface_at w n) window)
            can.node slot (record { items = encoded g channel }) (λ n there. past.offers.are n (in_w n there)) inside
            offers slot_is (frame_some g channel)
            (passes_owner w.bus.cluster window channel slot can.node can.plan plan_at slot_is (λ still. can.owned))
            (λ n there other. none_here (interface_at w n) window channel (no_commit channel n (in_w n there))
            (λ k k_is. not_owner (interface_at w n).plan window channel k
            (subst (λ (m : ℕ). is_owned (interface_at w n).plan.owned m channel window.cycle ≡ false)
            (same_some slot k (sym slot_is ∙ k_is))
            (only_owner d window channel slot can.node n can.plan (interface_at w n).plan lawful fits static_slot
            can.plan_at can.owned (here.nodes n (in_w n there)).plan_at other))));
        spelled = refl;
      })
