-- One more window of a run, in which a host's chosen frame is sent. The host then empties the buffer again.
use Rattle.std.proofs.Common.{◌≡◌, ◌≢◌, ℕ, ◌+◌, ◌<◌, ◌≤◌, Bool, true, false, length, Some, refl, sym, ap, subst, ◌∙◌}
use Rattle.std.proofs.Common.{arith, slice_get}
use Rattle.std.proofs.lemmas.Option.{slice_get_within}
use Rattle.fr_bus.specs.Windows.{following}
use Rattle.fr_core.specs.Worlds.{WorldState, interface_at}
use Rattle.fr_frame.specs.Encoding.{encoded}
use Rattle.fr_frame.specs.Fields.{Fields}
use Rattle.fr_guarantees.proofs.HeardLemmas.{sent_by}
use Rattle.fr_guarantees.proofs.HoldingLemmas.{nothing_kept}
use Rattle.fr_guarantees.proofs.PassingLemmas.{IsAt, none_commits}
use Rattle.fr_guarantees.proofs.SentLemmas.{IsSent, commit_sent, one_sent}
use Rattle.fr_guarantees.proofs.SilenceLemmas.{not_owned}
use Rattle.fr_guarantees.proofs.WindowLemmas.{recorded_by}
use Rattle.fr_guarantees.specs.Exactness.{HasRoom}
use Rattle.fr_guarantees.specs.Ways.{CanSend}
use Rattle.fr_hearing.proofs.replaying.GoneLemmas.{IsLone, IsGone, all_mute, whole_by, frame_some, not_owner}
use Rattle.fr_hearing.proofs.replaying.GoneLemmas.{only_owner, passes_owner}
use Rattle.fr_hearing.proofs.replaying.OfferLemmas.{none_here, data_here}
use Rattle.fr_hearing.proofs.replaying.SenderLemmas.{CanHand}
use Rattle.fr_journal.specs.Offers.{owns}
use Rattle.fr_schedule.specs.Clusters.{IsCluster}
use Rattle.fr_schedule.specs.Descriptions.{Description}
use Rattle.fr_slots.proofs.PlaceLemmas.{same_some}
use Rattle.fr_slots.specs.declared.channel.Channel.{Channel}
use Rattle.fr_slots.specs.Faults.{is_owned}
use Rattle.fr_slots.specs.Parameters.{is_static_slot}
use Rattle.fr_slots.specs.Windows.{Opportunity, slot_of, is_static}

module _ (d : Description) (lawful : IsCluster d) (cycles most : ℕ) (room : HasRoom d cycles most)
    (channel : Channel) (calls : ℕ) (few : calls + 3 ≤ most) (w : WorldState)
    (here : IsAt d cycles nothing_kept calls w)
    (window : Opportunity) (next : following d.params cycles w.bus.sealed ≡ Some window) (slot : ℕ)
    (slot_is : slot_of window channel ≡ Some slot) (cycle_fits : window.cycle < 64) (g : Fields)
    (hand : CanHand d window channel slot g)
    (static_slot : is_static window ≡ true → is_static_slot d.params slot ≡ true) where
  abbrev can : CanSend d window.cycle slot channel window.minislot (8 + length g.payload)
  can = hand.can

  abbrev k : ℕ
  k = can.node

  x : IsSent d cycles nothing_kept (calls + 3) w window channel can.node can.number can.buffer g.payload
  x = commit_sent d lawful cycles most room nothing_kept channel calls few w here window next (all_mute d window) slot
      slot_is cycle_fits (8 + length g.payload) can g.payload hand.words

  within : k < length w.interfaces
  within =
      let inside = slice_get_within d.plans k can.plan can.plan_at in
      omega (arith, inside, here.one_each)

  others : (n : ℕ) → n < length w.interfaces → n ≢ k → (m : ℕ) → slot_of window channel ≡ Some m
      → owns (interface_at w n).plan window channel m ≡ false
  others n inside other m m_is = by (is_static window) refl
    where
      by : (b : Bool) → is_static window ≡ b → owns (interface_at w n).plan window channel m ≡ false
      by false dynamic = not_owned (interface_at w n).plan window channel m dynamic
      by true static = not_owner (interface_at w n).plan window channel m
          (subst (λ (j : ℕ). is_owned (interface_at w n).plan.owned j channel window.cycle ≡ false)
          (same_some slot m (sym slot_is ∙ m_is))
          (only_owner d window channel slot k n can.plan (interface_at w n).plan lawful cycle_fits
          (static_slot static) can.plan_at (hand.owned static) (here.nodes n inside).plan_at other))

  lone : IsLone channel (recorded_by w.bus.cluster window x.stations) g
  lone =
      let plan_at : slice_get w.bus.cluster.plans k ≡ Some can.plan =
      ap (λ (c : Description). slice_get c.plans k) here.cluster ∙ can.plan_at in
      let plan_is = same_some can.plan (interface_at w k).plan (sym can.plan_at ∙ (here.nodes k within).plan_at) in
      record {
        sender = sent_by w.bus.cluster window k channel (record { items = encoded g channel });
        only = one_sent d cycles nothing_kept (calls + 3) w window channel k can.number slot can.buffer g.payload
            (record { items = encoded g channel }) x within
            (data_here (interface_at w k) window channel slot can.number can.buffer g x.sending slot_is d hand plan_is
            refl) slot_is (frame_some g channel)
            (passes_owner w.bus.cluster window channel slot k can.plan plan_at slot_is hand.owned)
            (λ n inside other. none_here (interface_at w n) window channel
            (none_commits d cycles most room nothing_kept calls w here window next (all_mute d window) channel n inside)
            (others n inside other));
        spelled = refl;
      }

  pub goes_sending : IsGone d cycles (calls + 3) w window channel (Some g)
  goes_sending = record {
    world = x.world;
    leads = x.leads;
    is_at = x.is_at;
    recorded = recorded_by w.bus.cluster window x.stations;
    sealed = x.sealed;
    window_is = refl;
    whole = whole_by w.bus.cluster window x.stations channel;
    passed_as = lone;
  }
