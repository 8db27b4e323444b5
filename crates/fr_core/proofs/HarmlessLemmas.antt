-- A babbling node is harmless in guarded static slots, by the record's law, the lists of the interfaces and their
-- accounts.
use Rattle.std.proofs.Common.{◌≡◌, ◌<◌, ℕ, ◌+◌, ◌*◌, ◌-◌, ◌%◌, Bool, true, false, cond, ◌&&◌, List, [], ◌∷◌, ◌++◌}
use Rattle.std.proofs.Common.{length, Option, Some, None, refl, sym, ap, ◌∙◌, arith, slice_get}
use Rattle.std.specs.Prelude.{slice_index_or, nat_lt, not, ◌||◌}
use Rattle.std.proofs.lemmas.Option.{slice_get_within}
use Rattle.arrayvec.specs.ArrayVec.{ArrayVec}
use Rattle.fr_bus.specs.declared.outcome.Sent.{Sent}
use Rattle.fr_bus.specs.Outcome.{all_passed, is_of, seen_of}
use Rattle.fr_bus.specs.Corruption.{corrupted}
use Rattle.fr_bus.specs.Record.{Recorded, IsOutcome, corrupt_on, side_on, offer_in}
use Rattle.fr_bus.specs.States.{IsRecorded, idle_station}
use Rattle.fr_bus.proofs.OfferLemmas.{offer_of_station}
use Rattle.fr_core.specs.Accounts.{account, turn_of, frame_by_account, own, of_owner, sent_by_account, IsSeenByAccount}
use Rattle.fr_core.specs.Accounts.{recorded_cycle, IsHarmless}
use Rattle.fr_core.proofs.AccountableLemmas.{IsAccountable, accountable}
use Rattle.fr_core.proofs.TimingLemmas.{IsTimed, are_on_time, are_timed}
use Rattle.fr_core.specs.Agreeing.{Handed, offers_of, Follows}
use Rattle.fr_core.specs.Receivers.{IsOwner, offered_on}
use Rattle.fr_core.proofs.CaseLemmas.{differ}
use Rattle.fr_slots.proofs.PlaceLemmas.{same_some}
use Rattle.fr_core.proofs.HandingLemmas.{IsFetchOf, bytes_on}
use Rattle.fr_core.proofs.JudgedLemmas.{outcome_judged, recorded_at}
use Rattle.fr_core.proofs.ToldLemmas.{told}
use Rattle.fr_core.proofs.OwnLemmas.{seen_alone, silent, own_from, own_is}
use Rattle.fr_core.proofs.ReceiverLemmas.{handed_is_offered}
use Rattle.fr_core.proofs.TimedLemmas.{fetch_of_window}
use Rattle.fr_slots.specs.History.{AllAfter}
use Rattle.fr_guardian.specs.Guarding.{passes_in, passes}
use Rattle.fr_guardian.proofs.AloneLemmas.{passes_alone, owner_passes}
use Rattle.fr_interface.specs.State.{State, IsLegalInterface}
use Rattle.fr_journal.specs.Forms.{Entry}
use Rattle.fr_journal.specs.declared.entry.Entry.TheVariants.{Fetch}
use Rattle.fr_journal.specs.Offers.{frame_with, bytes_of}
use Rattle.fr_minislot.specs.DynamicRows.{minislots_filled_by}
use Rattle.fr_schedule.specs.Clusters.{IsCluster}
use Rattle.fr_schedule.specs.Descriptions.{Description, is_guarded}
use Rattle.fr_slots.specs.declared.channel.Channel.{Channel}
use Rattle.fr_slots.specs.Faults.{is_owned}
use Rattle.fr_slots.specs.Parameters.{Parameters}
use Rattle.fr_slots.specs.Plans.{Plan}
use Rattle.fr_slots.specs.Windows.{Opportunity, slot_of, is_static}
use Rattle.fr_status.specs.declared.seen.Seen.TheVariants.{Own, Overrun, Bytes}

-- an observation depends on a window only by its being static
seen_static : (p : Parameters) (w x : Opportunity) (c : Option ℕ) (n : ℕ) (ts : List Sent) → is_static w ≡ true
    → is_static x ≡ true → seen_of p w c n ts ≡ seen_of p x c n ts
seen_static p w x c n [] e f = refl
seen_static p w x c n (t ∷ []) e f =
    let long = nat_lt (8 + 2 * p.static_words) (length t.bytes.items) in
    ap (λ (b : Bool). cond (is_of n t) Own (cond
    (cond b long (nat_lt p.minislots (w.minislot - 1 + minislots_filled_by p (length t.bytes.items)))) Overrun
    (Bytes (corrupted t.bytes c)))) e
    ∙ sym (ap (λ (b : Bool). cond (is_of n t) Own (cond
    (cond b long (nat_lt p.minislots (x.minislot - 1 + minislots_filled_by p (length t.bytes.items)))) Overrun
    (Bytes (corrupted t.bytes c)))) f)
seen_static p w x c n (t ∷ u ∷ ts) e f = refl

-- ---- owners

owner_in : (d : Description) (node slot : ℕ) (w : Opportunity) (channel : Channel) (found : Option Plan)
    → slice_get d.plans node ≡ found → is_static w ≡ true → is_guarded d.guard channel ≡ true
    → passes_in d w channel found (Some slot) ≡ true → IsOwner d w.cycle slot channel node
owner_in d node slot w channel None is static guarded e = absurd (let none : ⊥ = cc in none)
owner_in d node slot w channel (Some plan) is static guarded e =
    record {
      plan = plan;
      at = is;
      owns = watched (is_static w) (is_guarded d.guard channel)
          (is_owned plan.owned slot channel w.cycle) static guarded e;
    }
  where
    watched : (p q o : Bool) → p ≡ true → q ≡ true → (not (p && q) || o) ≡ true → o ≡ true
    watched true true o a b h = h
    watched true false o a b h = differ b refl
    watched false q o a b h = differ a refl

-- a node whose transmission passes in a guarded static slot owns it in the window's cycle
passing_owns : (d : Description) (node slot : ℕ) (w : Opportunity) (channel : Channel) → is_static w ≡ true
    → is_guarded d.guard channel ≡ true → slot_of w channel ≡ Some slot
    → passes d node w channel ≡ true → IsOwner d w.cycle slot channel node
passing_owns d node slot w channel static guarded is e =
    owner_in d node slot w channel (slice_get d.plans node) refl static guarded
    (ap (passes_in d w channel (slice_get d.plans node)) (sym is) ∙ e)

-- if no node owns the slot, none passes
none_passes : (d : Description) (node slot : ℕ) (w : Opportunity) (channel : Channel) → is_static w ≡ true
    → is_guarded d.guard channel ≡ true → slot_of w channel ≡ Some slot
    → ((owner : ℕ) → IsOwner d w.cycle slot channel owner → ⊥) → (b : Bool) → passes d node w channel ≡ b → b ≡ false
none_passes d node slot w channel static guarded is nobody false e = refl
none_passes d node slot w channel static guarded is nobody true e =
    absurd (nobody node (passing_owns d node slot w channel static guarded is e))

-- ---- the record of the owner

-- the owner's recorded transmissions are its recorded offer, its mute and its babble
recorded_own : (d : Description) (r : Recorded) (channel : Channel) (owner slot : ℕ) (o : IsOutcome d r)
    → owner < length d.plans → slot_of r.window channel ≡ Some slot
    → passes d owner r.window channel ≡ true
    → own channel owner r.sent ≡ of_owner owner channel (side_on channel
    (slice_index_or o.stations owner idle_station)).mute (offer_in channel owner r.sent)
    (side_on channel (slice_index_or o.stations owner idle_station)).babble
recorded_own d r channel owner slot o within is passing =
    let side = side_on channel (slice_index_or o.stations owner idle_station) in
    let there : owner < length o.stations = omega (arith, within, o.one_each) in
    let start : owner ≡ 0 + owner = omega arith in
    ap (own channel owner) o.sent_is
    ∙ own_from d r.window channel owner 0 owner o.stations start there
    ∙ own_is d r.window channel owner slot side is passing
    ∙ ap (λ (x : Option (ArrayVec ℕ)). of_owner owner channel side.mute x side.babble)
    (sym (ap (offer_in channel owner) o.sent_is ∙ offer_of_station d r.window channel owner 0 owner o.stations start
    there))

-- the same, with the fetch that handed the offer to the bus
by_fetch : (d : Description) (r : Recorded) (s : State) (channel : Channel) (owner slot cycle : ℕ)
    (before after : List Entry) (e : Entry) → IsCluster d → IsOutcome d r → IsAccountable s
    → owner < length d.plans → is_static r.window ≡ true → is_guarded d.guard channel ≡ true
    → slot_of r.window channel ≡ Some slot → passes d owner r.window channel ≡ true
    → is_owned s.plan.owned slot channel r.window.cycle ≡ true → r.window.cycle ≡ cycle % 64
    → s.entries ≡ before ++ e ∷ after → ((m : ℕ) → AllAfter (IsTimed m) [] before)
    → IsFetchOf s before e (offers_of owner r)
    → IsSeenByAccount d.params r cycle s owner channel slot
by_fetch d r s channel owner slot cycle before after e cluster o accounts within static guarded is passing owned timed
    cut earlier x =
    let window : x.window ≡ r.window = ap (λ (h : Handed). h.window) x.handed_is in
    let fetch : s.entries ≡ before ++ Fetch r.window x.a x.b ∷ after =
    cut ∙ ap (λ (y : Entry). before ++ y ∷ after) x.entry_is ∙ ap
    (λ (w : Opportunity). before ++ Fetch w x.a x.b ∷ after) window in
    let handed : bytes_of channel (frame_with s.params s.plan before r.window channel (offered_on channel x.a x.b))
    ≡ offer_in channel owner r.sent =
    ap (λ (w : Opportunity). bytes_of channel (frame_with s.params s.plan before w channel
    (offered_on channel x.a x.b))) (sym window)
    ∙ bytes_on s before e (offers_of owner r) channel x ∙ handed_is_offered owner r channel in
    let side = side_on channel (slice_index_or o.stations owner idle_station) in
    let offer = bytes_of channel (Some (frame_by_account s.params s.plan slot channel cycle
    (account s.plan slot before))) in
    let mine : own channel owner r.sent ≡ of_owner owner channel side.mute offer side.babble =
    recorded_own d r channel owner slot o within is passing
    ∙ ap (λ (y : Option (ArrayVec ℕ)). of_owner owner channel side.mute y side.babble)
    (sym handed ∙ accounts before after r.window x.a x.b channel slot cycle fetch earlier static is owned timed) in
    let recorded : own channel owner r.sent ≡ sent_by_account s owner channel slot cycle before
    (own channel owner r.sent) =
    told owner channel (own channel owner r.sent) side.mute offer side.babble mine in
    record {
      before = before;
      a = x.a;
      b = x.b;
      after = after;
      cut = fetch;
      recorded = recorded;
      seen = λ n. seen_alone d d.params r channel owner (passes_alone d cluster owner r.window channel passing static
          guarded) (outcome_judged d r o) n
          ∙ seen_static d.params r.window (turn_of slot cycle) (corrupt_on r channel) n
          (all_passed channel (own channel owner r.sent)) static refl
          ∙ ap (λ (l : List Sent). seen_of d.params (turn_of slot cycle) (corrupt_on r channel) n
          (all_passed channel l)) recorded;
    }

-- each node observes in a guarded static slot what the owner's account gives, or silence
pub harmless : (d : Description) (cycles : ℕ) (interfaces : List State) (rs : List Recorded) → IsCluster d
    → AllAfter (IsRecorded d cycles) [] rs
    → ((n : ℕ) (s : State) → slice_get interfaces n ≡ Some s → IsLegalInterface s)
    → ((n : ℕ) (s : State) → slice_get interfaces n ≡ Some s → slice_get d.plans n ≡ Some s.plan)
    → ((n : ℕ) (s : State) → slice_get interfaces n ≡ Some s → Follows d.params rs n s)
    → IsHarmless d interfaces rs
harmless d cycles interfaces rs cluster all lawful plans follow = record {
  owned = λ k owner slot r s channel at s_at static guarded is own_it.
      let passing : passes d owner r.window channel ≡ true =
      owner_passes d owner r.window channel own_it.plan slot own_it.at is own_it.owns in
      let plan : own_it.plan ≡ s.plan = same_some own_it.plan s.plan (sym own_it.at ∙ plans owner s s_at) in
      let c = fetch_of_window owner s rs k r (follow owner s s_at) (are_on_time d cycles rs all) at in
      by_fetch d r s channel owner slot (recorded_cycle rs k) c.before c.after c.fetch cluster
      (recorded_at d cycles rs k r all at).1 (accountable s (lawful owner s s_at))
      (slice_get_within d.plans owner s.plan (plans owner s s_at)) static guarded is passing
      (ap (λ (x : Plan). is_owned x.owned slot channel r.window.cycle) (sym plan) ∙ own_it.owns)
      (are_timed d cycles rs all k r at static) c.cut c.timed c.is;
  unowned = λ k slot n r channel at static guarded is nobody.
      silent d d.params r channel n (λ node. none_passes d node slot r.window channel static guarded is nobody
      (passes d node r.window channel) refl)
      (outcome_judged d r (recorded_at d cycles rs k r all at).1);
}
