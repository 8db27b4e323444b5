-- In a run without faults of senders each frame that a listener receives is due in its window.
use Rattle.std.proofs.Common.{◌≡◌, ℕ, zero, suc, ◌<◌, Bool, true, false, cond, ◌&&◌, ◌||◌, List, [], ◌∷◌, ◌++◌, length}
use Rattle.std.proofs.Common.{map, Option, Some, None, refl, sym, ap, subst, ◌∙◌, slice_get}
use Rattle.std.specs.List.{filter, list_all}
use Rattle.std.proofs.lemmas.Bool.{cond-true, not-true, or_parts}
use Rattle.arrayvec.specs.ArrayVec.{ArrayVec}
use Rattle.std.specs.Option.{option_and_then}
use Rattle.fr_bus.specs.declared.outcome.Sent.{Sent}
use Rattle.fr_bus.specs.Outcome.{is_of, passed_on, all_passed, is_passed, heard_of, overruns}
use Rattle.fr_bus.specs.Record.{Recorded, offer_in, corrupt_on, heard}
use Rattle.fr_core.proofs.CaseLemmas.{both_first, both_rest, both}
use Rattle.fr_core.proofs.FollowLemmas.{world_follows, world_configured, legal_at}
use Rattle.fr_core.proofs.HandingLemmas.{fetch_of, bytes_on, offer_is}
use Rattle.fr_core.proofs.LoneLemmas.{IsLone}
use Rattle.fr_core.proofs.ReceiverLemmas.{handed_is_offered}
use Rattle.fr_core.specs.Accounts.{own}
use Rattle.fr_core.specs.Agreeing.{Handed, fetched, offers_of}
use Rattle.fr_core.specs.Headline.{Headline}
use Rattle.fr_core.specs.Receivers.{is_muted, offered_on}
use Rattle.fr_core.specs.Worlds.{WorldState}
use Rattle.fr_frame.specs.Encoding.{encoded}
use Rattle.fr_frame.specs.Fields.{Fields}
use Rattle.fr_guarantees.proofs.DelayLemmas.{static_fits}
use Rattle.fr_guarantees.proofs.HeldTableLaws.{not_static}
use Rattle.fr_guarantees.proofs.WayLemmas.{all_at, IsSentBy, offered_by}
use Rattle.fr_hearing.proofs.OfferLaws.{owners_send, senders_send}
use Rattle.fr_hearing.proofs.OwnedLemmas.{offers_own}
use Rattle.fr_hearing.specs.Listening.{is_sound, is_sound_on, AreSound, IsOwnersThere, IsThere, SpellsDue, HeardIsDue}
use Rattle.fr_hearing.specs.Offering.{IsFetched}
use Rattle.fr_interface.specs.State.{State}
use Rattle.fr_journal.specs.declared.entry.Entry.TheVariants.{Fetch}
use Rattle.fr_journal.specs.declared.entry.Offered.{Offered}
use Rattle.fr_journal.specs.declared.entry.Offered.TheVariants.{Nothing}
use Rattle.fr_journal.specs.Entries.{IsEntry}
use Rattle.fr_journal.specs.Forms.{Entry}
use Rattle.fr_journal.specs.Legal.{IsLegal, IsLegalFetch}
use Rattle.fr_journal.specs.Offers.{frame_with, frame_of_offer, bytes_of}
use Rattle.fr_schedule.specs.Clusters.{IsCluster}
use Rattle.fr_schedule.specs.Descriptions.{Description}
use Rattle.fr_slots.proofs.PlaceLemmas.{same_some, get-append, map-get, AllAfter-cut}
use Rattle.fr_slots.specs.Admission.{is_channel}
use Rattle.fr_slots.specs.declared.channel.Channel.{Channel}
use Rattle.fr_slots.specs.History.{AllAfter}
use Rattle.fr_slots.specs.Parameters.{Parameters, is_static_slot}
use Rattle.fr_slots.specs.Windows.{Opportunity, slot_of, is_static, window_fits, IsInRange}
use Rattle.fr_status.specs.declared.seen.Seen.TheVariants.{Overrun, Bytes}

-- ---- lists

-- an item that a filter kept
pub record IsKept {X : Type 0} (test : X → Bool) (xs : List X) (x : X) : Type 0 where
  pub place : ℕ
  pub at : slice_get xs place ≡ Some x
  pub passing : test x ≡ true

kept_more : {X : Type 0} (test : X → Bool) (y : X) (xs : List X) (x : X) → IsKept test xs x → IsKept test (y ∷ xs) x
kept_more test y xs x k = record { place = suc k.place; at = k.at; passing = k.passing }

pub filter_from : {X : Type 0} (test : X → Bool) (xs : List X) (k : ℕ) (x : X) → slice_get (filter test xs) k ≡ Some x
    → IsKept test xs x
filter_from test [] k x at = absurd (let none : ⊥ = cc in none)
filter_from test (y ∷ xs) k x at = by (test y) refl k at (λ j there. filter_from test xs j x there)
  where
    by : (b : Bool) → test y ≡ b → (j : ℕ) → slice_get (cond b (y ∷ filter test xs) (filter test xs)) j ≡ Some x
        → ((i : ℕ) → slice_get (filter test xs) i ≡ Some x → IsKept test xs x) → IsKept test (y ∷ xs) x
    by true is zero there more = record {
      place = 0;
      at = there;
      passing = ap test (sym (same_some y x there)) ∙ is;
    }
    by true is (suc j) there more = kept_more test y xs x (more j there)
    by false is j there more = kept_more test y xs x (more j there)

-- a node's transmissions on a channel without faults are sound
pub own_sound : (channel : Channel) (n : ℕ) (xs : List Sent) → list_all (is_sound_on channel) xs ≡ true
    → list_all is_sound (own channel n xs) ≡ true
own_sound channel n [] e = refl
own_sound channel n (t ∷ xs) e =
    by (is_of n t) (is_channel t.channel channel)
    (both_first (is_sound_on channel t) (list_all (is_sound_on channel) xs)
    e)
    (own_sound channel n xs (both_rest (is_sound_on channel t) (list_all (is_sound_on channel) xs) e))
  where
    by : (mine on : Bool) → cond on (is_sound t) true ≡ true → list_all is_sound (own channel n xs) ≡ true
        → list_all is_sound (cond (mine && on) (t ∷ own channel n xs) (own channel n xs)) ≡ true
    by true true here rest = both (is_sound t) (list_all is_sound (own channel n xs)) here rest
    by true false here rest = rest
    by false on here rest = rest

-- ---- the only transmission

lone : (p : Parameters) (w : Opportunity) (ts : List Sent) (bytes : ArrayVec ℕ) → heard_of p w None ts ≡ Bytes bytes
    → IsLone ts bytes
lone p w [] bytes e = absurd (let none : ⊥ = cc in none)
lone p w (t ∷ []) bytes e = record {
  sender = t;
  only = refl;
  bytes_are = by (overruns p w (length t.bytes.items)) e;
}
  where
    by : (b : Bool) → cond b Overrun (Bytes t.bytes) ≡ Bytes bytes → t.bytes ≡ bytes
    by true f = absurd (let none : ⊥ = cc in none)
    by false f = cc
lone p w (t ∷ u ∷ ts) bytes e = absurd (let none : ⊥ = cc in none)

-- the transmission whose bytes a listener receives
pub record IsReceived (channel : Channel) (r : Recorded) (bytes : ArrayVec ℕ) : Type 0 where
  pub sender : Sent
  pub kept : IsKept (passed_on channel) r.sent sender
  pub bytes_are : sender.bytes ≡ bytes

pub received_from : (d : Description) (channel : Channel) (r : Recorded) (bytes : ArrayVec ℕ)
    → corrupt_on r channel ≡ None → heard d.params r channel ≡ Bytes bytes → IsReceived channel r bytes
received_from d channel r bytes whole hears =
    let l = lone d.params r.window (all_passed channel r.sent) bytes
    (sym (ap (λ (c : Option ℕ). heard_of d.params r.window c (all_passed channel r.sent)) whole) ∙ hears) in
    record {
      sender = l.sender;
      kept = filter_from (passed_on channel) r.sent 0 l.sender (ap (λ (ts : List Sent). slice_get ts 0) l.only);
      bytes_are = l.bytes_are;
    }

-- ---- the frame that is handed over

pub record IsFrameOf (channel : Channel) (o : Option Fields) (bytes : ArrayVec ℕ) : Type 0 where
  pub frame : Fields
  pub is : o ≡ Some frame
  pub spelled : bytes.items ≡ encoded frame channel

pub frame_of : (channel : Channel) (o : Option Fields) (bytes : ArrayVec ℕ) → bytes_of channel o ≡ Some bytes
    → IsFrameOf channel o bytes
frame_of channel None bytes e = absurd (let none : ⊥ = cc in none)
frame_of channel (Some f) bytes e = record {
  frame = f;
  is = refl;
  spelled = ap (λ (b : ArrayVec ℕ). b.items) (sym (same_some _ bytes e));
}

-- a frame that was handed over isn't nothing
pub not_nothing : (p : Parameters) (s : State) (before : List Entry) (w : Opportunity) (channel : Channel) (o : Offered)
    (f : Fields) (slot : ℕ) → slot_of w channel ≡ Some slot → frame_with s.params s.plan before w channel o ≡ Some f
    → o ≡ Nothing → ⊥
not_nothing p s before w channel o f slot slot_is e nothing =
    let none : None ≡ Some f =
    sym (ap (option_and_then (λ k. frame_of_offer s.params s.plan before w channel k Nothing)) slot_is)
    ∙ sym (ap (frame_with s.params s.plan before w channel) nothing) ∙ e in
    let no : ⊥ = cc in no

pub fetch_legal : (d : Description) (n : ℕ) (s : State) (before : List Entry) (w : Opportunity) (x y : Offered)
    → IsFetched d n s before w x y → IsLegalFetch s.params s.plan before w x y
fetch_legal d n s before w x y is =
    AllAfter-cut (IsLegal s.params s.plan) [] before (Fetch w x y) is.after
    (subst (λ (l : List Entry). AllAfter (IsLegal s.params s.plan) [] l) is.cut is.lawful.legal)

pub fetch_range : (d : Description) (n : ℕ) (s : State) (before : List Entry) (w : Opportunity) (x y : Offered)
    → IsFetched d n s before w x y → IsInRange w
fetch_range d n s before w x y is =
    (AllAfter-cut (λ (b : List Entry) (e : Entry). IsEntry e) [] before (Fetch w x y) is.after
    (subst (λ (l : List Entry). AllAfter (λ (b : List Entry) (e : Entry). IsEntry e) [] l) is.cut
    is.lawful.entries_are)).window_is

pub fetch_fits : (d : Description) (n : ℕ) (s : State) (before : List Entry) (w : Opportunity) (x y : Offered)
    → IsFetched d n s before w x y → window_fits d.params w ≡ true
fetch_fits d n s before w x y is =
    ap (λ (p : Parameters). window_fits p w) (sym is.params_are) ∙ (fetch_legal d n s before w x y is).fits

module _ (d : Description) (n : ℕ) (s : State) (before : List Entry) (w : Opportunity) (x y : Offered)
    (channel : Channel) (slot : ℕ) (cluster : IsCluster d) (is_fetched : IsFetched d n s before w x y)
    (slot_is : slot_of w channel ≡ Some slot) (f : Fields)
    (handed : frame_with s.params s.plan before w channel (offered_on channel x y) ≡ Some f) where
  fits : window_fits d.params w ≡ true
  fits = fetch_fits d n s before w x y is_fetched

  cycle_fits : w.cycle < 64
  cycle_fits = (fetch_range d n s before w x y is_fetched).cycle_fits

  pub static_there : is_static w ≡ true → IsOwnersThere d w channel slot f
  static_there static =
      let static_slot = static_fits d.params w channel slot fits static slot_is in
      let static_here : is_static_slot s.params slot ≡ true =
      ap (λ (p : Parameters). is_static_slot p slot) is_fetched.params_are ∙ static_slot in
      let owned = offers_own s.params s.plan before w channel slot is_fetched.lawful.faultless static static_here
      cycle_fits slot_is (offered_on channel x y)
      (offer_is s before w x y channel (fetch_legal d n s before w x y is_fetched))
      (not_nothing d.params s before w channel (offered_on channel x y) f slot slot_is handed) in
      let h = owners_send d n s before w x y channel slot cluster is_fetched (record {
        static = static;
        static_slot = static_slot;
        slot_is = slot_is;
        cycle_fits = cycle_fits;
        owned = owned;
      }) in
      subst (λ (g : Fields). IsOwnersThere d w channel slot g) (same_some h.frame f (sym h.handed ∙ handed)) (record {
        id_is = h.id_is;
        cycle_is = h.cycle_is;
        due = h.due;
        due_is = h.due_is;
        owners = h.owners;
      })

  handed_there : (b : Bool) → is_static w ≡ b → IsThere d w channel slot f b
  handed_there true static = static_there static
  handed_there false dynamic = senders_send d n s before w x y channel slot f cluster is_fetched (record {
    dynamic = dynamic;
    dynamic_slot = not_static d.params w channel slot fits dynamic slot_is;
    slot_is = slot_is;
    cycle_fits = cycle_fits;
  }) handed

-- ---- the windows of a record

-- the node fetched the window, and its offers were recorded
pub record IsHanded (d : Description) (n : ℕ) (s : State) (r : Recorded) : Type 0 where
  pub before : List Entry
  pub a : Offered
  pub b : Offered
  pub fetched_is : IsFetched d n s before r.window a b
  pub handed : (channel : Channel) → bytes_of channel (frame_with s.params s.plan before r.window channel
      (offered_on channel a b)) ≡ offer_in channel n r.sent

module _ (w : WorldState) (head : Headline w) where
  pub handed_by : (n k : ℕ) (s : State) (r : Recorded) → slice_get w.interfaces n ≡ Some s
      → slice_get w.bus.sealed k ≡ Some r → IsHanded w.bus.cluster n s r
  handed_by n k s r here at =
      let follows = world_follows w head.agrees n s here in
      let configured = world_configured w head.agrees n s here in
      let there : slice_get (fetched s) k ≡ Some (offers_of n r) =
      ap (λ (l : List Handed). slice_get l k) follows.fetches
      ∙ get-append (map (offers_of n) w.bus.sealed) follows.under_way k (offers_of n r)
      (map-get (offers_of n) w.bus.sealed k r at) in
      let c = fetch_of s k (offers_of n r) there in
      let window : c.holds.window ≡ r.window = ap (λ (h : Handed). h.window) c.holds.handed_is in
      record {
        before = c.inner;
        a = c.holds.a;
        b = c.holds.b;
        fetched_is = record {
          lawful = legal_at w.interfaces head.legal n s here;
          params_are = configured.params_are;
          plan_at = configured.plan_at;
          after = c.after;
          cut = c.cut ∙ ap (λ (e : Entry). c.inner ++ e ∷ c.after) c.holds.entry_is
              ∙ ap (λ (o : Opportunity). c.inner ++ Fetch o c.holds.a c.holds.b ∷ c.after) window;
        };
        handed = λ channel. ap (λ (o : Opportunity). bytes_of channel (frame_with s.params s.plan c.inner o channel
            (offered_on channel c.holds.a c.holds.b))) (sym window)
            ∙ bytes_on s c.inner c.here (offers_of n r) channel c.holds ∙ handed_is_offered n r channel;
      }

  module _ (channel : Channel) (sound : AreSound channel w.bus.sealed) (k slot : ℕ) (r : Recorded)
      (at : slice_get w.bus.sealed k ≡ Some r) (slot_is : slot_of r.window channel ≡ Some slot) where
    -- the node of a transmission, and what it handed over
    pub sent_by : (i : ℕ) (t : Sent) → slice_get r.sent i ≡ Some t → passed_on channel t ≡ true
        → IsSentBy w.interfaces channel r t
    sent_by i t there through =
        let silent = or_parts t.babble (is_muted t.fate) (not-true (t.babble || is_muted t.fate)
        (sym (cond-true (is_channel t.channel channel) (is_sound t) true
        (both_first (is_channel t.channel channel) (is_passed t.fate) through))
        ∙ all_at (is_sound_on channel) r.sent i t (sound k r at) there)) in
        offered_by w head k r at channel slot slot_is i t there through silent.0

    pub sent_due : (i : ℕ) (t : Sent) → slice_get r.sent i ≡ Some t → passed_on channel t ≡ true
        → SpellsDue w.bus.cluster r.window channel slot t.bytes
    sent_due i t there through =
        let by = sent_by i t there through in
        let h = handed_by t.node k by.state r by.here at in
        let f = frame_of channel (frame_with by.state.params by.state.plan h.before r.window channel
        (offered_on channel h.a h.b)) t.bytes (h.handed channel ∙ by.offer) in
        record {
          frame = f.frame;
          spelled = f.spelled;
          is_there = handed_there w.bus.cluster t.node by.state h.before r.window h.a h.b channel slot head.run.lawful
              h.fetched_is slot_is f.frame f.is (is_static r.window) refl;
        }

pub heard_is_due : (w : WorldState) → Headline w → HeardIsDue w
heard_is_due w head channel sound k slot r bytes at whole slot_is hears =
    let x = received_from w.bus.cluster channel r bytes whole hears in
    subst (SpellsDue w.bus.cluster r.window channel slot) x.bytes_are
    (sent_due w head channel sound k slot r at slot_is x.kept.place x.sender x.kept.at x.kept.passing)
