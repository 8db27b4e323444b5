-- Where a buffer for both channels sends in a static slot, a listener receives the same frame on both.
use Rattle.std.proofs.Common.{◌≡◌, ℕ, ◌-◌, ◌<◌, ◌≤◌, Bool, true, false, List, [], ◌∷◌, ◌++◌, length, Some, refl, sym}
use Rattle.std.proofs.Common.{ap, subst, ◌∙◌, arith, slice_get}
use Rattle.std.proofs.lemmas.Bool.{leb-false}
use Rattle.std.proofs.lemmas.List.{append_assoc}
use Rattle.arrayvec.specs.ArrayVec.{ArrayVec}
use Rattle.fr_bus.specs.Record.{Recorded, offer_in}
use Rattle.fr_bus.specs.States.{IsRecorded}
use Rattle.fr_bus.specs.Windows.{cycles_begun, following}
use Rattle.fr_core.proofs.HandingLemmas.{offer_is}
use Rattle.fr_core.specs.Headline.{Headline}
use Rattle.fr_core.specs.Worlds.{WorldState}
use Rattle.fr_frame.proofs.EncodingLemmas.{encoded_is_decoded}
use Rattle.fr_frame.specs.Decoding.{decoded}
use Rattle.fr_frame.specs.Encoding.{encoded}
use Rattle.fr_frame.specs.Fields.{Fields, IsFrame}
use Rattle.fr_guarantees.proofs.DelayLemmas.{static_fits}
use Rattle.fr_guarantees.proofs.HeldTableLaws.{not_static}
use Rattle.fr_hearing.proofs.ListenLaws.{frame_of, received_from, handed_by, IsHanded, fetch_legal, fetch_range}
use Rattle.fr_hearing.proofs.ListenLaws.{fetch_fits, static_there, sent_by}
use Rattle.fr_hearing.proofs.pairing.BothLemmas.{IsTwin, is_twin, owned_there, offers_alike}
use Rattle.fr_hearing.proofs.pairing.OnceLemmas.{same_level, statics_are}
use Rattle.fr_hearing.proofs.pairing.SideLemmas.{AreAlike, both_static, in_range}
use Rattle.fr_hearing.proofs.pairing.ViewLemmas.{Alike}
use Rattle.fr_hearing.proofs.pairing.WalkLemmas.{AreMapped}
use Rattle.fr_hearing.proofs.PassageLemmas.{IsLoud}
use Rattle.fr_hearing.proofs.SingleLemmas.{IsOwning, owning}
use Rattle.fr_hearing.proofs.SizeLemmas.{static_words}
use Rattle.fr_hearing.specs.Listening.{IsOwnersThere, IsThere}
use Rattle.fr_hearing.specs.Runs.{IsHealthy}
use Rattle.fr_interface.specs.State.{State}
use Rattle.fr_journal.specs.declared.entry.Offered.{Offered}
use Rattle.fr_journal.specs.Offers.{frame_with, bytes_of, offered}
use Rattle.fr_judging.specs.Rules.{other_channel}
use Rattle.fr_logged.proofs.DueLemmas.{due_is_owners, static_sender}
use Rattle.fr_logged.proofs.FirstLemmas.{any_found_in, there}
use Rattle.fr_logged.specs.declared.due.Due.{Due}
use Rattle.fr_logged.specs.Dues.{buffer_in, static_due, due_of}
use Rattle.fr_schedule.specs.Descriptions.{Description}
use Rattle.fr_schedule.specs.SenderTable.{IsSender}
use Rattle.fr_slots.proofs.PlaceLemmas.{same_some, get-after, AllAfter-cut}
use Rattle.fr_slots.specs.declared.channel.Channel.{Channel}
use Rattle.fr_slots.specs.Faults.{claims}
use Rattle.fr_slots.specs.History.{AllAfter}
use Rattle.fr_slots.specs.Numbers.{IsSlot}
use Rattle.fr_slots.specs.Parameters.{Parameters, is_static_slot}
use Rattle.fr_slots.specs.Windows.{slot_of, is_static, window_fits}

-- ---- the frame of an owner

-- bytes spell one frame
same_frame : (f g : Fields) (channel : Channel) (bytes : List ℕ) → IsFrame f → IsFrame g → bytes ≡ encoded f channel
    → bytes ≡ encoded g channel → f ≡ g
same_frame f g channel bytes is_f is_g spells_f spells_g =
    same_some f g (sym (encoded_is_decoded f channel is_f) ∙ ap (decoded channel) (sym spells_f ∙ spells_g)
    ∙ encoded_is_decoded g channel is_g)

-- ---- a static window

module _ (w : WorldState) (head : Headline w) (k : ℕ) (r : Recorded) (at : slice_get w.bus.sealed k ≡ Some r) where
  -- the bytes that a listener receives are the offer of this node
  record IsOffered (channel : Channel) (bytes : ArrayVec ℕ) : Type 0 where
    node : ℕ
    state : State
    here : slice_get w.interfaces node ≡ Some state
    offer : offer_in channel node r.sent ≡ Some bytes

  offered_by : (channel : Channel) → IsHealthy w channel → (l : IsLoud w.bus.cluster channel r)
      → IsOffered channel l.bytes
  offered_by channel healthy l =
      let x = received_from w.bus.cluster channel r l.bytes (healthy.intact k r at) l.hears in
      let by = sent_by w head channel healthy.sound k l.slot r at l.slot_is x.kept.place x.sender x.kept.at
      x.kept.passing in
      record {
        node = x.sender.node;
        state = by.state;
        here = by.here;
        offer = by.offer ∙ ap Some x.bytes_are;
      }

  -- ---- the frame of a static slot

  record IsStaticHeard (channel : Channel) (slot : ℕ) (f : Fields) : Type 0 where
    bytes : ArrayVec ℕ
    spelled : bytes.items ≡ encoded f channel
    static : is_static r.window ≡ true
    slot_is : slot_of r.window channel ≡ Some slot
    there_is : IsOwnersThere w.bus.cluster r.window channel slot f
    offer_is : IsOffered channel bytes

  static_heard : (channel : Channel) → IsHealthy w channel → (l : IsLoud w.bus.cluster channel r) (slot : ℕ)
      → l.frame.id ≡ slot → slot ≤ w.bus.cluster.params.static_slots → IsStaticHeard channel slot l.frame
  static_heard channel healthy l slot id few = by (is_static r.window) refl l.is_there
    where
      offer_here : IsOffered channel l.bytes
      offer_here = offered_by channel healthy l

      by : (b : Bool) → is_static r.window ≡ b → IsThere w.bus.cluster r.window channel l.slot l.frame b
          → IsStaticHeard channel slot l.frame
      by true static there_is =
          let same : l.slot ≡ slot = sym there_is.id_is ∙ id in
          record {
            bytes = l.bytes;
            spelled = l.spelled;
            static = static;
            slot_is = l.slot_is ∙ ap Some same;
            there_is = subst (λ (n : ℕ). IsOwnersThere w.bus.cluster r.window channel n l.frame) same there_is;
            offer_is = offer_here;
          }
      by false dynamic there_is =
          let same : l.slot ≡ slot = sym there_is.id_is ∙ id in
          let h = handed_by w head offer_here.node k offer_here.state r offer_here.here at in
          let fits = fetch_fits w.bus.cluster offer_here.node offer_here.state h.before r.window h.a h.b h.fetched_is in
          let beyond = leb-false l.slot w.bus.cluster.params.static_slots
          (not_static w.bus.cluster.params r.window channel l.slot fits dynamic l.slot_is) in
          absurd (let none : ⊥ = omega (arith, same, few, beyond) in none)

  -- ---- a node that offers the frame

  module _ (n : ℕ) (s : State) (h : IsHanded w.bus.cluster n s r) (channel : Channel) (slot : ℕ) (f : Fields)
      (x : IsStaticHeard channel slot f) (offer : offer_in channel n r.sent ≡ Some x.bytes) where
    window_here : window_fits w.bus.cluster.params r.window ≡ true
    window_here = fetch_fits w.bus.cluster n s h.before r.window h.a h.b h.fetched_is

    cycle_here : r.window.cycle < 64
    cycle_here = (fetch_range w.bus.cluster n s h.before r.window h.a h.b h.fetched_is).cycle_fits

    static_here : is_static_slot w.bus.cluster.params slot ≡ true
    static_here = static_fits w.bus.cluster.params r.window channel slot window_here x.static x.slot_is

    is_frame : (g : Fields) → IsOwnersThere w.bus.cluster r.window channel slot g → slot ≤ 1023 → IsFrame g
    is_frame g there_is few =
        let id = there_is.id_is in
        let cycle = there_is.cycle_is in
        let fits = cycle_here in
        let words = there_is.owners.words in
        let due_words = static_words w.bus.cluster slot channel r.window.cycle there_is.due static_here there_is.due_is
        in
        let most : w.bus.cluster.params.static_words ≤ 127 = head.run.lawful.params_are.static_words_fit.at_most in
        record {
          id_fits = omega (arith, id, few);
          cycle_fits = omega (arith, cycle, fits);
          payload_fits = record {
            short = omega (arith, words, due_words, most);
            even = omega (arith, words);
          };
        }

    -- the node hands over the frame that a listener receives
    hands_over : slot ≤ 1023 → frame_with s.params s.plan h.before r.window channel
        (offered s.plan h.before r.window channel) ≡ Some f
    hands_over few =
        let legal = fetch_legal w.bus.cluster n s h.before r.window h.a h.b h.fetched_is in
        let offered_is = offer_is s h.before r.window h.a h.b channel legal in
        let o = frame_of channel (frame_with s.params s.plan h.before r.window channel
        (offered s.plan h.before r.window channel)) x.bytes
        (ap (λ (y : Offered). bytes_of channel (frame_with s.params s.plan h.before r.window channel y)) offered_is
        ∙ h.handed channel ∙ offer) in
        let there_is = static_there w.bus.cluster n s h.before r.window h.a h.b channel slot head.run.lawful
        h.fetched_is x.slot_is o.frame
        (ap (frame_with s.params s.plan h.before r.window channel) (sym offered_is) ∙ o.is) x.static in
        o.is ∙ ap Some (same_frame o.frame f channel x.bytes.items (is_frame o.frame there_is few)
        (is_frame f x.there_is few) o.spelled x.spelled)

    -- its line for the slot
    line_here : slot ≤ 1023 → IsOwning s.plan slot channel r.window.cycle
    line_here few =
        owning w.bus.cluster n s h.before r.window h.a h.b channel slot h.fetched_is x.slot_is f
        (ap (frame_with s.params s.plan h.before r.window channel) (sym (offer_is s h.before r.window h.a h.b channel
        (fetch_legal w.bus.cluster n s h.before r.window h.a h.b h.fetched_is))) ∙ hands_over few) x.static

    sender_is : slot ≤ 1023 → IsSender w.bus.cluster r.window.cycle slot channel n
    sender_is few =
        let o = line_here few in
        static_sender w.bus.cluster slot channel r.window.cycle n s.plan static_here h.fetched_is.plan_at
        (any_found_in (claims slot channel r.window.cycle) s.plan.owned o.value o.line)

    -- what is due there comes from its buffer
    due_here : slot ≤ 1023 → (due : Due) → due_of w.bus.cluster slot channel r.window.cycle ≡ Some due
        → due.both ≡ true → IsTwin slot channel r.window.cycle s.plan
    due_here few due due_is both =
        let o = line_here few in
        let same : static_due w.bus.cluster.params n s.plan o.value (buffer_in slot channel r.window.cycle s.plan)
        ≡ due =
        same_some (static_due w.bus.cluster.params n s.plan o.value (buffer_in slot channel r.window.cycle s.plan)) due
        (sym (due_is_owners w.bus.cluster slot channel r.window.cycle n s.plan o.value head.run.lawful.one_sender
        cycle_here static_here h.fetched_is.plan_at o.line) ∙ due_is) in
        is_twin slot channel r.window.cycle s.plan (ap (λ (y : Due). y.both) same ∙ both)

  -- ---- both channels

  twins : (here there : Channel) (slot : ℕ) (f g : Fields) → IsSlot slot → slot ≤ 1023 → IsStaticHeard here slot f
      → IsStaticHeard there slot g → (due : Due) → due_of w.bus.cluster slot here r.window.cycle ≡ Some due
      → due.both ≡ true → Alike f g
  twins here there slot f g is_slot few x y due due_is both =
      let d : Description = w.bus.cluster in
      let n : ℕ = x.offer_is.node in
      let s : State = x.offer_is.state in
      let h = handed_by w head x.offer_is.node k x.offer_is.state r x.offer_is.here at in
      let i = handed_by w head y.offer_is.node k y.offer_is.state r y.offer_is.here at in
      let fits : r.window.cycle < 64 = cycle_here n s h here slot f x x.offer_is.offer in
      let static = static_here n s h here slot f x x.offer_is.offer in
      let twin = due_here n s h here slot f x x.offer_is.offer few due due_is both in
      let static_there_is : is_static_slot s.params slot ≡ true =
      ap (λ (p : Parameters). is_static_slot p slot) h.fetched_is.params_are ∙ static in
      let owned = owned_there s.params s.plan slot here there r.window.cycle h.fetched_is.lawful.faultless fits
      static_there_is twin in
      let mine = static_sender d slot there r.window.cycle n s.plan static h.fetched_is.plan_at owned in
      let theirs = sender_is y.offer_is.node y.offer_is.state i there slot g y y.offer_is.offer few in
      let same : n ≡ y.offer_is.node =
      head.run.lawful.one_sender r.window.cycle slot there n y.offer_is.node fits mine theirs in
      let offer : offer_in there n r.sent ≡ Some y.bytes =
      ap (λ (m : ℕ). offer_in there m r.sent) same ∙ y.offer_is.offer in
      offers_alike s.params s.plan r.window slot here there h.fetched_is.lawful.faultless fits is_slot x.slot_is
      y.slot_is twin h.before f g x.static (hands_over n s h here slot f x x.offer_is.offer few)
      (hands_over n s h there slot g y offer few)

-- ---- the frames of a run

-- in this window a listener receives the frame
record IsHeard (d : Description) (channel : Channel) (r : Recorded) (f : Fields) : Type 0 where
  loud : IsLoud d channel r
  frame_is : loud.frame ≡ f

-- a listener receives the frame in a window of this cycle of the run, in this slot
pub record IsInRun (w : WorldState) (channel : Channel) (cycle slot : ℕ) (f : Fields) : Type 0 where
  inner : List Recorded
  here : Recorded
  after : List Recorded
  cut : w.bus.sealed ≡ inner ++ here ∷ after
  heard_is : IsHeard w.bus.cluster channel here f
  some_cycle : 1 ≤ cycles_begun (inner ++ here ∷ [])
  cycle_is : cycles_begun (inner ++ here ∷ []) - 1 ≡ cycle
  id_is : f.id ≡ slot

pub each_in_run : (w : WorldState) (before rs : List Recorded) → w.bus.sealed ≡ before ++ rs
    → AreMapped w.bus.cluster (IsInRun w) before rs
each_in_run w before [] cut = tt
each_in_run w before (x ∷ rs) cut = (
  λ channel l some. record {
    inner = before;
    here = x;
    after = rs;
    cut = cut;
    heard_is = record { loud = l; frame_is = refl };
    some_cycle = some;
    cycle_is = refl;
    id_is = refl;
  },
  each_in_run w (before ++ x ∷ []) rs (cut ∙ sym (append_assoc before (x ∷ []) rs)),
)

module _ (w : WorldState) (head : Headline w) (healthy : (channel : Channel) → IsHealthy w channel) where
  at_cut : (inner : List Recorded) (here : Recorded) (after : List Recorded) → w.bus.sealed ≡ inner ++ here ∷ after
      → slice_get w.bus.sealed (length inner) ≡ Some here
  at_cut inner here after cut = ap (λ (l : List Recorded). slice_get l (length inner)) cut ∙ get-after inner after here

  follows_at : (inner : List Recorded) (here : Recorded) (after : List Recorded)
      → w.bus.sealed ≡ inner ++ here ∷ after
      → following w.bus.cluster.params w.bus.cycles inner ≡ Some here.window
  follows_at inner here after cut =
      (AllAfter-cut (IsRecorded w.bus.cluster w.bus.cycles) [] inner here after
      (subst (λ (l : List Recorded). AllAfter (IsRecorded w.bus.cluster w.bus.cycles) [] l) cut head.run.recorded)).0

  static_in : (channel : Channel) (k slot : ℕ) (r : Recorded) (f : Fields)
      → (at : slice_get w.bus.sealed k ≡ Some r) → IsHeard w.bus.cluster channel r f → f.id ≡ slot
      → slot ≤ w.bus.cluster.params.static_slots → IsStaticHeard w head k r at channel slot f
  static_in channel k slot r f at x id few =
      subst (IsStaticHeard w head k r at channel slot) x.frame_is
      (static_heard w head k r at channel (healthy channel) x.loud slot
      (ap (λ (g : Fields). g.id) x.frame_is ∙ id) few)

  -- in one slot and cycle both are received in the same window
  one_window : (channel : Channel) (cycle slot : ℕ) (f g : Fields) → slot ≤ w.bus.cluster.params.static_slots
      → (x : IsInRun w channel cycle slot f) → (y : IsInRun w (other_channel channel) cycle slot g)
      → x.here ≡ y.here
  one_window channel cycle slot f g few x y =
      let a = static_in channel (length x.inner) slot x.here f (at_cut x.inner x.here x.after x.cut) x.heard_is x.id_is
      few in
      let b = static_in (other_channel channel) (length y.inner) slot y.here g
      (at_cut y.inner y.here y.after y.cut) y.heard_is y.id_is few in
      let some = x.some_cycle in
      let more = y.some_cycle in
      let first = x.cycle_is in
      let second = y.cycle_is in
      let begun : cycles_begun (x.inner ++ x.here ∷ []) ≡ cycles_begun (y.inner ++ y.here ∷ []) =
      omega (arith, some, more, first, second) in
      (same_level w.bus.cluster.params w.bus.cycles [] x.inner y.inner x.here y.here x.after y.after (sym x.cut ∙ y.cut)
      a.static b.static (record {
        begun = begun;
        statics = statics_are w.bus.cluster.params w.bus.cycles x.inner x.here channel slot
            (follows_at x.inner x.here x.after x.cut) a.static a.slot_is
            ∙ sym (statics_are w.bus.cluster.params w.bus.cycles y.inner y.here (other_channel channel) slot
            (follows_at y.inner y.here y.after y.cut) b.static b.slot_is);
      })).1

  pub are_alike : AreAlike w.bus.cluster (IsInRun w)
  are_alike channel cycle slot f g due x y due_at_is both =
      let d : Description = w.bus.cluster in
      let range = in_range d slot channel f.cycle due due_at_is in
      let few = both_static d slot channel f.cycle due range.due_is both in
      let most : d.params.static_slots ≤ 1023 = head.run.lawful.params_are.static_slots_fit.at_most in
      let some = range.some in
      let at = at_cut x.inner x.here x.after x.cut in
      let there = subst (λ (r : Recorded). IsHeard d (other_channel channel) r g)
      (sym (one_window channel cycle slot f g few x y)) y.heard_is in
      let a = static_in channel (length x.inner) slot x.here f at x.heard_is x.id_is few in
      let b = static_in (other_channel channel) (length x.inner) slot x.here g at there y.id_is few in
      twins w head (length x.inner) x.here at channel (other_channel channel) slot f g
      (record { from_one = some; at_most = omega (arith, few, most) }) (omega (arith, few, most)) a b due
      (ap (λ (n : ℕ). due_of d slot channel n) (sym a.there_is.cycle_is) ∙ range.due_is) both
