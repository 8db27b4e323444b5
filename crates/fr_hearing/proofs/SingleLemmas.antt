-- In a run without faults of senders at most one frame passes on a channel in a window.
use Rattle.std.proofs.Common.{◌≡◌, ℕ, suc, ◌<◌, ◌≤◌, Bool, true, false, cond, ◌&&◌, List, [], ◌∷◌, ◌++◌, length, Option}
use Rattle.std.proofs.Common.{Some, None, refl, sym, ap, ◌∙◌, arith, slice_get, ◌⊎◌, inl, inr, length-append}
use Rattle.std.specs.Prelude.{slice_index_or, ◌==◌, is_some}
use Rattle.std.specs.List.{filter, list_all}
use Rattle.std.proofs.lemmas.Bool.{eq-eqb, cond-true, cond-false}
use Rattle.arrayvec.specs.ArrayVec.{ArrayVec}
use Rattle.std.specs.Option.{option_and_then}
use Rattle.fr_bus.specs.declared.outcome.Sent.{Sent}
use Rattle.fr_bus.specs.declared.outcome.SentFate.{SentFate}
use Rattle.fr_bus.specs.Outcome.{transmission, sent_in, is_of, passed_on, all_passed, fate_of, is_passed}
use Rattle.fr_bus.specs.Record.{Recorded, side_on}
use Rattle.fr_bus.specs.States.{idle_station}
use Rattle.fr_core.proofs.CaseLemmas.{both_first, both_rest, both}
use Rattle.fr_core.proofs.HandingLemmas.{offer_is}
use Rattle.fr_core.proofs.TakingLemmas.{in_slot}
use Rattle.fr_core.specs.Accounts.{own}
use Rattle.fr_core.specs.Headline.{Headline}
use Rattle.fr_core.specs.Receivers.{offered_on}
use Rattle.fr_core.specs.Worlds.{WorldState}
use Rattle.fr_frame.specs.Fields.{Fields}
use Rattle.fr_guarantees.proofs.DelayLemmas.{static_fits}
use Rattle.fr_guarantees.proofs.HeldTableLaws.{not_static}
use Rattle.fr_guarantees.proofs.OfferLemmas.{some_buffer}
use Rattle.fr_guarantees.proofs.WayLemmas.{filter_has, outcome_at, own_are}
use Rattle.fr_guardian.specs.Guarding.{passes}
use Rattle.fr_hearing.proofs.ListenLaws.{IsKept, filter_from, not_nothing, fetch_legal, fetch_range, fetch_fits}
use Rattle.fr_hearing.proofs.ListenLaws.{handed_by, sent_by, sent_due, frame_of, own_sound}
use Rattle.fr_hearing.proofs.OfferLaws.{transmitter_is, line_is, not_owned}
use Rattle.fr_hearing.proofs.OwnedLemmas.{offers_own}
use Rattle.fr_hearing.specs.Listening.{is_sound, AreSound, SpellsDue}
use Rattle.fr_hearing.specs.Offering.{IsFetched}
use Rattle.fr_interface.specs.State.{State}
use Rattle.fr_journal.specs.declared.entry.Offered.{Offered}
use Rattle.fr_journal.specs.declared.entry.Offered.TheVariants.{Nothing, Null, Data}
use Rattle.fr_journal.specs.Forms.{Entry}
use Rattle.fr_journal.specs.Offers.{frame_with, offered, offered_at, data_or, commit_offered, line_of}
use Rattle.fr_logged.proofs.DueLemmas.{static_sender, dynamic_sender}
use Rattle.fr_logged.proofs.FirstLemmas.{any_found_in, there}
use Rattle.fr_logged.specs.Dues.{buffer_in, line_in}
use Rattle.fr_schedule.specs.Descriptions.{Description}
use Rattle.fr_schedule.specs.SenderTable.{IsSender}
use Rattle.fr_slots.specs.Admission.{is_channel}
use Rattle.fr_slots.specs.declared.channel.Channel.{Channel}
use Rattle.fr_slots.specs.declared.plan.Own.{Own}
use Rattle.fr_slots.specs.Faults.{claims, sends_at}
use Rattle.fr_slots.specs.Parameters.{Parameters, is_static_slot}
use Rattle.fr_slots.specs.Plans.{buffer_at, Plan}
use Rattle.fr_slots.specs.Windows.{Opportunity, slot_of, is_static}

-- ---- a node that hands a frame over is a sender of the slot

-- the node's line for the slot
pub record IsOwning (plan : Plan) (slot : ℕ) (channel : Channel) (cycle : ℕ) : Type 0 where
  pub value : Own
  pub line : line_in slot channel cycle plan ≡ Some value

module _ (d : Description) (n : ℕ) (s : State) (before : List Entry) (w : Opportunity) (x y : Offered)
    (channel : Channel) (slot : ℕ) (is_fetched : IsFetched d n s before w x y)
    (slot_is : slot_of w channel ≡ Some slot) (f : Fields)
    (handed : frame_with s.params s.plan before w channel (offered_on channel x y) ≡ Some f) where
  offer_here : offered s.plan before w channel ≡ offered_on channel x y
  offer_here = offer_is s before w x y channel (fetch_legal d n s before w x y is_fetched)

  static_here : is_static w ≡ true → is_static_slot d.params slot ≡ true
  static_here static = static_fits d.params w channel slot (fetch_fits d n s before w x y is_fetched) static slot_is

  pub owning : is_static w ≡ true → IsOwning s.plan slot channel w.cycle
  owning static =
      let owned = offers_own s.params s.plan before w channel slot is_fetched.lawful.faultless static
      (ap (λ (p : Parameters). is_static_slot p slot) is_fetched.params_are ∙ static_here static)
      (fetch_range d n s before w x y is_fetched).cycle_fits slot_is (offered_on channel x y) offer_here
      (not_nothing d.params s before w channel (offered_on channel x y) f slot slot_is handed) in
      let line = there (line_of s.plan w channel slot) owned in
      record { value = line.value; line = sym (line_is s.plan w channel slot static) ∙ line.is }

  static_sends : is_static w ≡ true → IsSender d w.cycle slot channel n
  static_sends static =
      let o = owning static in
      static_sender d slot channel w.cycle n s.plan (static_here static) is_fetched.plan_at
      (any_found_in (claims slot channel w.cycle) s.plan.owned o.value o.line)

  dynamic_sends : is_static w ≡ false → (o : Offered) → offered_on channel x y ≡ o → IsSender d w.cycle slot channel n
  dynamic_sends dynamic Nothing is =
      absurd (not_nothing d.params s before w channel (offered_on channel x y) f slot slot_is handed is)
  dynamic_sends dynamic Null is = absurd (none_null (commit_offered s.plan before w channel)
      (ap (λ (l : Option Own). data_or (cond (is_some l) Null Nothing) (commit_offered s.plan before w channel))
      (sym (not_owned s.plan w channel slot dynamic))
      ∙ ap (offered_at s.plan before w channel) (sym slot_is) ∙ offer_here ∙ is))
    where
      none_null : (o : Option ℕ) → data_or Nothing o ≡ Null → ⊥
      none_null None g = let none : ⊥ = cc in none
      none_null (Some k) g = let none : ⊥ = cc in none
  dynamic_sends dynamic (Data commit) is =
      let o = in_slot s.plan before w channel commit (slot_of w channel) (offer_here ∙ is) in
      let b = some_buffer s.plan before o.buffer commit o.is_ready in
      let found : buffer_in slot channel w.cycle s.plan ≡ Some b.buffer =
      transmitter_is s.plan w channel slot slot_is ∙ ap (option_and_then (buffer_at s.plan)) o.at ∙ b.at in
      dynamic_sender d slot channel w.cycle n s.plan
      (not_static d.params w channel slot (fetch_fits d n s before w x y is_fetched) dynamic slot_is)
      is_fetched.plan_at (any_found_in (sends_at slot channel w.cycle) s.plan.buffers b.buffer found)

  pub sends : (b : Bool) → is_static w ≡ b → IsSender d w.cycle slot channel n
  sends true static = static_sends static
  sends false dynamic = dynamic_sends dynamic (offered_on channel x y) refl

-- ---- lists

filter_few : {X : Type 0} (test : X → Bool) (xs : List X) → length (filter test xs) ≤ length xs
filter_few test [] = omega arith
filter_few test (x ∷ xs) = by (test x) (filter_few test xs)
  where
    by : (b : Bool) → length (filter test xs) ≤ length xs
        → length (cond b (x ∷ filter test xs) (filter test xs)) ≤ suc (length xs)
    by true few = omega (arith, few)
    by false few = omega (arith, few)

all_rest : {X : Type 0} (test : X → Bool) (xs ys : List X) → list_all test (xs ++ ys) ≡ true → list_all test ys ≡ true
all_rest test [] ys e = e
all_rest test (x ∷ xs) ys e = all_rest test xs ys (both_rest (test x) (list_all test (xs ++ ys)) e)

-- if all that passed is of one node, it is that node's
pub passed_mine : (channel : Channel) (n : ℕ) (xs : List Sent)
    → ((k : ℕ) (t : Sent) → slice_get xs k ≡ Some t → passed_on channel t ≡ true → t.node ≡ n)
    → all_passed channel xs ≡ all_passed channel (own channel n xs)
passed_mine channel n [] mine = refl
passed_mine channel n (t ∷ xs) mine =
    by (is_channel t.channel channel) (is_passed t.fate) refl refl
    (passed_mine channel n xs (λ k u at through. mine (suc k) u at through))
  where
    past : (b : Bool) → passed_on channel t ≡ false
        → all_passed channel (own channel n xs)
        ≡ all_passed channel (cond b (t ∷ own channel n xs) (own channel n xs))
    past true e = sym (cond-false (passed_on channel t) (t ∷ all_passed channel (own channel n xs))
        (all_passed channel (own channel n xs)) e)
    past false e = refl

    by : (on through : Bool) → is_channel t.channel channel ≡ on → is_passed t.fate ≡ through
        → all_passed channel xs ≡ all_passed channel (own channel n xs)
        → all_passed channel (t ∷ xs) ≡ all_passed channel (own channel n (t ∷ xs))
    by true true on_is through_is rest =
        let passing : passed_on channel t ≡ true = both (is_channel t.channel channel) (is_passed t.fate) on_is
        through_is in
        let mine_is : (is_of n t && is_channel t.channel channel) ≡ true =
        both (is_of n t) (is_channel t.channel channel) (eq-eqb t.node n (mine 0 t refl passing)) on_is in
        cond-true (passed_on channel t) (t ∷ all_passed channel xs) (all_passed channel xs) passing
        ∙ ap (λ (l : List Sent). t ∷ l) rest
        ∙ sym (cond-true (passed_on channel t) (t ∷ all_passed channel (own channel n xs))
        (all_passed channel (own channel n xs)) passing)
        ∙ ap (λ (b : Bool). all_passed channel (cond b (t ∷ own channel n xs) (own channel n xs))) (sym mine_is)
    by false through on_is through_is rest =
        let stopped : passed_on channel t ≡ false = ap (λ (b : Bool). b && is_passed t.fate) on_is in
        cond-false (passed_on channel t) (t ∷ all_passed channel xs) (all_passed channel xs) stopped ∙ rest
        ∙ past (is_of n t && is_channel t.channel channel) stopped
    by true false on_is through_is rest =
        let stopped : passed_on channel t ≡ false =
        ap (λ (b : Bool). b && is_passed t.fate) on_is ∙ through_is in
        cond-false (passed_on channel t) (t ∷ all_passed channel xs) (all_passed channel xs) stopped ∙ rest
        ∙ past (is_of n t && is_channel t.channel channel) stopped

-- ---- a node without babbles

one_offer : (n : ℕ) (channel : Channel) (fate : SentFate) (offer : Option (ArrayVec ℕ))
    → length (transmission n channel false fate offer) ≤ 1
one_offer n channel fate None = omega arith
one_offer n channel fate (Some bytes) = by (length bytes.items == 0)
  where
    by : (b : Bool) → length (cond {A = List Sent} b []
        (record { node = n; channel = channel; babble = false; bytes = bytes; fate = fate } ∷ [])) ≤ 1
    by true = omega arith
    by false = omega arith

pub no_babble : (n : ℕ) (channel : Channel) (fate : SentFate) (babble : Option (ArrayVec ℕ))
    → list_all is_sound (transmission n channel true fate babble) ≡ true
    → transmission n channel true fate babble ≡ []
no_babble n channel fate None sound = refl
no_babble n channel fate (Some bytes) sound = by (length bytes.items == 0) sound
  where
    by : (b : Bool) → list_all is_sound (cond {A = List Sent} b []
        (record { node = n; channel = channel; babble = true; bytes = bytes; fate = fate } ∷ [])) ≡ true
        → cond {A = List Sent} b []
        (record { node = n; channel = channel; babble = true; bytes = bytes; fate = fate } ∷ []) ≡ []
    by true e = refl
    by false e = absurd (let none : ⊥ = cc in none)

few_sent : (n : ℕ) (channel : Channel) (fate other : SentFate) (offer babble : Option (ArrayVec ℕ))
    → list_all is_sound (transmission n channel false fate offer ++ transmission n channel true other babble) ≡ true
    → length (transmission n channel false fate offer ++ transmission n channel true other babble) ≤ 1
few_sent n channel fate other offer babble sound =
    let silent : length (transmission n channel true other babble) ≡ 0 = ap (λ (l : List Sent). length l)
    (no_babble n channel other babble
    (all_rest is_sound (transmission n channel false fate offer) (transmission n channel true other babble) sound)) in
    omega (
      arith,
      one_offer n channel fate offer,
      silent,
      length-append (transmission n channel false fate offer) (transmission n channel true other babble),
    )

-- ---- the windows of a record

-- the only transmission that passed, which spells a frame that is due
pub record IsLone (d : Description) (r : Recorded) (channel : Channel) (slot : ℕ) : Type 0 where
  pub sender : Sent
  pub only : all_passed channel r.sent ≡ sender ∷ []
  pub due : SpellsDue d r.window channel slot sender.bytes

module _ (w : WorldState) (head : Headline w) (channel : Channel) (sound : AreSound channel w.bus.sealed) (k : ℕ)
    (r : Recorded) (at : slice_get w.bus.sealed k ≡ Some r) where
  -- nothing passes on a channel without a slot
  pub none_there : slot_of r.window channel ≡ None → all_passed channel r.sent ≡ []
  none_there none = by (all_passed channel r.sent) refl
    where
      by : (ts : List Sent) → all_passed channel r.sent ≡ ts → all_passed channel r.sent ≡ []
      by [] e = e
      by (t ∷ ts) e =
          let kept = filter_from (passed_on channel) r.sent 0 t (ap (λ (us : List Sent). slice_get us 0) e) in
          let among = filter_has (λ (u : Sent). is_of t.node u && is_channel u.channel channel) r.sent kept.place t
          kept.at (both (is_of t.node t) (is_channel t.channel channel) (eq-eqb t.node t.node refl)
          (both_first (is_channel t.channel channel) _ kept.passing)) in
          let empty : own channel t.node r.sent ≡ [] = own_are w head k r at channel kept.place t kept.at
          ∙ ap (sent_in w.bus.cluster r.window t.node channel (side_on channel
          (slice_index_or (outcome_at w head k r at).stations t.node idle_station))) none in
          let no : None ≡ Some t = ap (λ (us : List Sent). slice_get us among.place) (sym empty) ∙ among.at in
          absurd (let none : ⊥ = cc in none)

  module _ (slot : ℕ) (slot_is : slot_of r.window channel ≡ Some slot) where
    pub sender_is : (i : ℕ) (t : Sent) → slice_get r.sent i ≡ Some t → passed_on channel t ≡ true
        → (r.window.cycle < 64) × IsSender w.bus.cluster r.window.cycle slot channel t.node
    sender_is i t there_is through =
        let by = sent_by w head channel sound k slot r at slot_is i t there_is through in
        let h = handed_by w head t.node k by.state r by.here at in
        let f = frame_of channel (frame_with by.state.params by.state.plan h.before r.window channel
        (offered_on channel h.a h.b)) t.bytes (h.handed channel ∙ by.offer) in (
          (fetch_range w.bus.cluster t.node by.state h.before r.window h.a h.b h.fetched_is).cycle_fits,
          sends w.bus.cluster t.node by.state h.before r.window h.a h.b channel slot h.fetched_is slot_is f.frame f.is
              (is_static r.window) refl,
        )

    -- all that passed is of one node, which sends at most once
    few_passed : (i : ℕ) (t : Sent) → slice_get r.sent i ≡ Some t → passed_on channel t ≡ true
        → length (all_passed channel r.sent) ≤ 1
    few_passed i t there_is through =
        let d : Description = w.bus.cluster in
        let side = side_on channel (slice_index_or (outcome_at w head k r at).stations t.node idle_station) in
        let mine = sender_is i t there_is through in
        let passed_are : all_passed channel r.sent ≡ all_passed channel (own channel t.node r.sent) =
        passed_mine channel t.node r.sent (λ j u here passing. head.run.lawful.one_sender r.window.cycle slot channel
        u.node t.node mine.0 (sender_is j u here passing).1 mine.1) in
        let one = own_are w head k r at channel i t there_is ∙ ap (sent_in d r.window t.node channel side) slot_is in
        let all_sound : list_all is_sound (sent_in d r.window t.node channel side (Some slot)) ≡ true =
        ap (list_all is_sound) (sym one)
        ∙ own_sound channel t.node r.sent (sound k r at) in
        let few = few_sent t.node channel (fate_of side.mute (passes d t.node r.window channel))
        (fate_of false (passes d t.node r.window channel)) side.offer side.babble all_sound in
        let size : length (own channel t.node r.sent)
        ≡ length (sent_in d r.window t.node channel side (Some slot)) = ap (λ (l : List Sent). length l) one in
        let same : length (all_passed channel r.sent) ≡ length (all_passed channel (own channel t.node r.sent)) =
        ap (λ (l : List Sent). length l) passed_are in
        omega (arith, few, size, same, filter_few (passed_on channel) (own channel t.node r.sent))

    pub alone : (all_passed channel r.sent ≡ []) ⊎ IsLone w.bus.cluster r channel slot
    alone = by (all_passed channel r.sent) refl
      where
        kept : (ts : List Sent) (t : Sent) (us : List Sent) → all_passed channel r.sent ≡ ts → ts ≡ t ∷ us
            → IsKept (passed_on channel) r.sent t
        kept ts t us e f = filter_from (passed_on channel) r.sent 0 t (ap (λ (l : List Sent). slice_get l 0) (e ∙ f))

        by : (ts : List Sent) → all_passed channel r.sent ≡ ts
            → (all_passed channel r.sent ≡ []) ⊎ IsLone w.bus.cluster r channel slot
        by [] e = inl e
        by (t ∷ []) e =
            let here = kept (t ∷ []) t [] e refl in
            inr (record {
              sender = t;
              only = e;
              due = sent_due w head channel sound k slot r at slot_is here.place t here.at here.passing;
            })
        by (t ∷ u ∷ us) e =
            let here = kept (t ∷ u ∷ us) t (u ∷ us) e refl in
            let few = few_passed here.place t here.at here.passing in
            let size : length (all_passed channel r.sent) ≡ suc (suc (length us)) =
            ap (λ (l : List Sent). length l) e in
            absurd (let none : ⊥ = omega (arith, few, size) in none)
