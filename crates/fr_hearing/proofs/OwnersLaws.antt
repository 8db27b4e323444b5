-- In a run without faults of senders a listener receives the frame of each static slot's owner.
use Rattle.std.proofs.Common.{◌≡◌, ℕ, ◌+◌, ◌*◌, ◌<◌, Bool, true, false, cond, ◌&&◌, List, [], ◌∷◌, ◌++◌, length, Option}
use Rattle.std.proofs.Common.{Some, None, sym, ap, ◌∙◌, arith, slice_get, get_or}
use Rattle.std.specs.Prelude.{nat_lt, slice_index_or, ◌==◌, ◌-◌}
use Rattle.std.specs.List.{list_all}
use Rattle.std.proofs.lemmas.Bool.{ne_eqb, le-ltb, cond-true, cond-false}
use Rattle.std.proofs.lemmas.Option.{slice_get-get_or, slice_get_within}
use Rattle.arrayvec.specs.ArrayVec.{ArrayVec}
use Rattle.fr_bus.proofs.OfferLemmas.{offer_of_station}
use Rattle.fr_bus.specs.declared.outcome.Sent.{Sent}
use Rattle.fr_bus.specs.declared.outcome.SentFate.TheVariants.{Passed}
use Rattle.fr_bus.specs.Outcome.{transmission, passed_on, all_passed, fate_of, heard_of, received, overruns}
use Rattle.fr_bus.specs.Record.{Recorded, IsOutcome, offer_in, side_on, corrupt_on}
use Rattle.fr_bus.specs.States.{idle_station}
use Rattle.fr_core.proofs.OwnLemmas.{own_from, own_is}
use Rattle.fr_core.specs.Accounts.{own, of_owner}
use Rattle.fr_core.specs.Headline.{Headline}
use Rattle.fr_core.specs.Receivers.{offered_on, IsOwner}
use Rattle.fr_core.specs.Worlds.{WorldState, no_interface}
use Rattle.fr_frame.specs.Encoding.{encoded}
use Rattle.fr_guarantees.proofs.DelayLemmas.{static_fits}
use Rattle.fr_guarantees.proofs.HeardLemmas.{same_channel}
use Rattle.fr_guarantees.proofs.OfferLemmas.{length-frame}
use Rattle.fr_guarantees.proofs.WayLemmas.{outcome_at}
use Rattle.fr_guardian.proofs.AloneLemmas.{owner_passes}
use Rattle.fr_hearing.proofs.ListenLaws.{own_sound, handed_by, IsHanded, fetch_range, fetch_fits}
use Rattle.fr_hearing.proofs.OfferLaws.{owners_send}
use Rattle.fr_hearing.proofs.OwnedLemmas.{owned_is}
use Rattle.fr_hearing.proofs.SingleLemmas.{passed_mine, no_babble, sender_is}
use Rattle.fr_hearing.specs.Listening.{is_sound, AreSound, Receives, OwnersAreHeard}
use Rattle.fr_hearing.specs.Offering.{HandsDue}
use Rattle.fr_interface.specs.State.{State}
use Rattle.fr_journal.specs.Offers.{bytes_of}
use Rattle.fr_logged.proofs.DueLemmas.{static_sender}
use Rattle.fr_minislot.specs.DynamicRows.{minislots_filled_by}
use Rattle.fr_schedule.specs.Descriptions.{Description}
use Rattle.fr_slots.proofs.PlaceLemmas.{same_some}
use Rattle.fr_slots.specs.declared.channel.Channel.{Channel}
use Rattle.fr_slots.specs.Faults.{is_owned}
use Rattle.fr_slots.specs.Parameters.{is_static_slot}
use Rattle.fr_slots.specs.Plans.{Plan}
use Rattle.fr_slots.specs.Windows.{slot_of, is_static}
use Rattle.fr_status.specs.declared.seen.Seen.TheVariants.{Overrun, Bytes}

-- ---- an owner without faults

abbrev sent_one : ℕ → Channel → ArrayVec ℕ → Sent
sent_one n channel bytes = record { node = n; channel = channel; babble = false; bytes = bytes; fate = Passed }

passed_one : (n : ℕ) (channel : Channel) (bytes : ArrayVec ℕ)
    → all_passed channel (sent_one n channel bytes ∷ []) ≡ sent_one n channel bytes ∷ []
passed_one n channel bytes = ap (λ (b : Bool). let l : List Sent = cond (b && true) (sent_one n channel bytes ∷ []) []
    in l)
    (same_channel channel)

owner_sound : (n : ℕ) (channel : Channel) (mute : Bool) (bytes : ArrayVec ℕ) (babble : Option (ArrayVec ℕ))
    → (length bytes.items == 0) ≡ false → list_all is_sound (of_owner n channel mute (Some bytes) babble) ≡ true
    → of_owner n channel mute (Some bytes) babble ≡ sent_one n channel bytes ∷ []
owner_sound n channel mute bytes babble some sound = by mute (length bytes.items == 0) some sound
  where
    by : (m c : Bool) → c ≡ false
        → list_all is_sound (cond {A = List Sent} c [] (record {
          node = n;
          channel = channel;
          babble = false;
          bytes = bytes;
          fate = fate_of m true;
        } ∷ []) ++ transmission n channel true (fate_of false true) babble) ≡ true
        → cond {A = List Sent} c []
        (record { node = n; channel = channel; babble = false; bytes = bytes; fate = fate_of m true } ∷ [])
        ++ transmission n channel true (fate_of false true) babble ≡ sent_one n channel bytes ∷ []
    by m true e f = absurd (let none : ⊥ = cc in none)
    by true false e f = absurd (let none : ⊥ = cc in none)
    by false false e f = ap (λ (l : List Sent). sent_one n channel bytes ∷ l) (no_babble n channel Passed babble f)

-- ---- the windows of a record

module _ (w : WorldState) (head : Headline w) (channel : Channel) (sound : AreSound channel w.bus.sealed)
    (k slot owner : ℕ) (r : Recorded) (at : slice_get w.bus.sealed k ≡ Some r)
    (static : is_static r.window ≡ true) (slot_is : slot_of r.window channel ≡ Some slot)
    (owns_it : IsOwner w.bus.cluster r.window.cycle slot channel owner) where
  abbrev d : Description
  d = w.bus.cluster

  abbrev s : State
  s = get_or w.interfaces owner no_interface

  here : slice_get w.interfaces owner ≡ Some s
  here =
      let small : owner < length d.plans = slice_get_within d.plans owner owns_it.plan owns_it.at in
      let as_many : length w.interfaces ≡ length d.plans = head.agrees.agrees.a_station_each ∙ head.run.one_each in
      slice_get-get_or w.interfaces owner no_interface (omega (arith, small, as_many))

  h : IsHanded d owner s r
  h = handed_by w head owner k s r here at

  static_slot : is_static_slot d.params slot ≡ true
  static_slot =
      static_fits d.params r.window channel slot (fetch_fits d owner s h.before r.window h.a h.b h.fetched_is) static
      slot_is

  same_plan : owns_it.plan ≡ s.plan
  same_plan = same_some owns_it.plan s.plan (sym owns_it.at ∙ h.fetched_is.plan_at)

  -- another node that sends here would own the slot, too
  sends_owned : (i : ℕ) (t : Sent) → slice_get r.sent i ≡ Some t → passed_on channel t ≡ true → t.node ≡ owner
  sends_owned i t there_is through =
      let other = sender_is w head channel sound k r at slot slot_is i t there_is through in
      head.run.lawful.one_sender r.window.cycle slot channel t.node owner other.0 other.1
      (static_sender d slot channel r.window.cycle owner owns_it.plan static_slot owns_it.at owns_it.owns)

  owner_record : own channel owner r.sent ≡ of_owner owner channel
      (side_on channel (slice_index_or (outcome_at w head k r at).stations owner idle_station)).mute
      (offer_in channel owner r.sent)
      (side_on channel (slice_index_or (outcome_at w head k r at).stations owner idle_station)).babble
  owner_record =
      let o : IsOutcome d r = (outcome_at w head k r at) in
      let side = side_on channel (slice_index_or o.stations owner idle_station) in
      let small : owner < length d.plans = slice_get_within d.plans owner owns_it.plan owns_it.at in
      let there_is : owner < length o.stations = omega (arith, small, o.one_each) in
      let start : owner ≡ 0 + owner = omega arith in
      let passing = owner_passes d owner r.window channel owns_it.plan slot owns_it.at slot_is owns_it.owns in
      ap (own channel owner) o.sent_is
      ∙ own_from d r.window channel owner 0 owner o.stations start there_is
      ∙ own_is d r.window channel owner slot side slot_is passing
      ∙ ap (λ (x : Option (ArrayVec ℕ)). of_owner owner channel side.mute x side.babble)
      (sym (ap (offer_in channel owner) o.sent_is ∙ offer_of_station d r.window channel owner 0 owner o.stations start
      there_is))

  owner_heard : HandsDue d s h.before r.window channel slot (offered_on channel h.a h.b)
      → corrupt_on r channel ≡ None → Receives d r channel
  owner_heard due whole =
      let bytes : ArrayVec ℕ = record { items = encoded due.frame channel } in
      let o : IsOutcome d r = (outcome_at w head k r at) in
      let side = side_on channel (slice_index_or o.stations owner idle_station) in
      let offer : offer_in channel owner r.sent ≡ Some bytes =
      sym (h.handed channel) ∙ ap (bytes_of channel) due.handed in
      let mine : own channel owner r.sent ≡ of_owner owner channel side.mute (Some bytes) side.babble =
      owner_record ∙ ap (λ (x : Option (ArrayVec ℕ)). of_owner owner channel side.mute x side.babble) offer in
      let all_sound : list_all is_sound (of_owner owner channel side.mute (Some bytes) side.babble) ≡ true =
      ap (list_all is_sound) (sym mine)
      ∙ own_sound channel owner r.sent (sound k r at) in
      let size : length (encoded due.frame channel) ≡ 8 + 2 * d.params.static_words =
      length-frame due.frame channel ∙ ap (λ (n : ℕ). 8 + n) due.full in
      let one : of_owner owner channel side.mute (Some bytes) side.babble ≡ sent_one owner channel bytes ∷ [] =
      owner_sound owner channel side.mute bytes side.babble
      (ne_eqb (length (encoded due.frame channel)) 0 (λ z. omega (arith, size, z))) all_sound in
      let passed_is : all_passed channel r.sent ≡ sent_one owner channel bytes ∷ [] =
      passed_mine channel owner r.sent sends_owned ∙ ap (all_passed channel) (mine ∙ one) ∙ passed_one owner channel
      bytes
      in
      let short : overruns d.params r.window (length (encoded due.frame channel)) ≡ false =
      cond-true (is_static r.window) (nat_lt (8 + 2 * d.params.static_words) (length (encoded due.frame channel)))
      (nat_lt d.params.minislots (r.window.minislot - 1 + minislots_filled_by d.params
      (length (encoded due.frame channel)))) static
      ∙ le-ltb (8 + 2 * d.params.static_words) (length (encoded due.frame channel)) (omega (arith, size)) in
      record {
        bytes = bytes;
        hears = ap (λ (ts : List Sent). heard_of d.params r.window (corrupt_on r channel) ts) passed_is
            ∙ ap (λ (c : Option ℕ). received d.params r.window c bytes) whole
            ∙ cond-false (overruns d.params r.window (length (encoded due.frame channel))) Overrun (Bytes bytes) short;
      }

  hears_owner : corrupt_on r channel ≡ None → Receives d r channel
  hears_owner whole =
      let owned_here : is_owned s.plan.owned slot channel r.window.cycle ≡ true =
      ap (λ (p : Plan). is_owned p.owned slot channel r.window.cycle) (sym same_plan) ∙ owns_it.owns in
      owner_heard (owners_send d owner s h.before r.window h.a h.b channel slot head.run.lawful h.fetched_is (record {
        static = static;
        static_slot = static_slot;
        slot_is = slot_is;
        cycle_fits = (fetch_range d owner s h.before r.window h.a h.b h.fetched_is).cycle_fits;
        owned = owned_is s.plan r.window channel slot static owned_here;
      })) whole

pub owners_are_heard : (w : WorldState) → Headline w → OwnersAreHeard w
owners_are_heard w head channel sound k slot owner r at whole static slot_is owns_it =
    hears_owner w head channel sound k slot owner r at static slot_is owns_it whole
