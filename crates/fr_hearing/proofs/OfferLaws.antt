-- In each static window its owner hands over the frame that is due.
use Rattle.std.proofs.Common.{◌≡◌, ℕ, zero, suc, ◌*◌, ◌≤◌, Bool, true, false, cond, ◌&&◌, List, [], ◌∷◌, length, refl}
use Rattle.std.proofs.Common.{sym, ap, subst, ◌∙◌, arith, Option, Some, None, slice_get, replicate}
use Rattle.std.proofs.lemmas.Bool.{cond-true, cond-false, ne_eqb}
use Rattle.std.specs.Prelude.{is_some, ◌==◌}
use Rattle.std.specs.List.{position, list_all}
use Rattle.std.specs.Option.{option_and_then}
use Rattle.fr_core.proofs.CaseLemmas.{kept_if}
use Rattle.fr_core.proofs.HandingLemmas.{offer_is, data_is}
use Rattle.fr_core.proofs.TakingLemmas.{in_slot, transmitter_admits}
use Rattle.fr_core.specs.Receivers.{offered_on}
use Rattle.fr_frame.specs.Fields.{Fields}
use Rattle.fr_guarantees.proofs.OfferLemmas.{some_buffer, fits_buffer, in_time}
use Rattle.fr_hearing.specs.Heard.{IsOwners}
use Rattle.fr_hearing.specs.Offering.{IsFetched, IsOwnWindow, HandsDue, OwnersSend, IsOpenWindow, IsDueThere}
use Rattle.fr_hearing.specs.Offering.{SendersSend}
use Rattle.fr_interface.specs.State.{State}
use Rattle.fr_journal.specs.declared.entry.Entry.TheVariants.{Fetch}
use Rattle.fr_journal.specs.declared.entry.Offered.{Offered}
use Rattle.fr_journal.specs.declared.entry.Offered.TheVariants.{Nothing, Null, Data}
use Rattle.fr_journal.specs.Forms.{Entry}
use Rattle.fr_journal.specs.Legal.{IsLegal, IsLegalFetch}
use Rattle.fr_journal.specs.Offers.{may_begin, transmitter, ready_in, commit_offered, owns, ownership, line_of, data_or}
use Rattle.fr_journal.specs.Offers.{offered_at, offered, sync_of, startup_of, preamble_of, null_frame, data_frame_of}
use Rattle.fr_journal.specs.Offers.{frame_of_offer, frame_with}
use Rattle.fr_logged.proofs.DueLemmas.{due_is_owners, due_is_senders}
use Rattle.fr_logged.proofs.FirstLemmas.{find_position, there}
use Rattle.fr_logged.specs.declared.due.Due.{Due}
use Rattle.fr_logged.specs.Dues.{line_in, buffer_in, static_due, dynamic_due, preamble_of as due_preamble, due_of}
use Rattle.fr_logged.specs.Rules.{is_zero}
use Rattle.fr_schedule.specs.Clusters.{IsCluster}
use Rattle.fr_schedule.specs.Descriptions.{Description}
use Rattle.fr_slots.proofs.PlaceLemmas.{same_some, AllAfter-cut}
use Rattle.fr_slots.specs.declared.channel.Channel.{Channel}
use Rattle.fr_slots.specs.declared.plan.Buffer.{Buffer}
use Rattle.fr_slots.specs.declared.plan.Own.{Own}
use Rattle.fr_slots.specs.Faults.{claims, sends_at, transmits, words_of, latest_on}
use Rattle.fr_slots.specs.History.{AllAfter}
use Rattle.fr_slots.specs.Parameters.{Parameters, is_static_slot}
use Rattle.fr_slots.specs.Plans.{Plan, buffer_at, admits_slot}
use Rattle.fr_slots.specs.Windows.{Opportunity, slot_of, is_static}

-- ---- the buffer and the ownership line

-- the first buffer that sends in the slot is the transmitter of its window
pub transmitter_is : (plan : Plan) (w : Opportunity) (channel : Channel) (slot : ℕ) → slot_of w channel ≡ Some slot
    → buffer_in slot channel w.cycle plan ≡ option_and_then (buffer_at plan) (transmitter plan w channel)
transmitter_is plan w channel slot slot_is =
    find_position (sends_at slot channel w.cycle) plan.buffers
    ∙ ap (λ (o : Option ℕ). option_and_then (slice_get plan.buffers)
    (position (λ (b : Buffer). transmits b && admits_slot b.filter w.cycle channel o) plan.buffers)) (sym slot_is)

pub line_is : (plan : Plan) (w : Opportunity) (channel : Channel) (slot : ℕ) → is_static w ≡ true
    → line_of plan w channel slot ≡ line_in slot channel w.cycle plan
line_is plan w channel slot static =
    cond-true (is_static w) (ownership plan.owned slot channel w.cycle) None static
    ∙ sym (find_position (claims slot channel w.cycle) plan.owned)

-- ---- the frame

length_zeros : (n : ℕ) → length {A = ℕ} (replicate n 0) ≡ n
length_zeros zero = refl
length_zeros (suc n) = ap suc (length_zeros n)

all_zeros : (n : ℕ) → list_all is_zero (replicate n 0) ≡ true
all_zeros zero = refl
all_zeros (suc n) = all_zeros n

module _ (d : Description) (node : ℕ) (s : State) (before : List Entry) (w : Opportunity) (x y : Offered)
    (channel : Channel) (slot : ℕ) (cluster : IsCluster d) (fetched : IsFetched d node s before w x y)
    (window : IsOwnWindow d s w channel slot) (own : Own)
    (line : line_in slot channel w.cycle s.plan ≡ Some own) where
  due : Due
  due = static_due d.params node s.plan own (buffer_in slot channel w.cycle s.plan)

  due_is : due_of d slot channel w.cycle ≡ Some (static_due d.params node s.plan own
      (buffer_in slot channel w.cycle s.plan))
  due_is = due_is_owners d slot channel w.cycle node s.plan own cluster.one_sender window.cycle_fits window.static_slot
      fetched.plan_at line

  own_line : line_of s.plan w channel slot ≡ Some own
  own_line = line_is s.plan w channel slot window.static ∙ line

  null_due : IsOwners (static_due d.params node s.plan own (buffer_in slot channel w.cycle s.plan))
      (null_frame s.params s.plan w channel slot)
  null_due = record {
    words = length_zeros (2 * s.params.static_words)
        ∙ ap (λ (p : Parameters). 2 * p.static_words) fetched.params_are;
    sync = sym (ap sync_of own_line);
    startup = sym (ap startup_of own_line);
    content = record { no_preamble = refl; zeros = all_zeros (2 * s.params.static_words) };
  }

  data_due : (commit : ℕ) → offered s.plan before w channel ≡ Data commit
      → IsOwners (static_due d.params node s.plan own (buffer_in slot channel w.cycle s.plan))
      (data_frame_of s.plan before w channel slot commit)
  data_due commit is =
      let o = in_slot s.plan before w channel commit (slot_of w channel) is in
      let b = some_buffer s.plan before o.buffer commit o.is_ready in
      let fits = fits_buffer s fetched.lawful o.buffer commit before (Fetch w x y ∷ fetched.after) fetched.cut b.buffer
      b.at
      o.last in
      let admits = transmitter_admits s.plan w channel o.buffer b.buffer o.at b.at in
      let slot_same : b.buffer.filter.slot ≡ slot =
      same_some b.buffer.filter.slot slot (sym admits.slot_is ∙ window.slot_is) in
      let static : is_static_slot d.params b.buffer.filter.slot ≡ true =
      ap (is_static_slot d.params) slot_same ∙ window.static_slot in
      let static_here : is_static_slot s.params b.buffer.filter.slot ≡ true =
      ap (λ (p : Parameters). is_static_slot p b.buffer.filter.slot) fetched.params_are ∙ static in
      let words_are : words_of s.params b.buffer ≡ s.params.static_words =
      cond-true (is_static_slot s.params b.buffer.filter.slot) s.params.static_words _ static_here in
      let buffer_is : option_and_then (buffer_at s.plan) (transmitter s.plan w channel) ≡ Some b.buffer =
      ap (option_and_then (buffer_at s.plan)) o.at ∙ b.at in
      record {
        words = fits.words ∙ ap (λ (n : ℕ). 2 * n) words_are
            ∙ ap (λ (p : Parameters). 2 * p.static_words) fetched.params_are;
        sync = sym (ap sync_of own_line);
        startup = sym (ap startup_of own_line);
        content = ap (due_preamble s.plan) (transmitter_is s.plan w channel slot window.slot_is ∙ buffer_is)
            ∙ cond-false (s.plan.tasks == 0) None (Some b.buffer.preamble)
            (ne_eqb s.plan.tasks 0 (λ z. let some : 1 ≤ s.plan.tasks = fits.some_task in omega arith))
            ∙ ap Some (sym (ap preamble_of buffer_is));
      }

  handed_as : (o : Offered) (f : Fields) → frame_of_offer s.params s.plan before w channel slot o ≡ Some f
      → frame_with s.params s.plan before w channel o ≡ Some f
  handed_as o f e = ap (option_and_then (λ slot. frame_of_offer s.params s.plan before w channel slot o)) window.slot_is
      ∙ e

  by_offer : (o : Offered) → offered s.plan before w channel ≡ o → HandsDue d s before w channel slot o
  by_offer Nothing is = absurd (some_offer (commit_offered s.plan before w channel)
      (ap (λ (b : Bool). data_or (cond b Null Nothing) (commit_offered s.plan before w channel)) (sym window.owned)
      ∙ ap (offered_at s.plan before w channel) (sym window.slot_is) ∙ is))
    where
      some_offer : (o : Option ℕ) → data_or Null o ≡ Nothing → ⊥
      some_offer None f = let none : ⊥ = cc in none
      some_offer (Some k) f = let none : ⊥ = cc in none
  by_offer Null is = record {
    frame = null_frame s.params s.plan w channel slot;
    handed = handed_as Null (null_frame s.params s.plan w channel slot) refl;
    id_is = refl;
    cycle_is = refl;
    due = static_due d.params node s.plan own (buffer_in slot channel w.cycle s.plan);
    due_is = due_is;
    owners = null_due;
    full = null_due.words;
  }
  by_offer (Data commit) is = record {
    frame = data_frame_of s.plan before w channel slot commit;
    handed = handed_as (Data commit) (data_frame_of s.plan before w channel slot commit) refl;
    id_is = refl;
    cycle_is = refl;
    due = static_due d.params node s.plan own (buffer_in slot channel w.cycle s.plan);
    due_is = due_is;
    owners = data_due commit is;
    full = (data_due commit is).words;
  }

  hands_due : HandsDue d s before w channel slot (offered_on channel x y)
  hands_due =
      let legal : IsLegalFetch s.params s.plan before w x y =
      AllAfter-cut (IsLegal s.params s.plan) [] before (Fetch w x y) fetched.after
      (subst (λ (l : List Entry). AllAfter (IsLegal s.params s.plan) [] l) fetched.cut fetched.lawful.legal) in
      by_offer (offered_on channel x y) (offer_is s before w x y channel legal)

pub owners_send : OwnersSend
owners_send d node s before w a b channel slot cluster fetched window =
    let own = there (line_of s.plan w channel slot) window.owned in
    hands_due d node s before w a b channel slot cluster fetched window own.value
    (sym (line_is s.plan w channel slot window.static) ∙ own.is)

-- ---- dynamic windows

pub not_owned : (plan : Plan) (w : Opportunity) (channel : Channel) (slot : ℕ) → is_static w ≡ false
    → line_of plan w channel slot ≡ None
not_owned plan w channel slot dynamic =
    cond-false (is_static w) (ownership plan.owned slot channel w.cycle) None dynamic

module _ (d : Description) (node : ℕ) (s : State) (before : List Entry) (w : Opportunity) (x y : Offered)
    (channel : Channel) (slot : ℕ) (cluster : IsCluster d) (fetched : IsFetched d node s before w x y)
    (window : IsOpenWindow d w channel slot) where
  data_there : (commit : ℕ) → offered s.plan before w channel ≡ Data commit
      → IsDueThere d w channel slot (data_frame_of s.plan before w channel slot commit)
  data_there commit is =
      let o = in_slot s.plan before w channel commit (slot_of w channel) is in
      let b = some_buffer s.plan before o.buffer commit o.is_ready in
      let fits = fits_buffer s fetched.lawful o.buffer commit before (Fetch w x y ∷ fetched.after) fetched.cut b.buffer
      b.at
      o.last in
      let buffer_is : option_and_then (buffer_at s.plan) (transmitter s.plan w channel) ≡ Some b.buffer =
      ap (option_and_then (buffer_at s.plan)) o.at ∙ b.at in
      let found : buffer_in slot channel w.cycle s.plan ≡ Some b.buffer =
      transmitter_is s.plan w channel slot window.slot_is ∙ buffer_is in
      let here = ap (offered_at s.plan before w channel) (sym window.slot_is) ∙ is in
      let begins : may_begin s.plan w channel ≡ true = kept_if (may_begin s.plan w channel)
      (option_and_then (ready_in s.plan before) (transmitter s.plan w channel)) commit
      (data_is (owns s.plan w channel slot) (commit_offered s.plan before w channel) commit here) in
      let line : line_of s.plan w channel slot ≡ None = not_owned s.plan w channel slot window.dynamic in
      let due_some : dynamic_due d.params channel node s.plan b.buffer ≡ Some (due_in b.buffer) =
      cond-false (s.plan.tasks == 0) None (Some (due_in b.buffer))
      (ne_eqb s.plan.tasks 0 (λ z. let some : 1 ≤ s.plan.tasks = fits.some_task in omega arith)) in
      record {
        id_is = refl;
        cycle_is = refl;
        due = due_in b.buffer;
        due_is = due_is_senders d slot channel w.cycle node s.plan b.buffer cluster.one_sender window.cycle_fits
            window.dynamic_slot fetched.plan_at found ∙ due_some;
        has_data = refl;
        no_sync = ap sync_of line;
        no_startup = ap startup_of line;
        words = fits.words ∙ ap (λ (p : Parameters). 2 * words_of p b.buffer) fetched.params_are;
        preamble = ap Some (sym (ap preamble_of buffer_is));
        in_time = in_time w (latest_on s.plan channel) window.dynamic begins;
      }
    where
      due_in : Buffer → Due
      due_in b = record {
        node = node;
        sync = false;
        startup = false;
        words = words_of d.params b;
        preamble = Some b.preamble;
        both = false;
        latest = latest_on s.plan channel;
      }

  offer_there : (o : Offered) → offered s.plan before w channel ≡ o → (f : Fields)
      → frame_of_offer s.params s.plan before w channel slot o ≡ Some f → IsDueThere d w channel slot f
  offer_there Nothing is f e = absurd (let none : ⊥ = cc in none)
  offer_there Null is f e = absurd (none_null (commit_offered s.plan before w channel)
      (ap (λ (l : Option Own). data_or (cond (is_some l) Null Nothing) (commit_offered s.plan before w channel))
      (sym (not_owned s.plan w channel slot window.dynamic))
      ∙ ap (offered_at s.plan before w channel) (sym window.slot_is) ∙ is))
    where
      none_null : (o : Option ℕ) → data_or Nothing o ≡ Null → ⊥
      none_null None g = let none : ⊥ = cc in none
      none_null (Some k) g = let none : ⊥ = cc in none
  offer_there (Data commit) is f e =
      subst (λ (g : Fields). IsDueThere d w channel slot g)
      (same_some (data_frame_of s.plan before w channel slot commit) f e) (data_there commit is)

  sent_there : (f : Fields) → frame_with s.params s.plan before w channel (offered_on channel x y) ≡ Some f
      → IsDueThere d w channel slot f
  sent_there f e =
      let legal : IsLegalFetch s.params s.plan before w x y =
      AllAfter-cut (IsLegal s.params s.plan) [] before (Fetch w x y) fetched.after
      (subst (λ (l : List Entry). AllAfter (IsLegal s.params s.plan) [] l) fetched.cut fetched.lawful.legal) in
      offer_there (offered_on channel x y) (offer_is s before w x y channel legal) f
      (ap (option_and_then (λ slot. frame_of_offer s.params s.plan before w channel slot (offered_on channel x y)))
      (sym window.slot_is) ∙ e)

pub senders_send : SendersSend
senders_send d node s before w a b channel slot f cluster fetched window handed =
    sent_there d node s before w a b channel slot cluster fetched window f handed
