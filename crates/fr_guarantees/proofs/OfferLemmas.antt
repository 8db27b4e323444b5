-- A node's offer in a dynamic window is a frame that can be sent there.
use Rattle.std.proofs.Common.{◌≡◌, ℕ, ◌+◌, ◌*◌, ◌≤◌, Bool, true, false, cond, ◌&&◌, ◌||◌, List, [], ◌∷◌, ◌++◌, length}
use Rattle.std.proofs.Common.{Option, Some, None, refl, sym, ap, subst, ◌∙◌, arith, slice_get, length-append}
use Rattle.std.specs.Prelude.{nat_le, IfSome, IsSomeAnd}
use Rattle.std.specs.Int.{bytes_high_first}
use Rattle.std.specs.Option.{option_and_then}
use Rattle.std.proofs.lemmas.Bool.{eqb-true, leb-true}
use Rattle.arrayvec.specs.ArrayVec.{ArrayVec}
use Rattle.std.proofs.lemmas.List.Quantifiers.{position-Some}
use Rattle.std.proofs.lemmas.Option.{get_or_from_slice_get}
use Rattle.fr_core.proofs.CaseLemmas.{kept_if}
use Rattle.fr_core.proofs.HandingLemmas.{data_is, offer_is}
use Rattle.fr_core.proofs.TakingLemmas.{in_slot}
use Rattle.fr_core.specs.Receivers.{offered_on}
use Rattle.fr_frame.specs.Bits.{number_of}
use Rattle.fr_frame.specs.Crc.{frame_check}
use Rattle.fr_frame.specs.Encoding.{checked_bytes, encoded}
use Rattle.fr_frame.specs.Fields.{Fields}
use Rattle.fr_frame.specs.Spelling.{header}
use Rattle.fr_guarantees.proofs.SilenceLemmas.{not_owned}
use Rattle.fr_guarantees.specs.Ways.{CanSend}
use Rattle.fr_interface.specs.State.{State, IsLegalInterface}
use Rattle.fr_journal.proofs.LastCommitLemmas.{last_commit-there, IsCommitAt}
use Rattle.fr_journal.specs.declared.entry.Entry.TheVariants.{Commit, Withdraw, Read, Pop, Fetch, Observe}
use Rattle.fr_journal.specs.declared.entry.Offered.{Offered}
use Rattle.fr_journal.specs.declared.entry.Offered.TheVariants.{Nothing, Null, Data}
use Rattle.fr_journal.specs.Fate.{is_commit_on, last_commit}
use Rattle.fr_journal.specs.Forms.{Entry}
use Rattle.fr_journal.specs.Legal.{IsLegal, IsLegalFetch}
use Rattle.fr_journal.specs.Offers.{transmitter, is_admitting, may_begin, ready, ready_in, commit_offered, owns}
use Rattle.fr_journal.specs.Offers.{data_or, offered_at, offered, payload_in, payload_of, data_frame_of, frame_of_offer}
use Rattle.fr_journal.specs.Offers.{frame_with, bytes_of}
use Rattle.fr_schedule.specs.Descriptions.{Description}
use Rattle.fr_slots.proofs.PlaceLemmas.{same_some, get-append, AllAfter-at, AllAfter-cut}
use Rattle.fr_slots.specs.declared.channel.Channel.{Channel}
use Rattle.fr_slots.specs.declared.plan.Buffer.{Buffer}
use Rattle.fr_slots.specs.Faults.{transmits, latest_on, words_of}
use Rattle.fr_slots.specs.History.{AllAfter}
use Rattle.fr_slots.specs.Parameters.{Parameters}
use Rattle.fr_slots.specs.Plans.{Plan, buffer_at, admits_slot, is_receive}
use Rattle.fr_slots.specs.Windows.{Opportunity, slot_of, is_static}

-- ---- the bytes of a frame

pub five : (n : ℕ) → length (bytes_high_first 5 n) ≡ 5
five n = refl

pub three : (n : ℕ) → length (bytes_high_first 3 n) ≡ 3
three n = refl

pub length-frame : (f : Fields) (channel : Channel) → length (encoded f channel) ≡ 8 + length f.payload
unfolding encoded
length-frame f channel =
    omega (
      arith,
      length-append (checked_bytes f) (bytes_high_first 3 (number_of (frame_check channel (checked_bytes f)))),
      length-append (bytes_high_first 5 (number_of (header false f))) f.payload,
      five (number_of (header false f)),
      three (number_of (frame_check channel (checked_bytes f))),
    )

-- ---- the commit

-- a commit has the words of its buffer, and a task made it
pub record FitsBuffer (s : State) (before : List Entry) (commit : ℕ) (b : Buffer) : Type 0 where
  pub words : length (payload_of before commit) ≡ 2 * words_of s.params b
  pub some_task : 1 ≤ s.plan.tasks

module _ (s : State) (lawful : IsLegalInterface s) (number commit : ℕ) (before rest : List Entry)
    (cut : s.entries ≡ before ++ rest) (b : Buffer) (at : buffer_at s.plan number ≡ Some b) where
  by_entry : (o : Option Entry) → slice_get before commit ≡ o → IsSomeAnd o (λ e. is_commit_on number e ≡ true)
      → FitsBuffer s before commit b
  by_entry None is on = absurd on
  by_entry (Some (Commit task j payload)) is on =
      let same : j ≡ number = eqb-true j number on in
      let there = ap (λ (l : List Entry). slice_get l commit) cut
      ∙ get-append before rest commit (Commit task j payload) is in
      let legal = AllAfter-at (IsLegal s.params s.plan) s.entries commit (Commit task j payload) lawful.legal there in
      let fits = subst (λ (o : Option Buffer). IsSomeAnd o (λ c. (is_receive c.mode ≡ false)
      × (length payload ≡ 2 * words_of s.params c))) (ap (buffer_at s.plan) same ∙ at) legal.transmits in
      let payload_is : payload_of before commit ≡ payload = ap payload_in is in
      record {
        words = ap (λ (l : List ℕ). length l) payload_is ∙ fits.1;
        some_task = omega (arith, legal.task_is);
      }
  by_entry (Some (Withdraw task j of)) is on = absurd (let none : ⊥ = cc in none)
  by_entry (Some (Read task j from)) is on = absurd (let none : ⊥ = cc in none)
  by_entry (Some (Pop task from)) is on = absurd (let none : ⊥ = cc in none)
  by_entry (Some (Fetch w x y)) is on = absurd (let none : ⊥ = cc in none)
  by_entry (Some (Observe w x y)) is on = absurd (let none : ⊥ = cc in none)

  pub fits_buffer : last_commit number before ≡ Some commit → FitsBuffer s before commit b
  fits_buffer last = by_entry (slice_get before commit) refl
      (subst (λ (o : Option ℕ). IfSome o (λ k. IsCommitAt number before k)) last (last_commit-there number before))

-- ---- the offer

pub record IsBuffer (plan : Plan) (number : ℕ) : Type 0 where
  pub buffer : Buffer
  pub at : buffer_at plan number ≡ Some buffer

pub some_buffer : (plan : Plan) (before : List Entry) (number commit : ℕ) → ready_in plan before number ≡ Some commit
    → IsBuffer plan number
some_buffer plan before number commit e = by (buffer_at plan number) refl e
  where
    by : (o : Option Buffer) → buffer_at plan number ≡ o
        → option_and_then (λ (b : Buffer). ready b.mode number before) o ≡ Some commit → IsBuffer plan number
    by None is f = absurd (let none : ⊥ = cc in none)
    by (Some b) is f = record { buffer = b; at = is }

pub in_time : (w : Opportunity) (latest : ℕ) → is_static w ≡ false → (is_static w || nat_le w.minislot latest) ≡ true
    → w.minislot ≤ latest
in_time w latest dynamic e = leb-true w.minislot latest (ap (λ (b : Bool). b || nat_le w.minislot latest) (sym dynamic)
    ∙ e)

module _ (d : Description) (n : ℕ) (s : State) (lawful : IsLegalInterface s) (params_are : s.params ≡ d.params)
    (plan_at : slice_get d.plans n ≡ Some s.plan) (before after : List Entry) (w : Opportunity) (x y : Offered)
    (cut : s.entries ≡ before ++ Fetch w x y ∷ after) (dynamic : is_static w ≡ false) (channel : Channel) (slot : ℕ)
    (slot_is : slot_of w channel ≡ Some slot) (bytes : ArrayVec ℕ) where
  data_sent : (commit : ℕ) → offered s.plan before w channel ≡ Data commit
      → length bytes.items ≡ 8 + length (payload_of before commit)
      → CanSend d w.cycle slot channel w.minislot (length bytes.items)
  data_sent commit is bytes_are =
      let o = in_slot s.plan before w channel commit (slot_of w channel) is in
      let b = some_buffer s.plan before o.buffer commit o.is_ready in
      let there = ap (offered_at s.plan before w channel) (sym slot_is) ∙ is in
      let begins = kept_if (may_begin s.plan w channel)
      (option_and_then (ready_in s.plan before) (transmitter s.plan w channel)) commit
      (data_is (owns s.plan w channel slot) (commit_offered s.plan before w channel) commit there) in
      let fits = fits_buffer s lawful o.buffer commit before (Fetch w x y ∷ after) cut b.buffer b.at o.last in
      let found = position-Some (is_admitting w channel) s.plan.buffers o.buffer b.buffer o.at in
      let passes : is_admitting w channel b.buffer ≡ true = ap (is_admitting w channel)
      (sym (get_or_from_slice_get s.plan.buffers o.buffer b.buffer b.buffer b.at)) ∙ found.1 in
      record {
        node = n;
        plan = s.plan;
        plan_at = plan_at;
        some_task = fits.some_task;
        number = o.buffer;
        buffer = b.buffer;
        at = b.at;
        sends = ap (λ (t : Option ℕ). transmits b.buffer && admits_slot b.buffer.filter w.cycle channel t)
            (sym slot_is) ∙ passes;
        in_time = in_time w (latest_on s.plan channel) dynamic begins;
        bytes_are = bytes_are ∙ ap (λ (k : ℕ). 8 + k) (fits.words ∙ ap (λ (p : Parameters). 2 * words_of p b.buffer)
            params_are);
      }

  by_offer : (o : Offered) → offered s.plan before w channel ≡ o
      → bytes_of channel (frame_of_offer s.params s.plan before w channel slot o) ≡ Some bytes
      → CanSend d w.cycle slot channel w.minislot (length bytes.items)
  by_offer Nothing is e = absurd (let none : ⊥ = cc in none)
  by_offer Null is e = absurd (none_null (commit_offered s.plan before w channel)
      (ap (λ (b : Bool). data_or (cond b Null Nothing) (commit_offered s.plan before w channel))
      (sym (not_owned s.plan w channel slot dynamic)) ∙ ap (offered_at s.plan before w channel) (sym slot_is) ∙ is))
    where
      none_null : (o : Option ℕ) → data_or Nothing o ≡ Null → ⊥
      none_null None f = let none : ⊥ = cc in none
      none_null (Some k) f = let none : ⊥ = cc in none
  by_offer (Data commit) is e =
      let same = same_some _ bytes e in
      data_sent commit is (ap (λ (b : ArrayVec ℕ). length b.items) (sym same)
      ∙ length-frame (data_frame_of s.plan before w channel slot commit) channel)

  pub can_send : bytes_of channel (frame_with s.params s.plan before w channel (offered_on channel x y)) ≡ Some bytes
      → CanSend d w.cycle slot channel w.minislot (length bytes.items)
  can_send e =
      let legal : IsLegalFetch s.params s.plan before w x y =
      AllAfter-cut (IsLegal s.params s.plan) [] before (Fetch w x y) after
      (subst (λ (l : List Entry). AllAfter (IsLegal s.params s.plan) [] l) cut lawful.legal) in
      by_offer (offered_on channel x y) (offer_is s before w x y channel legal)
      (ap (λ (t : Option ℕ). bytes_of channel (option_and_then (λ k. frame_of_offer s.params s.plan before w channel k
      (offered_on channel x y)) t)) (sym slot_is) ∙ e)
