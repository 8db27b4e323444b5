-- A fetch in which a buffer may begin to send leaves no commit pending on it.
use Rattle.std.proofs.Common.{◌≡◌, ℕ, true, cond, ◌&&◌, List, [], ◌∷◌, ◌++◌, Option, Some, refl, sym, ap, ◌∙◌, is_some}
use Rattle.std.proofs.Common.{subst}
use Rattle.std.specs.Prelude.{◌==◌}
use Rattle.std.proofs.lemmas.Bool.{eqb-true, or_left, not-true}
use Rattle.fr_core.proofs.CaseLemmas.{both_first, both_rest}
use Rattle.fr_core.proofs.ReadyLemmas.{pending-gone, pending_is_ready}
use Rattle.fr_core.proofs.SendingLemmas.{sends_on, transmits_there, offers_ready}
use Rattle.fr_journal.proofs.TallyLemmas.{pending-one}
use Rattle.fr_journal.specs.declared.entry.Entry.TheVariants.{Fetch}
use Rattle.fr_journal.specs.declared.entry.Offered.{Offered}
use Rattle.fr_journal.specs.Fate.{sends, takes_back, tally_of}
use Rattle.fr_journal.specs.Forms.{Entry}
use Rattle.fr_journal.specs.Legal.{IsLegalFetch}
use Rattle.fr_journal.specs.Offers.{may_begin}
use Rattle.fr_slots.specs.Admission.{includes, cycle_admitted}
use Rattle.fr_slots.specs.declared.channel.Channel.{Channel}
use Rattle.fr_slots.specs.declared.channel.Channel.TheVariants.{A, B}
use Rattle.fr_slots.specs.declared.plan.Buffer.{Buffer}
use Rattle.fr_slots.specs.Faults.{sends_at, transmits, HasOneSender}
use Rattle.fr_slots.specs.Numbers.{IsSlot}
use Rattle.fr_slots.specs.Parameters.{Parameters}
use Rattle.fr_slots.specs.Plans.{Plan, buffer_at, is_receive}
use Rattle.fr_slots.specs.Windows.{Opportunity, IsInRange, IsSlotOrNone, slot_of}

pub slot_range : (w : Opportunity) (channel : Channel) (slot : ℕ) → IsInRange w → slot_of w channel ≡ Some slot
    → IsSlot slot
slot_range w A slot range is = subst IsSlotOrNone is range.slot_a
slot_range w B slot range is = subst IsSlotOrNone is range.slot_b

module _ (p : Parameters) (plan : Plan) (number : ℕ) (b : Buffer) (at : buffer_at plan number ≡ Some b)
    (one : HasOneSender plan) where
  pub served : (before : List Entry) (w : Opportunity) (x y : Offered) (channel : Channel) (slot : ℕ)
      → IsLegalFetch p plan before w x y → IsInRange w → slot_of w channel ≡ Some slot
      → sends_at slot channel w.cycle b ≡ true → may_begin plan w channel ≡ true
      → (tally_of number (before ++ Fetch w x y ∷ [])).pending ≡ 0
  served before w x y channel slot legal range slot_is sending begins =
      let cycles = cycle_admitted b.filter.cycles w.cycle in
      let there = b.filter.slot == slot in
      let admits = both_rest (transmits b) (there && includes b.filter.channels channel && cycles) sending in
      let transmitting = both_first (transmits b) (there && includes b.filter.channels channel && cycles) sending in
      let in_slot = both_first (there && includes b.filter.channels channel) cycles admits in
      let same : b.filter.slot ≡ slot =
      eqb-true b.filter.slot slot (both_first there (includes b.filter.channels channel) in_slot) in
      let here : slot_of w channel ≡ Some b.filter.slot = slot_is ∙ ap Some (sym same) in
      let transmitter_is = transmits_there plan number b at transmitting one w channel range.cycle_fits
      (slot_range w channel b.filter.slot range here) here
      (both_rest there (includes b.filter.channels channel) in_slot)
      (both_rest (there && includes b.filter.channels channel) cycles admits) in
      let gone = pending-gone number before (Fetch w x y) refl
      (λ commit pending. or_left (sends commit (Fetch w x y)) (takes_back commit (Fetch w x y))
      (sends_on commit w x y plan before channel legal.offer_a legal.offer_b
      (offers_ready plan number b at transmitting one before w channel slot commit begins slot_is transmitter_is
      (pending_is_ready b.mode number commit before (not-true (is_receive b.mode) transmitting) pending)))) in
      pending-one number (before ++ Fetch w x y ∷ []) ∙ ap (λ (o : Option ℕ). cond {A = ℕ} (is_some o) 1 0) gone
