-- The bytes that a node offers in a window: none, those of a null frame, or those of a commit's frame.
use Rattle.std.proofs.Common.{◌≡◌, ℕ, true, false, cond, length, Option, Some, None, refl, sym, ap, ◌∙◌}
use Rattle.std.specs.Option.{option_and_then}
use Rattle.fr_core.proofs.SendingLemmas.{offers_ready}
use Rattle.fr_core.specs.Steps.{offer_of}
use Rattle.fr_frame.specs.Encoding.{encoded}
use Rattle.fr_frame.specs.Fields.{Fields}
use Rattle.fr_guarantees.proofs.CallLemmas.{committed_ready}
use Rattle.fr_guarantees.proofs.FrameLemmas.{IsSending}
use Rattle.fr_guarantees.proofs.HeardLemmas.{offer_on}
use Rattle.fr_guarantees.proofs.SilenceLemmas.{data_bytes, offer_is, no_frame}
use Rattle.fr_hearing.proofs.replaying.SenderLemmas.{CanHand}
use Rattle.fr_interface.specs.State.{State, with_entry}
use Rattle.fr_journal.proofs.LastCommitLemmas.{payload_of-next}
use Rattle.fr_journal.specs.declared.entry.Entry.TheVariants as entries
use Rattle.fr_journal.specs.declared.entry.Offered.{Offered}
use Rattle.fr_journal.specs.declared.entry.Offered.TheVariants.{Nothing, Null}
use Rattle.fr_journal.specs.Offers.{commit_offered, offered, offered_at, data_or, owns, bytes_of, frame_with}
use Rattle.fr_journal.specs.Offers.{frame_of_offer, null_frame, data_frame_of, preamble_of, transmitter, line_of}
use Rattle.fr_journal.specs.Offers.{sync_of, startup_of}
use Rattle.fr_schedule.specs.Descriptions.{Description}
use Rattle.fr_slots.specs.declared.channel.Channel.{Channel}
use Rattle.fr_slots.specs.declared.plan.Buffer.{Buffer}
use Rattle.fr_slots.specs.Plans.{Plan, buffer_at}
use Rattle.fr_slots.specs.Windows.{Opportunity, slot_of}

-- ---- nothing

nothing_there : (s : State) (window : Opportunity) (channel : Channel)
    → commit_offered s.plan s.entries window channel ≡ None
    → (o : Option ℕ) → ((slot : ℕ) → o ≡ Some slot → owns s.plan window channel slot ≡ false)
    → offered_at s.plan s.entries window channel o ≡ Nothing
nothing_there s window channel none None not_owner = refl
nothing_there s window channel none (Some slot) not_owner =
    λ i. data_or (cond (not_owner slot refl i) Null Nothing) (none i)

-- without a ready commit a node that doesn't own the slot offers nothing
pub none_here : (s : State) (window : Opportunity) (channel : Channel)
    → commit_offered s.plan s.entries window channel ≡ None
    → ((slot : ℕ) → slot_of window channel ≡ Some slot → owns s.plan window channel slot ≡ false)
    → offer_on channel (offer_of s window) ≡ None
none_here s window channel none not_owner =
    offer_is s window channel
    ∙ ap (λ (o : Offered). bytes_of channel (frame_with s.params s.plan s.entries window channel o))
    (nothing_there s window channel none (slot_of window channel) not_owner)
    ∙ ap (bytes_of channel) (no_frame s window channel (slot_of window channel))

-- ---- a null frame

pub null_here : (s : State) (window : Opportunity) (channel : Channel) (slot : ℕ) → slot_of window channel ≡ Some slot
    → commit_offered s.plan s.entries window channel ≡ None → owns s.plan window channel slot ≡ true
    → offer_on channel (offer_of s window)
    ≡ Some (record { items = encoded (null_frame s.params s.plan window channel slot) channel })
null_here s window channel slot slot_is none owner =
    let offers : offered s.plan s.entries window channel ≡ Null =
    ap (offered_at s.plan s.entries window channel) slot_is
    ∙ (λ i. data_or (cond (owner i) Null Nothing) (none i)) in
    offer_is s window channel
    ∙ (λ i. bytes_of channel (option_and_then (λ (k : ℕ). frame_of_offer s.params s.plan s.entries window channel k
    (offers i)) (slot_is i)))

-- ---- the frame of a commit

module _ (s : State) (window : Opportunity) (channel : Channel) (slot number : ℕ) (b : Buffer) (g : Fields)
    (sending : IsSending s.params s.plan number b window channel) (slot_is : slot_of window channel ≡ Some slot) where
  abbrev committed : State
  committed = with_entry s (entries.Commit 0 number g.payload)

  frame_same : (d : Description) (hand : CanHand d window channel slot g) → hand.can.plan ≡ s.plan
      → hand.can.buffer ≡ b
      → data_frame_of s.plan committed.entries window channel slot (length s.entries) ≡ g
  frame_same d hand plan_is buffer_is =
      let preamble : preamble_of (option_and_then (buffer_at s.plan)
      (transmitter s.plan window channel)) ≡ g.preamble =
      ap (λ (o : Option ℕ). preamble_of (option_and_then (buffer_at s.plan) o)) sending.transmitter_is
      ∙ ap preamble_of sending.at ∙ ap (λ (c : Buffer). c.preamble) (sym buffer_is) ∙ hand.preamble in
      λ i. record {
        preamble = preamble i;
        has_data = sym hand.has_data i;
        sync = (ap (λ (q : Plan). sync_of
            (line_of q window channel slot)) (sym plan_is) ∙ hand.sync) i;
        startup = (ap (λ (q : Plan). startup_of
            (line_of q window channel slot)) (sym plan_is) ∙ hand.startup) i;
        id = sym hand.id_is i;
        payload = payload_of-next s.entries 0 number g.payload i;
        cycle = sym hand.cycle_is i;
      }

  pub data_here : (d : Description) (hand : CanHand d window channel slot g) → hand.can.plan ≡ s.plan
      → hand.can.buffer ≡ b
      → offer_on channel (offer_of committed window) ≡ Some (record { items = encoded g channel })
  data_here d hand plan_is buffer_is =
      let offers = offers_ready s.plan number b sending.at sending.transmitting sending.one committed.entries window
      channel slot (length s.entries) sending.begins slot_is sending.transmitter_is
      (committed_ready s number g.payload b sending.sending) in
      data_bytes committed window channel slot (length s.entries) slot_is offers
      ∙ ap (λ (f : Fields). bytes_of channel (Some f)) (frame_same d hand plan_is buffer_is)
