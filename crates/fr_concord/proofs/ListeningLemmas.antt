-- A listener hears what a silent node observes.
use Rattle.std.proofs.Common.{◌≡◌, ℕ, ◌⊎◌, inl, inr, Bool, true, false, cond, List, [], ◌∷◌, length, Option, refl, sym}
use Rattle.std.proofs.Common.{ap, ◌∙◌}
use Rattle.std.specs.List.{list_any}
use Rattle.arrayvec.specs.ArrayVec.{ArrayVec}
use Rattle.std.proofs.Math.Bool.{or-false}
use Rattle.fr_bus.specs.Corruption.{corrupted}
use Rattle.fr_bus.specs.declared.outcome.Sent.{Sent}
use Rattle.fr_bus.specs.Outcome.{all_passed, heard_of, is_of, overruns, received, seen_of}
use Rattle.fr_bus.specs.Record.{corrupt_on}
use Rattle.fr_capture.specs.Pcap.{record_seen}
use Rattle.fr_concord.specs.Listening.{IsHeardAlike, IsCapturedAlike, IsOwnOrConflict}
use Rattle.fr_showing.specs.Listening.{heard_record}
use Rattle.fr_slots.specs.declared.channel.Channel.{Channel}
use Rattle.fr_slots.specs.Parameters.{Parameters}
use Rattle.fr_slots.specs.Windows.{Opportunity}
use Rattle.fr_status.specs.declared.seen.Seen.TheVariants.{Own, Conflict, Noise, Overrun, Bytes}
use Rattle.fr_status.specs.Forms.{Seen}

module _ (p : Parameters) (w : Opportunity) (corrupt : Option ℕ) (node : ℕ) where
  silent : (passed : List Sent) → list_any (is_of node) passed ≡ false
      → seen_of p w corrupt node passed ≡ heard_of p w corrupt passed
  silent [] none = refl
  silent (t ∷ []) none =
      ap (λ (b : Bool). cond b Own (received p w corrupt t.bytes)) (sym (or-false (is_of node t)) ∙ none)
  silent (t ∷ u ∷ ts) none = ap (λ (b : Bool). cond b Conflict Noise) none

  own_or_conflict : (passed : List Sent) → list_any (is_of node) passed ≡ true
      → (seen_of p w corrupt node passed ≡ Own) ⊎ (seen_of p w corrupt node passed ≡ Conflict)
  own_or_conflict [] some = absurd (let none : ⊥ = cc some in none)
  own_or_conflict (t ∷ []) some =
      inl (ap (λ (b : Bool). cond b Own (received p w corrupt t.bytes)) (sym (or-false (is_of node t)) ∙ some))
  own_or_conflict (t ∷ u ∷ ts) some = inr (ap (λ (b : Bool). cond b Conflict Noise) some)

  -- a listener has no transmission of its own
  received_alike : (long : Bool) (bytes : ArrayVec ℕ) (channel : Channel) (time : ℕ) (own : Bool)
      (handed : Option (ArrayVec ℕ))
      → record_seen own time channel (cond long Overrun (Bytes bytes)) handed
      ≡ heard_record time channel (cond long Overrun (Bytes bytes))
  received_alike true bytes channel time own handed = refl
  received_alike false bytes channel time own handed = refl

  heard_alike : (passed : List Sent) (channel : Channel) (time : ℕ) (own : Bool) (handed : Option (ArrayVec ℕ))
      → record_seen own time channel (heard_of p w corrupt passed) handed
      ≡ heard_record time channel (heard_of p w corrupt passed)
  heard_alike [] channel time own handed = refl
  heard_alike (t ∷ []) channel time own handed =
      received_alike (overruns p w (length t.bytes.items)) (corrupted t.bytes corrupt) channel time own handed
  heard_alike (t ∷ u ∷ ts) channel time own handed = refl

pub is_heard_alike : IsHeardAlike
is_heard_alike p r channel node none =
    silent p r.window (corrupt_on r channel) node (all_passed channel r.sent) none

pub is_captured_alike : IsCapturedAlike
is_captured_alike p r channel node time own handed none =
    ap (λ (s : Seen). record_seen own time channel s handed) (is_heard_alike p r channel node none)
    ∙ heard_alike p r.window (corrupt_on r channel) node (all_passed channel r.sent) channel time own handed

pub is_own_or_conflict : IsOwnOrConflict
is_own_or_conflict p r channel node some =
    own_or_conflict p r.window (corrupt_on r channel) node (all_passed channel r.sent) some
