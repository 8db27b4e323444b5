-- The mute and the babble of an owner, by the record.
use Rattle.std.proofs.Common.{◌≡◌, ℕ, Bool, true, false, cond, List, [], ◌∷◌, ◌++◌, length, Option, Some, None, refl}
use Rattle.std.proofs.Common.{sym, ap, ◌∙◌}
use Rattle.std.specs.Prelude.{◌==◌}
use Rattle.arrayvec.specs.ArrayVec.{ArrayVec}
use Rattle.fr_bus.specs.declared.outcome.Sent.{Sent}
use Rattle.fr_bus.specs.Outcome.{fate_of, transmission}
use Rattle.fr_core.specs.Accounts.{of_owner, mute_of, babble_of}
use Rattle.fr_core.specs.Receivers.{is_muted}
use Rattle.fr_slots.specs.declared.channel.Channel.{Channel}

muted_is : (mute : Bool) → is_muted (fate_of mute true) ≡ mute
muted_is true = refl
muted_is false = refl

module _ (owner : ℕ) (channel : Channel) where
  abbrev pub babbles : Option (ArrayVec ℕ) → List Sent
  babbles babble = transmission owner channel true (fate_of false true) babble

  babbled : (bytes : ArrayVec ℕ) (none : Bool) → (length bytes.items == 0) ≡ none
      → babbles (babble_of (cond none []
      (record { node = owner; channel = channel; babble = true; bytes = bytes; fate = fate_of false true } ∷ [])))
      ≡ cond none [] (record {
        node = owner;
        channel = channel;
        babble = true;
        bytes = bytes;
        fate =
            fate_of false true;
      } ∷ [])
  babbled bytes true e = refl
  babbled bytes false e = ap (λ (b : Bool). cond b []
      (record { node = owner; channel = channel; babble = true; bytes = bytes; fate = fate_of false true } ∷ [])) e

  babbles_again : (babble : Option (ArrayVec ℕ)) → babbles (babble_of (babbles babble)) ≡ babbles babble
  babbles_again None = refl
  babbles_again (Some bytes) = babbled bytes (length bytes.items == 0) refl

  -- an offer with bytes, or without
  offered_again : (mute : Bool) (bytes : ArrayVec ℕ) (babble : Option (ArrayVec ℕ)) (none : Bool)
      → (length bytes.items == 0) ≡ none
      → cond none [] (record {
        node = owner;
        channel = channel;
        babble = false;
        bytes = bytes;
        fate = fate_of (mute_of (cond none []
            (record { node = owner; channel = channel; babble = false; bytes = bytes; fate = fate_of mute true } ∷ [])
            ++ babbles babble)) true;
      } ∷ [])
      ++ babbles (babble_of (cond none []
      (record { node = owner; channel = channel; babble = false; bytes = bytes; fate = fate_of mute true } ∷ []) ++
      babbles babble))
      ≡ cond none [] (record {
        node = owner;
        channel = channel;
        babble = false;
        bytes = bytes;
        fate =
            fate_of mute true;
      } ∷ []) ++ babbles babble
  offered_again mute bytes babble true e = babbles_again babble
  offered_again mute bytes babble false e =
      ap (λ (m : Bool). record { node = owner; channel = channel; babble = false; bytes = bytes; fate = fate_of m true }
      ∷ babbles (babble_of (babbles babble))) (muted_is mute)
      ∙ ap (λ (l : List Sent). record {
        node = owner;
        channel = channel;
        babble = false;
        bytes = bytes;
        fate =
            fate_of mute true;
      } ∷ l) (babbles_again babble)

  told_again : (mute : Bool) (offer babble : Option (ArrayVec ℕ))
      → of_owner owner channel (mute_of (of_owner owner channel mute offer babble)) offer
      (babble_of (of_owner owner channel mute offer babble)) ≡ of_owner owner channel mute offer babble
  told_again mute None babble = babbles_again babble
  told_again mute (Some bytes) babble = offered_again mute bytes babble (length bytes.items == 0) refl

  -- an owner's record is its offer, with the recorded mute and babble
  pub told : (sent : List Sent) (mute : Bool) (offer babble : Option (ArrayVec ℕ))
      → sent ≡ of_owner owner channel mute offer babble
      → sent ≡ of_owner owner channel (mute_of sent) offer (babble_of sent)
  told sent mute offer babble e =
      e ∙ sym (told_again mute offer babble) ∙ ap (λ (l : List Sent). of_owner owner channel (mute_of l) offer
      (babble_of l)) (sym e)
