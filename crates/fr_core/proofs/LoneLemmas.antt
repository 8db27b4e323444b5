-- Bytes that are observed in a fault-free slot are the owner's offer.
use Rattle.std.proofs.Common.{◌≡◌, ℕ, Bool, true, false, not, cond, ◌&&◌, ◌||◌, List, [], ◌∷◌, length, Option, Some}
use Rattle.std.proofs.Common.{None, refl, sym, ap, ◌∙◌}
use Rattle.std.specs.List.{list_all, list_any}
use Rattle.std.proofs.lemmas.Bool.{eq-eqb, ne_eqb}
use Rattle.arrayvec.specs.ArrayVec.{ArrayVec}
use Rattle.fr_bus.specs.declared.outcome.SentFate.{SentFate}
use Rattle.fr_bus.specs.declared.outcome.SentFate.TheVariants.{Passed, Blocked, Muted}
use Rattle.fr_bus.specs.declared.outcome.Sent.{Sent}
use Rattle.fr_slots.specs.Admission.{is_channel}
use Rattle.fr_bus.specs.Outcome.{is_passed, all_passed, overruns, is_of, seen_of}
use Rattle.fr_bus.specs.Record.{Recorded, corrupt_on, seen_by, offer_in}
use Rattle.fr_core.proofs.CaseLemmas.{both_first, both_rest, differ}
use Rattle.fr_core.proofs.JudgedLemmas.{is_judged, is_judged_in}
use Rattle.fr_core.specs.Receivers.{is_muted, is_clean}
use Rattle.fr_guardian.specs.Guarding.{passes}
use Rattle.fr_schedule.specs.Descriptions.{Description}
use Rattle.fr_slots.specs.declared.channel.Channel.{Channel}
use Rattle.fr_slots.specs.declared.channel.Channel.TheVariants.{A, B}
use Rattle.fr_slots.specs.Parameters.{Parameters}
use Rattle.fr_slots.specs.Windows.{Opportunity}
use Rattle.fr_status.specs.declared.seen.Seen.TheVariants.{Own, Conflict, Noise, Overrun, Bytes}

-- ---- the only transmission that passed

pub record IsLone (ts : List Sent) (bytes : ArrayVec ℕ) : Type 0 where
  pub sender : Sent
  pub only : ts ≡ sender ∷ []
  pub bytes_are : sender.bytes ≡ bytes

not_bytes : {X : Type 0} (b : Bool) (bytes : ArrayVec ℕ) → cond b Conflict Noise ≡ Bytes bytes → X
not_bytes true bytes e = absurd (let none : ⊥ = cc in none)
not_bytes false bytes e = absurd (let none : ⊥ = cc in none)

lone_bytes : (own long : Bool) (x bytes : ArrayVec ℕ) → cond own Own (cond long Overrun (Bytes x)) ≡ Bytes bytes
    → x ≡ bytes
lone_bytes true long x bytes e = absurd (let none : ⊥ = cc in none)
lone_bytes false true x bytes e = absurd (let none : ⊥ = cc in none)
lone_bytes false false x bytes e = cc

pub seen_of-bytes : (p : Parameters) (w : Opportunity) (n : ℕ) (ts : List Sent) (bytes : ArrayVec ℕ)
    → seen_of p w None n ts ≡ Bytes bytes → IsLone ts bytes
seen_of-bytes p w n [] bytes e = absurd (let none : ⊥ = cc in none)
seen_of-bytes p w n (t ∷ []) bytes e =
    record {
      sender = t;
      only = refl;
      bytes_are = lone_bytes (is_of n t) (overruns p w (length t.bytes.items)) t.bytes
          bytes e;
    }
seen_of-bytes p w n (t ∷ u ∷ ts) bytes e = not_bytes (list_any (is_of n) (t ∷ u ∷ ts)) bytes e

-- ---- the owner's offer

pub same_channel : (c d : Channel) → is_channel c d ≡ true → c ≡ d
same_channel A A e = refl
same_channel A B e = absurd (let none : ⊥ = cc in none)
same_channel B A e = absurd (let none : ⊥ = cc in none)
same_channel B B e = refl

-- a clean passed transmission of the owner is its offer
offer_if_clean : (own on babble muted : Bool) → own ≡ true → on ≡ true → not ((own && on) && (babble || muted)) ≡ true
    → ((own && on) && not babble) ≡ true
offer_if_clean true true false muted o c e = refl
offer_if_clean true true true muted o c e = absurd (let none : ⊥ = cc in none)
offer_if_clean true false babble muted o c e = c
offer_if_clean false on babble muted o c e = o

-- a muted transmission is another's
other_if_muted : (own on babble : Bool) → on ≡ true → not ((own && on) && (babble || true)) ≡ true → own ≡ false
other_if_muted false on babble c e = refl
other_if_muted true true true c e = absurd (let none : ⊥ = cc in none)
other_if_muted true true false c e = absurd (let none : ⊥ = cc in none)
other_if_muted true false babble c e = differ c refl

no_offer_of_other : (own on babble : Bool) → own ≡ false → ((own && on) && not babble) ≡ false
no_offer_of_other false on babble e = refl
no_offer_of_other true on babble e = differ refl e

no_offer_elsewhere : (own on babble : Bool) → on ≡ false → ((own && on) && not babble) ≡ false
no_offer_elsewhere false on babble e = refl
no_offer_elsewhere true false babble e = refl
no_offer_elsewhere true true babble e = differ refl e

module _ (d : Description) (w : Opportunity) (channel : Channel) (owner : ℕ) (passing : passes d owner w channel ≡ true)
    (alone : (other : ℕ) → passes d other w channel ≡ true → other ≡ owner) where
  lone_step : (u : Sent) (us : List Sent) (t : Sent) (on : Bool) (f : SentFate) → is_channel u.channel channel ≡ on
      → u.fate ≡ f → is_judged_in d w u ≡ true → is_clean channel owner u ≡ true
      → (all_passed channel us ≡ t ∷ [] → offer_in channel owner us ≡ Some t.bytes)
      → cond (on && is_passed f) (u ∷ all_passed channel us) (all_passed channel us) ≡ t ∷ []
      → offer_in channel owner (u ∷ us) ≡ Some t.bytes
  lone_step u us t false f on_is is judged clean rest e = rw
      (no_offer_elsewhere (is_of owner u) (is_channel u.channel channel) u.babble on_is) (rest e)
  lone_step u us t true Passed on_is is judged clean rest e =
      let same : u ≡ t = cc in
      let there : u.channel ≡ channel = same_channel u.channel channel on_is in
      let passed : passes d u.node w channel ≡ true =
      ap (λ (c : Channel). passes d u.node w c) (sym there) ∙ ap
      (λ (f : SentFate). is_judged f (passes d u.node w u.channel)) (sym is) ∙ judged in
      let own : is_of owner u ≡ true = eq-eqb u.node owner (alone u.node passed) in
      rw (offer_if_clean (is_of owner u) (is_channel u.channel channel) u.babble (is_muted u.fate) own on_is clean)
      (ap (λ (x : Sent). Some x.bytes) same)
  lone_step u us t true Blocked on_is is judged clean rest e =
      let there : u.channel ≡ channel = same_channel u.channel channel on_is in
      let blocked : not (passes d u.node w channel) ≡ true =
      ap (λ (c : Channel). not (passes d u.node w c)) (sym there) ∙ ap
      (λ (f : SentFate). is_judged f (passes d u.node w u.channel)) (sym is) ∙ judged in
      let other : is_of owner u ≡ false =
      ne_eqb u.node owner (λ same. let h : not true ≡ true =
      ap not (sym passing ∙ ap (λ (n : ℕ). passes d n w channel) (sym same)) ∙ blocked in let none : ⊥ = cc in none)
      in
      rw (no_offer_of_other (is_of owner u) (is_channel u.channel channel) u.babble other) (rest e)
  lone_step u us t true Muted on_is is judged clean rest e =
      let muted : not ((is_of owner u && is_channel u.channel channel) && (u.babble || true)) ≡ true =
      ap (λ (f : SentFate). not ((is_of owner u && is_channel u.channel channel) && (u.babble || is_muted f))) (sym is)
      ∙ clean in
      rw (no_offer_of_other (is_of owner u) (is_channel u.channel channel) u.babble
      (other_if_muted (is_of owner u) (is_channel u.channel channel) u.babble on_is muted)) (rest e)

  lone_offer : (sent : List Sent) (t : Sent) → list_all (is_judged_in d w) sent ≡ true
      → list_all (is_clean channel owner) sent ≡ true
      → all_passed channel sent ≡ t ∷ [] → offer_in channel owner sent ≡ Some t.bytes
  lone_offer [] t judged clean e = absurd (let none : ⊥ = cc in none)
  lone_offer (u ∷ us) t judged clean e =
      lone_step u us t (is_channel u.channel channel) u.fate refl refl
      (both_first (is_judged_in d w u) (list_all (is_judged_in d w) us) judged)
      (both_first (is_clean channel owner u) (list_all (is_clean channel owner) us) clean)
      (lone_offer us t (both_rest (is_judged_in d w u) (list_all (is_judged_in d w) us) judged)
      (both_rest (is_clean channel owner u) (list_all (is_clean channel owner) us) clean))
      e

  -- bytes that a node observes there are the owner's offer
  pub seen_offer : (p : Parameters) (n : ℕ) (r : Recorded) (bytes : ArrayVec ℕ)
      → list_all (is_judged_in d w) r.sent ≡ true → list_all (is_clean channel owner) r.sent ≡ true
      → corrupt_on r channel ≡ None → seen_by p r channel n ≡ Bytes bytes → offer_in channel owner r.sent ≡ Some bytes
  seen_offer p n r bytes judged clean whole seen =
      let l = seen_of-bytes p r.window n (all_passed channel r.sent) bytes
      (ap (λ (c : Option ℕ). seen_of p r.window c n (all_passed channel r.sent)) (sym whole) ∙ seen) in
      lone_offer r.sent l.sender judged clean l.only ∙ ap Some l.bytes_are
