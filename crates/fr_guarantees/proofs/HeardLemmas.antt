-- The transmissions of a window without faults that pass on a channel: none, or that of its only sender.
use Rattle.std.proofs.Common.{◌≡◌, ◌≢◌, ℕ, zero, suc, ◌+◌, ◌<◌, Bool, true, false, cond, ◌&&◌, List, [], ◌∷◌, ◌++◌}
use Rattle.std.proofs.Common.{length, map, Option, Some, None, refl, sym, ap, subst, ◌∙◌, arith}
use Rattle.std.specs.Prelude.{◌==◌, max, slice_index_or}
use Rattle.std.specs.List.{filter, fold}
use Rattle.std.proofs.lemmas.List.Elements.{filter-append}
use Rattle.arrayvec.specs.ArrayVec.{ArrayVec}
use Rattle.fr_bus.specs.declared.outcome.Sent.{Sent}
use Rattle.fr_bus.specs.declared.station.Side.{Side}
use Rattle.fr_bus.specs.Outcome.{fate_of, is_passed, sent_in, sent_of, sent_from, passed_on, all_passed, longest}
use Rattle.fr_bus.specs.States.{idle_station, offering}
use Rattle.fr_bus.specs.Stations.{Station}
use Rattle.fr_guardian.specs.Guarding.{passes}
use Rattle.fr_interface.specs.declared.interface.Offer.{Offer}
use Rattle.fr_schedule.specs.Descriptions.{Description}
use Rattle.fr_slots.specs.Admission.{is_channel}
use Rattle.fr_slots.specs.declared.channel.Channel.{Channel}
use Rattle.fr_slots.specs.declared.channel.Channel.TheVariants.{A, B}
use Rattle.fr_slots.specs.Windows.{Opportunity, slot_of}

-- a side with this offer and without faults
abbrev pub plain_side : Option (ArrayVec ℕ) → Side
plain_side offer = record { offer = offer; babble = None; mute = false }

abbrev pub offer_on : Channel → Offer → Option (ArrayVec ℕ)
offer_on A offer = offer.a
offer_on B offer = offer.b

pub same_channel : (channel : Channel) → is_channel channel channel ≡ true
same_channel A = refl
same_channel B = refl

module _ (d : Description) (w : Opportunity) where
  abbrev pub sent_by : ℕ → Channel → ArrayVec ℕ → Sent
  sent_by node on bytes = record {
    node = node;
    channel = on;
    babble = false;
    bytes = bytes;
    fate = fate_of false (passes d node w on);
  }

  -- ---- one side

  elsewhere : (channel on : Channel) (node : ℕ) (offer : Option (ArrayVec ℕ)) (slot : Option ℕ)
      → is_channel on channel ≡ false → filter (passed_on channel) (sent_in d w node on (plain_side offer) slot) ≡ []
  elsewhere channel on node offer None other = refl
  elsewhere channel on node None (Some slot) other = refl
  elsewhere channel on node (Some bytes) (Some slot) other = by (length bytes.items == 0)
    where
      by : (empty : Bool)
          → filter (passed_on channel) (cond empty [] (sent_by node on bytes ∷ []) ++ []) ≡ []
      by true = refl
      by false = ap (λ (b : Bool). cond (b && is_passed (fate_of false (passes d node w on)))
          (sent_by node on bytes ∷ []) []) other

  silent : (channel on : Channel) (node : ℕ) (offer : Option (ArrayVec ℕ)) (slot : Option ℕ) → offer ≡ None
      → filter (passed_on channel) (sent_in d w node on (plain_side offer) slot) ≡ []
  silent channel on node offer slot none =
      ap (λ (o : Option (ArrayVec ℕ)). filter (passed_on channel) (sent_in d w node on (plain_side o) slot)) none
      ∙ by slot
    where
      by : (o : Option ℕ) → filter (passed_on channel) (sent_in d w node on (plain_side None) o) ≡ []
      by None = refl
      by (Some k) = refl

  -- ---- one node

  pub nothing_passed : (channel : Channel) (node : ℕ) (offer : Offer) → offer_on channel offer ≡ None
      → all_passed channel (sent_of d w node (offering idle_station offer)) ≡ []
  nothing_passed A node offer none =
      filter-append (passed_on A) (sent_in d w node A (plain_side offer.a) (slot_of w A))
      (sent_in d w node B (plain_side offer.b) (slot_of w B))
      ∙ (λ i. silent A A node offer.a (slot_of w A) none i ++ elsewhere A B node offer.b (slot_of w B) refl i)
  nothing_passed B node offer none =
      filter-append (passed_on B) (sent_in d w node A (plain_side offer.a) (slot_of w A))
      (sent_in d w node B (plain_side offer.b) (slot_of w B))
      ∙ (λ i. elsewhere B A node offer.a (slot_of w A) refl i ++ silent B B node offer.b (slot_of w B) none i)

  here : (channel : Channel) (node slot : ℕ) (bytes : ArrayVec ℕ) → (length bytes.items == 0) ≡ false
      → passes d node w channel ≡ true
      → filter (passed_on channel) (sent_in d w node channel (plain_side (Some bytes)) (Some slot))
      ≡ sent_by node channel bytes ∷ []
  here channel node slot bytes some through =
      ap (λ (b : Bool). filter (passed_on channel) (cond b [] (sent_by node channel bytes ∷ []) ++ [])) some
      ∙ (λ i. cond (same_channel channel i && is_passed (fate_of false (through i))) (sent_by node channel bytes ∷ [])
      [])

  pub one_passed : (channel : Channel) (node slot : ℕ) (offer : Offer) (bytes : ArrayVec ℕ)
      → offer_on channel offer ≡ Some bytes → slot_of w channel ≡ Some slot → (length bytes.items == 0) ≡ false
      → passes d node w channel ≡ true
      → all_passed channel (sent_of d w node (offering idle_station offer)) ≡ sent_by node channel bytes ∷ []
  one_passed A node slot offer bytes is slot_is some through =
      filter-append (passed_on A) (sent_in d w node A (plain_side offer.a) (slot_of w A))
      (sent_in d w node B (plain_side offer.b) (slot_of w B))
      ∙ (λ i. filter (passed_on A) (sent_in d w node A (plain_side (is i)) (slot_is i))
      ++ elsewhere A B node offer.b (slot_of w B) refl i)
      ∙ ap (λ (l : List Sent). l ++ []) (here A node slot bytes some through)
  one_passed B node slot offer bytes is slot_is some through =
      filter-append (passed_on B) (sent_in d w node A (plain_side offer.a) (slot_of w A))
      (sent_in d w node B (plain_side offer.b) (slot_of w B))
      ∙ (λ i. elsewhere B A node offer.a (slot_of w A) refl i
      ++ filter (passed_on B) (sent_in d w node B (plain_side (is i)) (slot_is i)))
      ∙ here B node slot bytes some through

  -- ---- all nodes

  -- what the station sends as this node doesn't pass on the channel
  abbrev IsQuiet : Channel → ℕ → Station → Type 0
  IsQuiet channel node s = all_passed channel (sent_of d w node s) ≡ []

  all_quiet : (channel : Channel) (first : ℕ) (ss : List Station)
      → ((n : ℕ) → n < length ss → (node : ℕ) → IsQuiet channel node (slice_index_or ss n idle_station))
      → all_passed channel (sent_from d w first ss) ≡ []
  all_quiet channel first [] each = refl
  all_quiet channel first (s ∷ ss) each =
      filter-append (passed_on channel) (sent_of d w first s) (sent_from d w (first + 1) ss)
      ∙ (λ i. each 0 (omega arith) first i ++ all_quiet channel (first + 1) ss
      (λ n within. each (suc n) (omega (arith, within))) i)

  one_loud : (channel : Channel) (first : ℕ) (ss : List Station) (k : ℕ) (t : Sent) → k < length ss
      → all_passed channel (sent_of d w (first + k) (slice_index_or ss k idle_station)) ≡ t ∷ []
      → ((n : ℕ) → n < length ss → n ≢ k → (node : ℕ) → IsQuiet channel node (slice_index_or ss n idle_station))
      → all_passed channel (sent_from d w first ss) ≡ t ∷ []
  one_loud channel first [] k t within loud each = absurd (let none : ⊥ = omega (arith, within) in none)
  one_loud channel first (s ∷ ss) zero t within loud each =
      let same : first + 0 ≡ first = omega arith in
      filter-append (passed_on channel) (sent_of d w first s) (sent_from d w (first + 1) ss)
      ∙ (λ i. all_passed channel (sent_of d w (sym same i) s) ++ all_quiet channel (first + 1) ss
      (λ n inside. each (suc n) (omega (arith, inside)) (λ e. let none : ⊥ = omega (arith, e) in none)) i)
      ∙ ap (λ (l : List Sent). l ++ []) loud
  one_loud channel first (s ∷ ss) (suc k) t within loud each =
      let same : first + suc k ≡ first + 1 + k = omega arith in
      filter-append (passed_on channel) (sent_of d w first s) (sent_from d w (first + 1) ss)
      ∙ (λ i. each 0 (omega arith) (λ e. let none : ⊥ = omega (arith, e) in none) first i
      ++ all_passed channel (sent_from d w (first + 1) ss))
      ∙ one_loud channel (first + 1) ss k t (omega (arith, within))
      (subst (λ (n : ℕ). all_passed channel (sent_of d w n (slice_index_or ss k idle_station)) ≡ t ∷ []) same loud)
      (λ n inside other. each (suc n) (omega (arith, inside)) (λ e. other (omega (arith, e))))

  pub none_pass : (channel : Channel) (ss : List Station) (offers : ℕ → Offer)
      → ((n : ℕ) → n < length ss → slice_index_or ss n idle_station ≡ offering idle_station (offers n))
      → ((n : ℕ) → n < length ss → offer_on channel (offers n) ≡ None)
      → all_passed channel (sent_from d w 0 ss) ≡ []
  none_pass channel ss offers are silent =
      all_quiet channel 0 ss (λ n within node. subst (IsQuiet channel node) (sym (are n within))
      (nothing_passed channel node (offers n) (silent n within)))

  pub one_passes : (channel : Channel) (ss : List Station) (offers : ℕ → Offer) (k slot : ℕ) (bytes : ArrayVec ℕ)
      → ((n : ℕ) → n < length ss → slice_index_or ss n idle_station ≡ offering idle_station (offers n))
      → k < length ss → offer_on channel (offers k) ≡ Some bytes → slot_of w channel ≡ Some slot
      → (length bytes.items == 0) ≡ false → passes d k w channel ≡ true
      → ((n : ℕ) → n < length ss → n ≢ k → offer_on channel (offers n) ≡ None)
      → all_passed channel (sent_from d w 0 ss) ≡ sent_by k channel bytes ∷ []
  one_passes channel ss offers k slot bytes are within is slot_is some through silent =
      let first : 0 + k ≡ k = omega arith in
      one_loud channel 0 ss k (sent_by k channel bytes) within
      (subst (λ (n : ℕ). all_passed channel (sent_of d w n (slice_index_or ss k idle_station))
      ≡ sent_by k channel bytes ∷ []) (sym first)
      (subst (λ (s : Station). all_passed channel (sent_of d w k s) ≡ sent_by k channel bytes ∷ [])
      (sym (are k within)) (one_passed channel k slot (offers k) bytes is slot_is some through)))
      (λ n inside other node. subst (IsQuiet channel node) (sym (are n inside))
      (nothing_passed channel node (offers n) (silent n inside other)))

-- ---- the longest transmission

pub longest_none : (channel : Channel) (ts : List Sent) → all_passed channel ts ≡ [] → longest channel ts ≡ 0
longest_none channel ts e = ap (λ (l : List Sent). fold max 0 (map (λ (t : Sent). length t.bytes.items) l)) e

max_zero : (n : ℕ) → max 0 n ≡ n
max_zero n = omega arith

pub longest_one : (channel : Channel) (ts : List Sent) (t : Sent) → all_passed channel ts ≡ t ∷ []
    → longest channel ts ≡ length t.bytes.items
longest_one channel ts t e =
    ap (λ (l : List Sent). fold max 0 (map (λ (u : Sent). length u.bytes.items) l)) e ∙ max_zero (length t.bytes.items)
