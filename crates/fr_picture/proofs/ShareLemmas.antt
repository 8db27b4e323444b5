-- The number of dynamic slots with a sender, and the texts of slots, one slot more.
use Rattle.std.proofs.Common.{◌≡◌, ℕ, zero, suc, ◌+◌, ◌-◌, ◌<◌, ◌≤◌, Bool, true, false, not, cond, List, []}
use Rattle.std.proofs.Common.{◌∷◌, ◌++◌, Option, Some, None, refl, sym, ap, subst, ◌∙◌, slice_get, inl, inr, arith}
use Rattle.std.proofs.Common.{◌*◌, ◌/◌, max, min, ap₂, add-one, append-nil}
use Rattle.std.specs.Prelude.{IfNone, IfSome, count_by, is_some}
use Rattle.std.specs.Io.KnownBytes.{Appends}
use Rattle.std.proofs.KnownBytes.{Appends-nil, Appends-trans}
use Rattle.std.specs.List.{list_any, range_with_len}
use Rattle.std.proofs.lemmas.Bool.{and_from, and_left, and_right, cond-true, cond-false, false_from_ne_true}
use Rattle.std.proofs.lemmas.Bool.{not_from_false, not_from_true, or_from}
use Rattle.std.proofs.lemmas.List.FromFn.{length-range_with_len}
use Rattle.std.proofs.lemmas.List.Sums.{count_by-le-length, sum_by_push}
use Rattle.fr_latency.proofs.UsedLemmas.{any_at}
use Rattle.fr_picture.specs.declared.shares.Sender.{Sender}
use Rattle.fr_picture.specs.Owners.{Adds}
use Rattle.fr_picture.specs.Places.{row_of}
use Rattle.fr_picture.specs.Shares.{AreTexts, HasSender, HasNoSender, IsPlace, has_sender, line_height, line_top}
use Rattle.fr_picture.specs.Shares.{sender_count, senders_up_to}
use Rattle.fr_schedule.specs.Descriptions.{Description}
use Rattle.fr_schedule.specs.SenderTable.{may_send}
use Rattle.fr_slots.specs.declared.channel.Channel.{Channel}
use Rattle.fr_slots.specs.Numbers.{last_slot}
use Rattle.fr_slots.specs.Parameters.{is_static_slot}
use Rattle.fr_slots.specs.Plans.{Plan}

-- ---- the test of a slot

pub nobody_sends : (found : Option Sender) (P : Type 0) → P → IfNone found P
nobody_sends None P p = p
nobody_sends (Some s) P p = tt

none_any : (test : Plan → Bool) (plans : List Plan)
    → ((k : ℕ) (plan : Plan) → slice_get plans k ≡ Some plan → test plan ≡ false) → list_any test plans ≡ false
none_any test [] none = refl
none_any test (plan ∷ plans) none =
    or_from (test plan) (list_any test plans) (none 0 plan refl)
    (none_any test plans (λ k other at. none (suc k) other at))

module _ (d : Description) (cycle : ℕ) (channel : Channel) where
  sent : (slot node : ℕ) → HasSender d cycle channel slot node → has_sender d cycle channel slot ≡ true
  sent slot node is =
      let may = may_send d.params cycle slot channel in
      and_from (not (is_static_slot d.params slot)) (list_any may d.plans)
      (not_from_false (is_static_slot d.params slot) is.dynamic)
      (any_at may d.plans node is.sender.plan is.sender.at is.sender.sends)

  unsent : (slot : ℕ) → HasNoSender d cycle channel slot → has_sender d cycle channel slot ≡ false
  unsent slot (inl static) =
      and_left (not (is_static_slot d.params slot)) (list_any (may_send d.params cycle slot channel) d.plans)
      (not_from_true (is_static_slot d.params slot) static)
  unsent slot (inr nobody) =
      let may = may_send d.params cycle slot channel in
      and_right (not (is_static_slot d.params slot)) (list_any may d.plans)
      (none_any may d.plans (λ k plan at. false_from_ne_true (may plan)
      (λ sends. nobody k (record { plan = plan; at = at; sends = sends }))))

  -- ---- the count

  range_more : (first count : ℕ)
      → range_with_len first (count + 1) ≡ range_with_len first count ++ (first + count) ∷ []
  range_more first zero = ap (λ (n : ℕ). n ∷ []) (omega arith)
  range_more first (suc count) =
      let next : suc count + 1 ≡ suc (count + 1) = omega arith in
      let here : first + 1 + count ≡ first + suc count = omega arith in
      ap (λ (n : ℕ). range_with_len first n) next
      ∙ ap (λ (xs : List ℕ). first ∷ xs) (range_more (first + 1) count ∙ ap
      (λ (n : ℕ). range_with_len (first + 1) count ++ n ∷ []) here)

  abbrev one_if : ℕ → ℕ
  one_if slot = cond (has_sender d cycle channel slot) 1 0

  up_to_more : (slots number : ℕ) → number ≡ slots + 1
      → senders_up_to d cycle channel (slots + 1) ≡ senders_up_to d cycle channel slots + one_if number
  unfolding senders_up_to
  up_to_more slots number is =
      let next : 1 + slots ≡ number = omega arith in
      ap (count_by (has_sender d cycle channel)) (range_more 1 slots)
      ∙ sum_by_push one_if (range_with_len 1 slots) (1 + slots)
      ∙ ap (λ (n : ℕ). count_by (has_sender d cycle channel) (range_with_len 1 slots) + one_if n) next

  pub no_senders : senders_up_to d cycle channel 0 ≡ 0
  unfolding senders_up_to
  no_senders = refl

  pub sender_more : (slots number node : ℕ) → number ≡ slots + 1 → HasSender d cycle channel number node
      → senders_up_to d cycle channel (slots + 1) ≡ senders_up_to d cycle channel slots + 1
  sender_more slots number node is sender =
      up_to_more slots number is
      ∙ ap (λ (n : ℕ). senders_up_to d cycle channel slots + n)
      (cond-true (has_sender d cycle channel number) 1 0 (sent number node sender))

  pub no_sender_more : (slots number : ℕ) → number ≡ slots + 1 → HasNoSender d cycle channel number
      → senders_up_to d cycle channel (slots + 1) ≡ senders_up_to d cycle channel slots
  no_sender_more slots number is nobody =
      let same = up_to_more slots number is
      ∙ ap (λ (n : ℕ). senders_up_to d cycle channel slots + n)
      (cond-false (has_sender d cycle channel number) 1 0 (unsent number nobody)) in
      omega (arith, same)

  pub few_senders : (slots : ℕ) → senders_up_to d cycle channel slots ≤ slots
  unfolding senders_up_to
  few_senders slots =
      omega (
        arith,
        count_by-le-length (has_sender d cycle channel) (range_with_len 1 slots),
        length-range_with_len 1 slots,
      )

  more_senders : (slots : ℕ) → senders_up_to d cycle channel slots ≤ senders_up_to d cycle channel (slots + 1)
  more_senders slots = omega (arith, up_to_more slots (slots + 1) refl)

  senders_rise : (slots more : ℕ)
      → senders_up_to d cycle channel slots ≤ senders_up_to d cycle channel (slots + more)
  senders_rise slots zero =
      let same : slots + 0 ≡ slots = omega arith in
      omega (arith, ap (senders_up_to d cycle channel) same)
  senders_rise slots (suc more) =
      let next : slots + suc more ≡ slots + more + 1 = omega arith in
      omega (arith, ap (senders_up_to d cycle channel) next, senders_rise slots more, more_senders (slots + more))

  -- ---- the slot that is looked up

  pub sender_in_more : (found : Option Sender) (slots : ℕ) → IfSome found (λ s. s.slot ≡ slots + 1)
      → IfSome found (λ s. HasSender d cycle channel s.slot s.node) → is_some found ≡ true
      → senders_up_to d cycle channel (slots + 1) ≡ senders_up_to d cycle channel slots + 1
  sender_in_more None slots is sender some = absurd (let none : ⊥ = cc some in none)
  sender_in_more (Some s) slots is sender some = sender_more slots s.slot s.node is sender

  pub no_sender_in : (found : Option Sender) (slots : ℕ)
      → IfNone found (HasNoSender d cycle channel (slots + 1)) → is_some found ≡ false
      → senders_up_to d cycle channel (slots + 1) ≡ senders_up_to d cycle channel slots
  no_sender_in None slots nobody none = no_sender_more slots (slots + 1) refl nobody
  no_sender_in (Some s) slots nobody none = absurd (let clash : ⊥ = cc none in clash)

  -- ---- the place of a slot with a sender

  pub place_of : (slots number node before count : ℕ) → number ≡ slots + 1 → slots < last_slot
      → before ≡ senders_up_to d cycle channel slots → count ≡ sender_count d cycle channel → count ≤ last_slot
      → HasSender d cycle channel number node → IsPlace d cycle channel number before count
  place_of slots number node before count is within before_is count_is few sender =
      let back : number - 1 ≡ slots = omega arith in
      let more = sender_more slots number node is sender in
      let to_last : slots + 1 + (last_slot - (slots + 1)) ≡ last_slot = omega (arith, within) in
      let rest = senders_rise (slots + 1) (last_slot - (slots + 1)) in
      let all = ap (senders_up_to d cycle channel) to_last in
      record {
        before_is = before_is ∙ sym (ap (senders_up_to d cycle channel) back);
        next_is = ap (λ (n : ℕ). n + 1) before_is ∙ sym more ∙ sym (ap (senders_up_to d cycle channel) is);
        count_is = count_is;
        among = omega (arith, before_is, count_is, more, rest, all);
        few = few;
      }

  pub line_top_is : (slot before count : ℕ) → IsPlace d cycle channel slot before count
      → row_of channel + 350 + before * 70 / count ≡ line_top d cycle channel slot
  unfolding line_top
  line_top_is slot before count place =
      ap₂ (λ (b n : ℕ). row_of channel + 350 + b * 70 / n) place.before_is place.count_is

  pub line_height_is : (slot before count : ℕ) → IsPlace d cycle channel slot before count
      → min (max (70 / count) 4) 14 ≡ line_height d cycle channel
  unfolding line_height
  line_height_is slot before count place = ap (λ (n : ℕ). min (max (70 / n) 4) 14) place.count_is

  -- ---- the texts of the slots

  module _ (IsText : ℕ → List ℕ → Type 0) where
    -- the texts of so many slots have been written, and so many of these have a sender
    pub record AreWritten (slots before : ℕ) (old new : Option (List ℕ)) : Type 0 where
      pub before_is : before ≡ senders_up_to d cycle channel slots
      pub added : Adds (AreTexts IsText slots) old new

    pub none_written : (old : Option (List ℕ)) → AreWritten 0 0 old old
    unfolding AreTexts
    none_written old = record { before_is = sym no_senders; added = ([], refl, Appends-nil old) }

    next_text : (slots number : ℕ) (texts last : List ℕ) → number ≡ slots + 1 → AreTexts IsText slots texts
        → IsText number last → AreTexts IsText (slots + 1) (texts ++ last)
    unfolding AreTexts
    next_text slots number texts last is texts_are last_is =
        let next : number ≡ suc slots = is ∙ add-one slots in
        subst (λ (n : ℕ). AreTexts IsText n (texts ++ last)) (sym (add-one slots))
        (texts, last, texts_are, subst (λ (n : ℕ). IsText n last) next last_is, refl)

    pub one_written : (slots number node before : ℕ) (old mid new : Option (List ℕ)) → number ≡ slots + 1
        → AreWritten slots before old mid → HasSender d cycle channel number node → Adds (IsText number) mid new
        → AreWritten (slots + 1) (before + 1) old new
    one_written slots number node before old mid new is so_far sender here =
        let (texts, texts_are, added) = so_far.added in
        let (last, last_is, added_last) = here in
        record {
          before_is = ap (λ (n : ℕ). n + 1) so_far.before_is ∙ sym (sender_more slots number node is sender);
          added = (
            texts ++ last,
            next_text slots number texts last is texts_are last_is,
            Appends-trans old mid new texts last added added_last,
          );
        }

    pub none_more_written : (slots number before : ℕ) (old new : Option (List ℕ)) → number ≡ slots + 1
        → AreWritten slots before old new → HasNoSender d cycle channel number → IsText number []
        → AreWritten (slots + 1) before old new
    none_more_written slots number before old new is so_far nobody none =
        let (texts, texts_are, added) = so_far.added in
        record {
          before_is = so_far.before_is ∙ sym (no_sender_more slots number is nobody);
          added = (
            texts ++ [],
            next_text slots number texts [] is texts_are none,
            subst (λ (t : List ℕ). Appends old new t) (sym (append-nil texts)) added,
          );
        }
