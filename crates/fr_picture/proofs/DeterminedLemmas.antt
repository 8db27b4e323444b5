-- A cycle of a cluster has one picture.
use Rattle.std.proofs.Common.{◌≡◌, ℕ, zero, suc, ◌+◌, ◌<◌, List, ◌++◌, length, Some, slice_get, refl, sym, ap, ap₂}
use Rattle.std.proofs.Common.{◌∙◌, inl, inr, arith}
use Rattle.fr_guardian.proofs.SameLemmas.{maximal_same}
use Rattle.fr_guardian.specs.Guarding.{IsOpenMacrotick}
use Rattle.fr_latency.specs.Openings.{slots_before}
use Rattle.fr_picture.specs.Dynamics.{IsDynamicText, IsSentText, IsSlotText, dynamic_box, sender_text}
use Rattle.fr_picture.specs.Frames.{front_text}
use Rattle.fr_picture.specs.Guards.{AreGuardRows, IsGuardRow, guard_row, row_text}
use Rattle.fr_picture.specs.Owners.{AreOwnerTexts, IsOwnerText, owned_element}
use Rattle.fr_picture.specs.Ranges.{AreRanges, IsLineText, IsRangeText, latest_of, range_text}
use Rattle.fr_picture.specs.Schedules.{AreSamePictures, IsPicture}
use Rattle.fr_picture.specs.Shares.{AreTexts, HasNoSender, HasSender, box_left, box_length, line_height, line_top}
use Rattle.fr_picture.specs.Shares.{room_left, room_length}
use Rattle.fr_schedule.specs.Clusters.{IsCluster}
use Rattle.fr_schedule.specs.Descriptions.{Description}
use Rattle.fr_slots.specs.declared.channel.Channel.{Channel}
use Rattle.fr_slots.specs.declared.channel.Channel.TheVariants.{A, B}
use Rattle.fr_slots.specs.Plans.{Plan}
use Rattle.fr_svg.specs.Elements.{picture_end}

-- ---- texts one after another

-- two texts with the same parts are the same
both_same : (a b x y : List ℕ) → a ≡ b → x ≡ y → a ++ x ≡ b ++ y
both_same a b x y front back = ap₂ (λ (s t : List ℕ). s ++ t) front back

texts_same : (IsText : ℕ → List ℕ → Type 0)
    → ((slot : ℕ) (x y : List ℕ) → IsText slot x → IsText slot y → x ≡ y)
    → (slots : ℕ) (x y : List ℕ) → AreTexts IsText slots x → AreTexts IsText slots y → x ≡ y
unfolding AreTexts
texts_same IsText one zero x y first second = first ∙ sym second
texts_same IsText one (suc slots) x y first second =
    let (before, last, before_are, last_is, all) = first in
    let (before', last', before_are', last_is', all') = second in
    all ∙ both_same before before' last last' (texts_same IsText one slots before before' before_are before_are')
    (one (suc slots) last last' last_is last_is') ∙ sym all'

-- ---- the slots

same_plan : (plans : List Plan) (m n : ℕ) (x y : Plan) → m ≡ n → slice_get plans m ≡ Some x
    → slice_get plans n ≡ Some y → x ≡ y
same_plan plans m n x y same first second = cc

no_sender : (d : Description) (cycle : ℕ) (channel : Channel) (slot node : ℕ) → HasSender d cycle channel slot node
    → HasNoSender d cycle channel slot → ⊥
no_sender d cycle channel slot node sender (inl static) = let none : ⊥ = cc (sym static ∙ sender.dynamic) in none
no_sender d cycle channel slot node sender (inr nobody) = nobody node sender.sender

module _ (d : Description) (cycle : ℕ) (is : IsCluster d) (within : cycle < 64) where
  -- ---- the static slots

  owner_same : (slot : ℕ) (channel : Channel) (x y : List ℕ) → IsOwnerText d cycle slot channel x
      → IsOwnerText d cycle slot channel y → x ≡ y
  owner_same slot channel x y (inl (m, sender, text)) (inl (n, sender', text')) =
      text ∙ ap (owned_element d.params slot channel) (is.one_sender cycle slot channel m n within sender sender')
      ∙ sym text'
  owner_same slot channel x y (inl (m, sender, text)) (inr (nobody, text')) = absurd (nobody m sender)
  owner_same slot channel x y (inr (nobody, text)) (inl (n, sender', text')) = absurd (nobody n sender')
  owner_same slot channel x y (inr (nobody, text)) (inr (nobody', text')) = text ∙ sym text'

  owners_same : (slots : ℕ) (x y : List ℕ) → AreOwnerTexts d cycle slots x → AreOwnerTexts d cycle slots y → x ≡ y
  owners_same zero x y first second = first ∙ sym second
  owners_same (suc slots) x y first second =
      let (before, a, b, before_are, a_is, b_is, all) = first in
      let (before', a', b', before_are', a_is', b_is', all') = second in
      all ∙ both_same (before ++ a) (before' ++ a') b b'
      (both_same before before' a a' (owners_same slots before before' before_are before_are')
      (owner_same (suc slots) A a a' a_is a_is')) (owner_same (suc slots) B b b' b_is b_is') ∙ sym all'

  -- ---- the dynamic segments

  module _ (channel : Channel) where
    sent_same : (slot m n : ℕ) (x y : List ℕ) → m ≡ n → IsSentText d cycle channel slot m x
        → IsSentText d cycle channel slot n y → x ≡ y
    sent_same slot m n x y same first second =
        let left = box_left d cycle channel slot in
        let length = box_length d cycle channel slot in
        first.text_is
        ∙ ap (λ (p : Plan). sender_text p cycle channel slot m left length)
        (same_plan d.plans m n first.plan second.plan same first.at second.at)
        ∙ ap (λ (k : ℕ). sender_text second.plan cycle channel slot k left length) same
        ∙ sym second.text_is

    slot_same : (slot : ℕ) (x y : List ℕ) → IsSlotText d cycle channel slot x → IsSlotText d cycle channel slot y
        → x ≡ y
    slot_same slot x y (inl (m, sender, text)) (inl (n, sender', text')) =
        sent_same slot m n x y (is.one_sender cycle slot channel m n within sender.sender sender'.sender) text text'
    slot_same slot x y (inl (m, sender, text)) (inr (nobody, text')) =
        absurd (no_sender d cycle channel slot m sender nobody)
    slot_same slot x y (inr (nobody, text)) (inl (n, sender', text')) =
        absurd (no_sender d cycle channel slot n sender' nobody)
    slot_same slot x y (inr (nobody, text)) (inr (nobody', text')) = text ∙ sym text'

    dynamic_same : (x y : List ℕ) → IsDynamicText d cycle channel x → IsDynamicText d cycle channel y → x ≡ y
    dynamic_same x y (inl (none, text)) (inl (none', text')) = text ∙ sym text'
    dynamic_same x y (inl (none, text)) (inr (some, text')) = absurd (omega arith)
    dynamic_same x y (inr (some, text)) (inl (none, text')) = absurd (omega arith)
    dynamic_same x y (inr (some, (slots, slots_are, all))) (inr (some', (slots', slots_are', all'))) =
        let front = dynamic_box (room_left d.params) (room_length d.params) channel in
        all ∙ both_same front front slots slots' refl
        (texts_same (IsSlotText d cycle channel) slot_same 2047 slots slots' slots_are slots_are') ∙ sym all'

    -- ---- the ranges

    line_same : (slot m n : ℕ) (x y : List ℕ) → m ≡ n → IsLineText d cycle channel slot m x
        → IsLineText d cycle channel slot n y → x ≡ y
    line_same slot m n x y same first second =
        let earliest = slots_before d.params slot + 1 in
        let latest = latest_of d cycle channel slot in
        let top = line_top d cycle channel slot in
        first.text_is
        ∙ ap (λ (k : ℕ). range_text d.params channel slot k earliest latest top (line_height d cycle channel)) same
        ∙ sym second.text_is

    range_same : (slot : ℕ) (x y : List ℕ) → IsRangeText d cycle channel slot x → IsRangeText d cycle channel slot y
        → x ≡ y
    range_same slot x y (inl (m, sender, text)) (inl (n, sender', text')) =
        line_same slot m n x y (is.one_sender cycle slot channel m n within sender.sender sender'.sender) text text'
    range_same slot x y (inl (m, sender, text)) (inr (inl nobody, text')) =
        absurd (no_sender d cycle channel slot m sender nobody)
    range_same slot x y (inl (m, sender, text)) (inr (inr never, text')) =
        absurd (let none : ⊥ = omega (arith, text.opens, never) in none)
    range_same slot x y (inr (inl nobody, text)) (inl (n, sender', text')) =
        absurd (no_sender d cycle channel slot n sender' nobody)
    range_same slot x y (inr (inr never, text)) (inl (n, sender', text')) =
        absurd (let none : ⊥ = omega (arith, text'.opens, never) in none)
    range_same slot x y (inr (never, text)) (inr (never', text')) = text ∙ sym text'

  ranges_same : (x y : List ℕ) → AreRanges d cycle x → AreRanges d cycle y → x ≡ y
  ranges_same x y (a, b, a_are, b_are, all) (a', b', a_are', b_are', all') =
      all ∙ both_same a a' b b'
      (texts_same (IsRangeText d cycle A) (range_same A) 2047 a a' a_are a_are')
      (texts_same (IsRangeText d cycle B) (range_same B) 2047 b b' b_are b_are') ∙ sym all'

  -- ---- the guardians

  row_same : (node : ℕ) (channel : Channel) (x y : List ℕ) → IsGuardRow d cycle node channel x
      → IsGuardRow d cycle node channel y → x ≡ y
  row_same node channel x y first second =
      first.text_is
      ∙ ap (row_text d.params (guard_row node channel) node channel)
      (maximal_same (IsOpenMacrotick d node cycle channel) second.spans first.spans second.maximal first.maximal)
      ∙ sym second.text_is

  rows_same : (nodes : ℕ) (x y : List ℕ) → AreGuardRows d cycle nodes x → AreGuardRows d cycle nodes y → x ≡ y
  rows_same zero x y first second = first ∙ sym second
  rows_same (suc node) x y first second =
      let (before, a, b, before_are, a_is, b_is, all) = first in
      let (before', a', b', before_are', a_is', b_is', all') = second in
      all ∙ both_same (before ++ a) (before' ++ a') b b'
      (both_same before before' a a' (rows_same node before before' before_are before_are')
      (row_same node A a a' a_is a_is')) (row_same node B b b' b_is b_is') ∙ sym all'

  -- ---- the picture

  parts_same : (front a b c e f a' b' c' e' f' end : List ℕ) → a ≡ a' → b ≡ b' → c ≡ c' → e ≡ e' → f ≡ f'
      → front ++ a ++ b ++ c ++ e ++ f ++ end ≡ front ++ a' ++ b' ++ c' ++ e' ++ f' ++ end
  parts_same front a b c e f a' b' c' e' f' end p q r s t = cc

  picture_same : (text other : List ℕ) → IsPicture d cycle text → IsPicture d cycle other → text ≡ other
  picture_same text other x y =
      x.text_is
      ∙ parts_same (front_text d cycle) x.owners x.dynamic_a x.dynamic_b x.ranges x.guards
      y.owners y.dynamic_a y.dynamic_b y.ranges y.guards picture_end
      (owners_same d.params.static_slots x.owners y.owners x.owners_are y.owners_are)
      (dynamic_same A x.dynamic_a y.dynamic_a x.dynamic_on_a y.dynamic_on_a)
      (dynamic_same B x.dynamic_b y.dynamic_b x.dynamic_on_b y.dynamic_on_b)
      (ranges_same x.ranges y.ranges x.ranges_are y.ranges_are)
      (rows_same (length d.plans) x.guards y.guards x.guards_are y.guards_are)
      ∙ sym y.text_is

pub pictures_same : AreSamePictures
pictures_same d cycle is within text other x y = picture_same d cycle is within text other x y
