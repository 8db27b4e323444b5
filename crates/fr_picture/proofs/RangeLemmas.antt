-- The lines of both channels, and what the sender of a dynamic slot has.
use Rattle.std.proofs.Common.{◌≡◌, ℕ, Bool, true, false, ◌&&◌, ◌||◌, eqb, List, [], ◌∷◌, ◌++◌, Option, Result}
use Rattle.std.proofs.Common.{Ok, Err, refl, sym, ap, ◌∙◌, arith}
use Rattle.std.proofs.lemmas.Bool.{and_from, and_parts, cond-false}
use Rattle.std.proofs.lemmas.Bool.Decides.{nat_tests}
use Rattle.std.specs.List.{list_any}
use Rattle.std.specs.Prelude.{OnOk}
use Rattle.std.proofs.KnownBytes.{Appends-trans}
use Rattle.fr_latency.proofs.UsedLemmas.{any_at}
use Rattle.fr_latency.specs.Openings.{is_for, is_used, slot_after, slots_before}
use Rattle.fr_picture.specs.Owners.{Adds}
use Rattle.fr_picture.specs.Ranges.{AreRanges, AreRangeTexts, range_text}
use Rattle.fr_schedule.specs.Descriptions.{Description}
use Rattle.fr_schedule.specs.SenderTable.{IsSender}
use Rattle.fr_slots.specs.Admission.{includes}
use Rattle.fr_slots.specs.declared.channel.Channel.{Channel}
use Rattle.fr_slots.specs.declared.channel.Channel.TheVariants.{A, B}
use Rattle.fr_slots.specs.declared.plan.Buffer.{Buffer}
use Rattle.fr_slots.specs.Faults.{sends_at, transmits}
use Rattle.fr_slots.specs.Parameters.{Parameters, is_static_slot}
use Rattle.fr_slots.specs.Plans.{Plan}

-- ---- the sender of a dynamic slot

for_slot : (cycle slot : ℕ) (channel : Channel) (b : Buffer) → sends_at slot channel cycle b ≡ true
    → is_for slot channel b ≡ true
for_slot cycle slot channel b sends =
    let (transmits_is, admits) = and_parts (transmits b) _ sends in
    let (first, in_cycle) = and_parts (eqb b.filter.slot slot && includes b.filter.channels channel) _ admits in
    and_from (transmits b) _ transmits_is first

or_later : (x y : Bool) → y ≡ true → (x || y) ≡ true
or_later true y is = refl
or_later false y is = is

any_for_slot : (cycle slot : ℕ) (channel : Channel) (bs : List Buffer)
    → list_any (sends_at slot channel cycle) bs ≡ true → list_any (is_for slot channel) bs ≡ true
any_for_slot cycle slot channel [] any = any
any_for_slot cycle slot channel (b ∷ bs) any =
    one (any_for_slot cycle slot channel bs) (sends_at slot channel cycle b) refl any
  where
    one : (list_any (sends_at slot channel cycle) bs ≡ true → list_any (is_for slot channel) bs ≡ true)
        → (here : Bool) → sends_at slot channel cycle b ≡ here
        → (here || list_any (sends_at slot channel cycle) bs) ≡ true → list_any (is_for slot channel) (b ∷ bs) ≡ true
    one later true is rest =
        ap (λ (x : Bool). x || list_any (is_for slot channel) bs) (for_slot cycle slot channel b is)
    one later false is rest =
        or_later (is_for slot channel b) (list_any (is_for slot channel) bs) (later rest)

-- the cluster has a transmit buffer for a dynamic slot with a sender
pub sender_used : (d : Description) (cycle slot : ℕ) (channel : Channel) (node : ℕ)
    → is_static_slot d.params slot ≡ false → IsSender d cycle slot channel node → is_used d.plans slot channel ≡ true
sender_used d cycle slot channel node dynamic sender =
    let sends : list_any (sends_at slot channel cycle) sender.plan.buffers ≡ true =
    sym (cond-false (is_static_slot d.params slot) _ _ dynamic) ∙ sender.sends in
    any_at (λ (p : Plan). list_any (is_for slot channel) p.buffers) d.plans node sender.plan sender.at
    (any_for_slot cycle slot channel sender.plan.buffers sends)

-- the slot after so many dynamic slots as stand before a dynamic slot is this slot
pub slot_again : (p : Parameters) (slot : ℕ) → is_static_slot p slot ≡ false
    → slot_after p (slots_before p slot) ≡ slot
slot_again p slot dynamic = grind (arith, nat_tests)

-- ---- the lines

-- the line of the same numbers
pub range_moved : (channel : Channel) (slot node : ℕ) (p q : Parameters) (first low last high top up height size : ℕ)
    → p ≡ q → first ≡ low → last ≡ high → top ≡ up → height ≡ size
    → range_text p channel slot node first last top height ≡ range_text q channel slot node low high up size
range_moved channel slot node p q first low last high top up height size e f l t h = cc

pub both_ranges : {X E : Type 0} (r : Result X E) (d : Description) (cycle : ℕ) (old mid new : Option (List ℕ))
    → Adds (AreRangeTexts d cycle A 2047) old mid → OnOk r (Adds (AreRangeTexts d cycle B 2047) mid new)
    → OnOk r (Adds (AreRanges d cycle) old new)
both_ranges (Ok x) d cycle old mid new on_a on_b =
    let (a, a_is, added_a) = on_a in
    let (b, b_is, added_b) = on_b in
    (a ++ b, (a, b, a_is, b_is, refl), Appends-trans old mid new a b added_a added_b)
both_ranges (Err e) d cycle old mid new on_a on_b = tt
