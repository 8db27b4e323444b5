-- A window that has nothing of a buffer.
use Rattle.std.proofs.Common.{◌≡◌, ℕ, ◌&&◌, ◌||◌, Bool, true, false, List, [], ◌++◌, Option, Some, None, refl, ap, ◌∙◌}
use Rattle.std.proofs.lemmas.Bool.{or_parts}
use Rattle.std.specs.Prelude.{not}
use Rattle.fr_openings.specs.Aside.{is_aside, is_told, opens}
use Rattle.fr_openings.specs.declared.openings.BufferPlace.{BufferPlace}
use Rattle.fr_openings.specs.declared.openings.LastSlots.{LastSlots}
use Rattle.fr_openings.specs.Openings.{both_text, channel_text, is_open}
use Rattle.fr_slots.specs.declared.channel.Channel.{Channel}
use Rattle.fr_slots.specs.declared.channel.Channel.TheVariants.{A, B}
use Rattle.fr_slots.specs.declared.filter.Filter.{Filter}
use Rattle.fr_slots.specs.declared.plan.Buffer.{Buffer}
use Rattle.fr_slots.specs.Faults.{transmits_dynamic}
use Rattle.fr_slots.specs.Parameters.{Parameters}
use Rattle.fr_slots.specs.Plans.{Plan, admits_slot, admits_window}
use Rattle.fr_slots.specs.Windows.{Opportunity, opens_cycle, slot_of}

not_true : (b : Bool) → not b ≡ true → b ≡ false
not_true true h = cc h
not_true false h = refl

and_none : (a b : Bool) → b ≡ false → (a && b) ≡ false
and_none true b h = h
and_none false b h = refl

not_admitted : (f : Filter) (cycle : ℕ) (channel : Channel) (opened : Option ℕ) → opens opened f.slot ≡ false
    → admits_slot f cycle channel opened ≡ false
not_admitted f cycle channel None h = refl
not_admitted f cycle channel (Some slot) h = rw h refl

module _ (p : Parameters) (w : Opportunity) (place : BufferPlace) (plan : Plan) (b : Buffer) where
  channel_none : (channel : Channel) (ends : Bool) → opens_cycle w ≡ false → ends ≡ false
      → opens (slot_of w channel) b.filter.slot ≡ false → channel_text p w ends place plan b channel ≡ []
  channel_none channel ends later follows other =
      let closed : is_open p w channel b ≡ false =
      and_none (transmits_dynamic p b) (admits_window b.filter w channel)
      (not_admitted b.filter w.cycle channel (slot_of w channel) other) in
      rw (later, closed, follows) refl

  pub aside_none : (last : LastSlots) → is_aside w last b.filter.slot ≡ true → both_text p w last place plan b ≡ []
  aside_none last aside =
      let slot = b.filter.slot in
      let none = or_parts (is_told w last || opens w.a slot) (opens w.b slot) (not_true _ aside) in
      let on_a = or_parts (is_told w last) (opens w.a slot) none.0 in
      let told = or_parts (opens_cycle w || last.a) last.b on_a.0 in
      let first = or_parts (opens_cycle w) last.a told.0 in
      ap (λ (text : List ℕ). text ++ channel_text p w last.b place plan b B)
      (channel_none A last.a first.0 first.1 on_a.1)
      ∙ channel_none B last.b first.0 told.1 none.1
