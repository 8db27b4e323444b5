-- The table of what is due in static slots.
use Rattle.std.proofs.Common.{◌≡◌, ℕ, zero, suc, ◌+◌, ◌*◌, ◌/◌, ◌%◌, ◌<◌, ◌≤◌, ◌==◌, true, false, List, [], ◌∷◌, ◌++◌}
use Rattle.std.proofs.Common.{length, get_or, refl, sym, ap, ◌∙◌, arith, add-one, length-append, inl, inr}
use Rattle.std.proofs.lemmas.Bool.Decides.{nat_tests}
use Rattle.std.proofs.lemmas.Nat.{mul-add-lt, div-mul-add, mod-mul-add}
use Rattle.std.proofs.Math.ListN.{get_or-append}
use Rattle.std.proofs.Math.Nat.{eq-or-lt_of_le}
use Rattle.std.proofs.Math.Seq.{get_or-append_seam}
use Rattle.std.specs.Prelude.{Option}
use Rattle.fr_schedule.specs.Descriptions.{Description}
use Rattle.fr_slots.specs.declared.channel.Channel.{Channel}
use Rattle.fr_slots.specs.declared.channel.Channel.TheVariants.{A, B}
use Rattle.fr_logged.specs.declared.due.Due.{Due}
use Rattle.fr_judging.specs.DueTable.{channel_of, width_of, due_place, due_in, due_list, all_dues}
use Rattle.fr_judging.specs.Rules.{due_at}
use Rattle.fr_judging.specs.Tallies.{channel_number}

pub length-due_list : (d : Description) (w n : ℕ) → length (due_list d w n) ≡ n
unfolding due_list
length-due_list d w zero = refl
length-due_list d w (suc n) =
    omega (arith, length-append (due_list d w n) (due_in d w n ∷ []), length-due_list d w n)

pub due_none : (d : Description) (w : ℕ) (dues : List (Option Due)) → dues ≡ [] → dues ≡ due_list d w 0
unfolding due_list
due_none d w dues is = is

pub due_more : (d : Description) (w n : ℕ) (old new : List (Option Due)) (due : Option Due) → new ≡ old ++ due ∷ []
    → old ≡ due_list d w n → due ≡ due_in d w n → new ≡ due_list d w (n + 1)
unfolding due_list
due_more d w n old new due is old_is due_is =
    is
    ∙ ap (λ (t : List (Option Due)). t ++ due ∷ []) old_is
    ∙ ap (λ (x : Option Due). due_list d w n ++ x ∷ []) due_is
    ∙ ap (due_list d w) (sym (add-one n))

at_place : (d : Description) (w n i : ℕ) (absent : Option Due) → i < n
    → get_or (due_list d w n) i absent ≡ due_in d w i
unfolding due_list
at_place d w zero i absent lt = absurd (omega (arith, lt))
at_place d w (suc n) i absent lt =
    elim (eq-or-lt_of_le le) [
      | inl last ↦
          ap (λ (k : ℕ). get_or (due_list d w n ++ due_in d w n ∷ []) k absent) (last ∙ sym len)
          ∙ get_or-append_seam (due_list d w n) (due_in d w n) [] absent
          ∙ ap (due_in d w) (sym last)
      | inr before ↦
          get_or-append (due_list d w n) (due_in d w n ∷ []) absent i (omega (arith, before, len))
          ∙ at_place d w n i absent before
    ]
  where
    len : length (due_list d w n) ≡ n
    len = length-due_list d w n

    le : i ≤ n
    le = omega (arith, lt)

channel_again : (channel : Channel) (slot : ℕ) → channel_of ((slot * 2 + channel_number channel) % 2) ≡ channel
channel_again A slot = let none : ((slot * 2 + 0) % 2 == 0) ≡ true = grind (arith, nat_tests) in rw none refl
channel_again B slot = let one : ((slot * 2 + 1) % 2 == 0) ≡ false = grind (arith, nat_tests) in rw one refl

number_fits : (channel : Channel) → channel_number channel < 2
number_fits A = omega arith
number_fits B = omega arith

-- the place of a slot in its cycle
rest_fits : (slots slot : ℕ) (channel : Channel) → slot ≤ slots
    → slot * 2 + channel_number channel < width_of slots
rest_fits slots slot channel fits = omega (arith, fits, number_fits channel)

pub due_within : (d : Description) (dues : List (Option Due)) (slot : ℕ) (channel : Channel) (cycle place : ℕ)
    → dues ≡ all_dues d → slot ≤ d.params.static_slots → cycle < 64
    → place ≡ due_place (width_of d.params.static_slots) slot channel cycle → place < length dues
due_within d dues slot channel cycle place is fits known place_is =
    let w = width_of d.params.static_slots in
    let below : cycle * w + (slot * 2 + channel_number channel) < w * 64 =
    mul-add-lt cycle w (slot * 2 + channel_number channel) 64 known (rest_fits d.params.static_slots slot channel fits)
    in
    omega (arith, place_is, below, ap length is, length-due_list d w (64 * w))

pub due_found : (d : Description) (dues : List (Option Due)) (slot : ℕ) (channel : Channel) (cycle place : ℕ)
    (absent : Option Due) → dues ≡ all_dues d → slot ≤ d.params.static_slots → cycle < 64
    → place ≡ due_place (width_of d.params.static_slots) slot channel cycle
    → get_or dues place absent ≡ due_at d slot channel cycle
due_found d dues slot channel cycle place absent is fits known place_is =
    let w = width_of d.params.static_slots in
    let rest = slot * 2 + channel_number channel in
    let rest_fit = rest_fits d.params.static_slots slot channel fits in
    let within : place < 64 * w =
    omega (
      arith,
      due_within d dues slot channel cycle place is fits known place_is,
      ap length is,
      length-due_list d w (64 * w),
    ) in
    let cycle_is : (cycle * w + rest) / w ≡ cycle = div-mul-add cycle w rest rest_fit in
    let rest_is : (cycle * w + rest) % w ≡ rest = mod-mul-add cycle w rest rest_fit in
    let slot_is : rest / 2 ≡ slot = omega (arith, number_fits channel) in
    ap (λ (t : List (Option Due)). get_or t place absent) is
    ∙ at_place d w (64 * w) place absent within
    ∙ ap (due_in d w) place_is
    ∙ ap (λ (k : ℕ). due_at d (k / 2) (channel_of (k % 2)) ((cycle * w + rest) / w)) rest_is
    ∙ ap (λ (k : ℕ). due_at d k (channel_of (rest % 2)) ((cycle * w + rest) / w)) slot_is
    ∙ ap (λ (c : Channel). due_at d slot c ((cycle * w + rest) / w)) (channel_again channel slot)
    ∙ ap (due_at d slot channel) cycle_is
