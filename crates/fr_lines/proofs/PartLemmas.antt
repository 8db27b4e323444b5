-- A word is the spelling of at most one part of a line.
use Rattle.std.proofs.Common.{◌≡◌, ℕ, ◌-◌, ◌<◌, ◌≤◌, ◌^◌, ◌&&◌, ◌⊎◌, inl, inr, true, false, List, ◌++◌, length, take}
use Rattle.std.proofs.Common.{drop, codes, Option, Some, None, refl, sym, ap, ◌∙◌, arith, leb, length-append}
use Rattle.std.specs.Prelude.{IfSome, if◌then◌else◌}
use Rattle.std.specs.Result.{result_ok}
use Rattle.std.proofs.lemmas.Bool.{and_parts, cases_Bool, leb-true, leb-false, lt-leb, le-leb}
use Rattle.std.proofs.lemmas.Bool.Decides.{nat_tests}
use Rattle.std.proofs.lemmas.List.{take-append-drop}
use Rattle.std.proofs.lemmas.Slice.Eq.{bytes_eq-Decides}
use Rattle.std.proofs.Math.Seq.{take-append_seam, drop-append_seam}
use Rattle.std.specs.Fmt.{decimal}
use Rattle.std.specs.Str.{bytes_eq}
use Rattle.fr_journal.specs.declared.entry.Offered.{Offered}
use Rattle.fr_journal.specs.declared.entry.Offered.TheVariants as offered
use Rattle.fr_journal.specs.declared.entry.Origin.{Origin}
use Rattle.fr_journal.specs.Entries.{IsOrigin, IsOffered, IsSeen}
use Rattle.fr_lines.specs.PartReading.{slot_in, optional_slot_in, channels_in, cycles_in, marked_channel_in, origin_in}
use Rattle.fr_lines.specs.PartReading.{taken_back_in, from_in, offered_in, seen_bytes_in, seen_in}
use Rattle.fr_lines.specs.Parts.{absent, optional_number, channels_word, channel_mark, origin_word, from_word}
use Rattle.fr_lines.specs.Parts.{offered_word, seen_word}
use Rattle.fr_slots.specs.Admission.{CycleClass, IsCycleClass, cycle_class, is_repetition}
use Rattle.fr_slots.specs.declared.channel.Channel.{Channel}
use Rattle.fr_slots.specs.declared.channel.Channel.TheVariants as channel
use Rattle.fr_slots.specs.declared.channel.Channels.{Channels}
use Rattle.fr_slots.specs.declared.channel.Channels.TheVariants as channels
use Rattle.fr_slots.specs.Numbers.{IsSlot, number_within}
use Rattle.fr_slots.specs.Windows.{IsSlotOrNone}
use Rattle.fr_status.specs.Forms.{Seen}
use Rattle.fr_status.specs.declared.seen.Seen.TheVariants as seen
use Rattle.fr_text.proofs.BindLemmas.{bind_some}
use Rattle.fr_text.proofs.HexTextLemmas.{bytes_takes, bytes_again}
use Rattle.fr_text.proofs.NumberLemmas.{number_takes, number_again, decimal_other}
use Rattle.fr_text.specs.Reading.{number_in, bytes_in}

-- ---- one of several words

-- the word is this one and gives the first result, or the other tests give the result
pub word_or : {A : Type 0} (word this : List ℕ) (o other : Option A) (y : A)
    → (if bytes_eq word this then o else other) ≡ Some y
    → ((word ≡ this) × (o ≡ Some y)) ⊎ (other ≡ Some y)
word_or word this o other y h =
    elim (cases_Bool (bytes_eq word this)) [
      | inl pass ↦ inl ((bytes_eq-Decides word this).0 pass, rw pass at h)
      | inr fail ↦ inr (rw fail at h)
    ]

-- ---- slots

pub within_takes : (least greatest n m : ℕ) → number_within least greatest n ≡ Some m
    → (n ≡ m) × (least ≤ n) × (n ≤ greatest)
within_takes least greatest n m h =
    elim (cases_Bool (leb least n && leb n greatest)) [
      | inl pass ↦
          let parts = and_parts (leb least n) (leb n greatest) pass in
          let is : n ≡ m = cc (rw pass at h) in
          (is, leb-true least n parts.0, leb-true n greatest parts.1)
      | inr fail ↦ cc (rw fail at h)
    ]

pub slot_takes : (word : List ℕ) (slot : ℕ) → slot_in word ≡ Some slot → (word ≡ decimal slot) × IsSlot slot
unfolding slot_in
slot_takes word slot h =
    let (n, hn, h1) = bind_some (number_in 2048 word) _ slot h in
    let within = within_takes 1 2047 n slot h1 in
    let spelled = (number_takes 2048 word n hn).0 in
    let is = within.0 in
    let low = within.1 in
    let high = within.2 in
    (sym spelled ∙ ap decimal is, record { from_one = omega arith; at_most = omega arith })

pub slot_again : (slot : ℕ) → IsSlot slot → slot_in (decimal slot) ≡ Some slot
unfolding slot_in
slot_again slot fits =
    let below : slot < 2048 = omega arith in
    let low : 1 ≤ slot = omega arith in
    let high : slot ≤ 2047 = omega arith in
    rw (number_again 2048 slot below (omega arith), le-leb 1 slot low, le-leb slot 2047 high) refl

pub optional_slot_takes : (word : List ℕ) (o : Option ℕ) → optional_slot_in word ≡ Some o
    → (word ≡ optional_number o) × IsSlotOrNone o
unfolding optional_slot_in
optional_slot_takes word o h =
    elim (word_or word absent (Some None) _ o h) [
      | inl same ↦ let is : None ≡ o = cc same.1 in rw (← is) (same.0, tt)
      | inr other ↦
          let (slot, hs, h1) = bind_some (slot_in word) _ o other in
          let is : Some slot ≡ o = cc h1 in
          let taken = slot_takes word slot hs in
          rw (← is) taken
    ]

pub optional_slot_again : (o : Option ℕ) → IsSlotOrNone o → optional_slot_in (optional_number o) ≡ Some o
unfolding optional_slot_in
optional_slot_again None fits = refl
optional_slot_again (Some slot) fits =
    let small : slot < 2 ^ 64 = omega arith in
    rw (decimal_other slot absent small refl, slot_again slot fits) refl

-- ---- channels and cycles

pub channels_takes : (word : List ℕ) (c : Channels) → channels_in word ≡ Some c → word ≡ channels_word c
unfolding channels_in
channels_takes word c h =
    elim (word_or word (codes "A") _ _ c h) [
      | inl same ↦ let is : channels.A ≡ c = cc same.1 in same.0 ∙ ap channels_word is
      | inr h1 ↦
          elim (word_or word (codes "B") _ _ c h1) [
            | inl same ↦ let is : channels.B ≡ c = cc same.1 in same.0 ∙ ap channels_word is
            | inr h2 ↦
                elim (word_or word (codes "AB") _ _ c h2) [
                  | inl same ↦ let is : channels.Both ≡ c = cc same.1 in same.0 ∙ ap channels_word is
                  | inr h3 ↦ cc h3
                ]
          ]
    ]

pub channels_again : (c : Channels) → channels_in (channels_word c) ≡ Some c
unfolding channels_in
channels_again channels.A = refl
channels_again channels.B = refl
channels_again channels.Both = refl

pub repetition_small : (n : ℕ) → is_repetition n ≡ true → n ≤ 64
repetition_small n h = grind (arith, nat_tests)

class_takes : (b r : ℕ) (c : CycleClass) → result_ok (cycle_class b r) ≡ Some c
    → (b ≡ c.base) × (r ≡ c.repetition) × IsCycleClass c
class_takes b r c h =
    elim (cases_Bool (is_repetition r)) [
      | inl power ↦
          let h1 = rw power at h in
          elim (cases_Bool (leb r b)) [
            | inl large ↦ cc (rw large at h1)
            | inr small ↦
                let is : record { base = b; repetition = r } ≡ c = cc (rw small at h1) in
                let base : b ≡ c.base = ap (λ (d : CycleClass). d.base) is in
                let repetition : r ≡ c.repetition = ap (λ (d : CycleClass). d.repetition) is in
                let below = leb-false r b small in
                (base, repetition, record { repetition_is = rw (← repetition) power; base_below = omega arith })
          ]
      | inr none ↦ cc (rw none at h)
    ]

pub cycles_takes : (base repetition : List ℕ) (c : CycleClass) → cycles_in base repetition ≡ Some c
    → (base ≡ decimal c.base) × (repetition ≡ decimal c.repetition) × IsCycleClass c
unfolding cycles_in
cycles_takes base repetition c h =
    let (b, hb, h1) = bind_some (number_in 64 base) _ c h in
    let (r, hr, h2) = bind_some (number_in 65 repetition) _ c h1 in
    let taken = class_takes b r c h2 in
    let base_is = sym (number_takes 64 base b hb).0 ∙ ap decimal taken.0 in
    let repetition_is = sym (number_takes 65 repetition r hr).0 ∙ ap decimal taken.1 in
    (base_is, repetition_is, taken.2)

pub cycles_again : (c : CycleClass) → IsCycleClass c → cycles_in (decimal c.base) (decimal c.repetition) ≡ Some c
unfolding cycles_in
cycles_again c lawful =
    let small = repetition_small c.repetition lawful.repetition_is in
    let below = lawful.base_below in
    let base : c.base < 64 = omega arith in
    let repetition : c.repetition < 65 = omega arith in
    rw (
      number_again 64 c.base base (omega arith),
      number_again 65 c.repetition repetition (omega arith),
      lawful.repetition_is,
      lt-leb c.repetition c.base below,
    ) refl

-- ---- the commit that was withdrawn

pub taken_back_takes : (word : List ℕ) (o : Option ℕ) → taken_back_in word ≡ Some o
    → (word ≡ optional_number o) × IfSome o (λ n. n < 2 ^ 32)
unfolding taken_back_in
taken_back_takes word o h =
    elim (word_or word absent (Some None) _ o h) [
      | inl same ↦ let is : None ≡ o = cc same.1 in rw (← is) (same.0, tt)
      | inr other ↦
          let (n, hn, h1) = bind_some (number_in (2 ^ 32) word) _ o other in
          let is : Some n ≡ o = cc h1 in
          let taken = number_takes (2 ^ 32) word n hn in
          rw (← is) (sym taken.0, taken.1)
    ]

pub taken_back_again : (o : Option ℕ) → IfSome o (λ n. n < 2 ^ 32) → taken_back_in (optional_number o) ≡ Some o
unfolding taken_back_in
taken_back_again None fits = refl
taken_back_again (Some n) fits =
    let small : n < 2 ^ 64 = omega arith in
    rw (decimal_other n absent small refl, number_again (2 ^ 32) n fits (omega arith)) refl

-- ---- the origin of a frame

channel_takes : (mark : List ℕ) (c : Channel) → marked_channel_in mark ≡ Some c → mark ≡ channel_mark c
unfolding marked_channel_in
channel_takes mark c h =
    elim (word_or mark (codes ":A") _ _ c h) [
      | inl same ↦ let is : channel.A ≡ c = cc same.1 in same.0 ∙ ap channel_mark is
      | inr h1 ↦
          elim (word_or mark (codes ":B") _ _ c h1) [
            | inl same ↦ let is : channel.B ≡ c = cc same.1 in same.0 ∙ ap channel_mark is
            | inr h2 ↦ cc h2
          ]
    ]

channel_again : (c : Channel) → marked_channel_in (channel_mark c) ≡ Some c
unfolding marked_channel_in
channel_again channel.A = refl
channel_again channel.B = refl

length-channel_mark : (c : Channel) → length (channel_mark c) ≡ 2
length-channel_mark channel.A = refl
length-channel_mark channel.B = refl

pub origin_takes : (word : List ℕ) (o : Origin) → origin_in word ≡ Some o → (word ≡ origin_word o) × (o.entry < 2 ^ 32)
unfolding origin_in
origin_takes word o h =
    let at = length word - 2 in
    let (c, hc, h1) = bind_some (marked_channel_in (drop at word)) _ o h in
    let (n, hn, h2) = bind_some (number_in (2 ^ 32) (take at word)) _ o h1 in
    let is : record { entry = n; channel = c } ≡ o = cc h2 in
    let number = number_takes (2 ^ 32) (take at word) n hn in
    let mark = channel_takes (drop at word) c hc in
    let below = number.1 in
    let front = ap (λ xs. xs ++ drop at word) (sym number.0) in
    let back = ap (λ xs. decimal n ++ xs) mark in
    rw (← is) (sym (take-append-drop at word) ∙ front ∙ back, below)

pub origin_again : (o : Origin) → o.entry < 2 ^ 32 → origin_in (origin_word o) ≡ Some o
unfolding origin_in
origin_again o below =
    let word = origin_word o in
    let all = length-append (decimal o.entry) (channel_mark o.channel) in
    let two = length-channel_mark o.channel in
    let at : length word - 2 ≡ length (decimal o.entry) = omega arith in
    let front : take (length word - 2) word ≡ decimal o.entry =
    ap (λ n. take n word) at ∙ take-append_seam (decimal o.entry) (channel_mark o.channel) in
    let back : drop (length word - 2) word ≡ channel_mark o.channel =
    ap (λ n. drop n word) at ∙ drop-append_seam (decimal o.entry) (channel_mark o.channel) in
    rw (back, front, channel_again o.channel, number_again (2 ^ 32) o.entry below (omega arith)) refl

origin_present : (o : Origin) → bytes_eq (origin_word o) absent ≡ false
origin_present o =
    elim (cases_Bool (bytes_eq (origin_word o) absent)) [
      | inl same ↦
          let is : origin_word o ≡ absent = (bytes_eq-Decides (origin_word o) absent).0 same in
          let one : length (origin_word o) ≡ 1 = ap length is in
          let all = length-append (decimal o.entry) (channel_mark o.channel) in
          let two = length-channel_mark o.channel in
          absurd (omega arith)
      | inr differ ↦ differ
    ]

pub from_takes : (word : List ℕ) (from : Option Origin) → from_in word ≡ Some from
    → (word ≡ from_word from) × IsOrigin from
unfolding from_in
from_takes word from h =
    elim (word_or word absent (Some None) _ from h) [
      | inl same ↦ let is : None ≡ from = cc same.1 in rw (← is) (same.0, tt)
      | inr other ↦
          let (origin, ho, h1) = bind_some (origin_in word) _ from other in
          let is : Some origin ≡ from = cc h1 in
          let taken = origin_takes word origin ho in
          rw (← is) taken
    ]

pub from_again : (from : Option Origin) → IsOrigin from → from_in (from_word from) ≡ Some from
unfolding from_in
from_again None fits = refl
from_again (Some origin) fits = rw (origin_present origin, origin_again origin fits) refl

-- ---- offers and observations

pub offered_takes : (word : List ℕ) (o : Offered) → offered_in word ≡ Some o → (word ≡ offered_word o) × IsOffered o
unfolding offered_in
offered_takes word o h =
    elim (word_or word absent (Some offered.Nothing) _ o h) [
      | inl same ↦ let is : offered.Nothing ≡ o = cc same.1 in rw (← is) (same.0, tt)
      | inr h1 ↦
          elim (word_or word (codes "null") (Some offered.Null) _ o h1) [
            | inl same ↦ let is : offered.Null ≡ o = cc same.1 in rw (← is) (same.0, tt)
            | inr h2 ↦
                let (n, hn, h3) = bind_some (number_in (2 ^ 32) word) _ o h2 in
                let is : offered.Data n ≡ o = cc h3 in
                let taken = number_takes (2 ^ 32) word n hn in
                rw (← is) (sym taken.0, taken.1)
          ]
    ]

pub offered_again : (o : Offered) → IsOffered o → offered_in (offered_word o) ≡ Some o
unfolding offered_in
offered_again offered.Nothing fits = refl
offered_again offered.Null fits = refl
offered_again (offered.Data n) fits =
    let small : n < 2 ^ 64 = omega arith in
    rw (
      decimal_other n absent small refl,
      decimal_other n (codes "null") small refl,
      number_again (2 ^ 32) n fits (omega arith),
    ) refl

seen_bytes_takes : (word : List ℕ) (s : Seen) → seen_bytes_in word ≡ Some s → (word ≡ seen_word s) × IsSeen s
unfolding seen_bytes_in
seen_bytes_takes word s h =
    let (bytes, hb, h1) = bind_some (bytes_in 262 word) _ s h in
    let is : seen.Bytes (record { items = bytes }) ≡ s = cc h1 in
    let taken = bytes_takes 262 word bytes hb in
    rw (← is) (taken.0, (taken.1, taken.2))

pub seen_takes : (word : List ℕ) (s : Seen) → seen_in word ≡ Some s → (word ≡ seen_word s) × IsSeen s
unfolding seen_in
seen_takes word s h =
    elim (word_or word absent (Some seen.Silence) _ s h) [
      | inl same ↦ let is : seen.Silence ≡ s = cc same.1 in rw (← is) (same.0, tt)
      | inr h1 ↦
          elim (word_or word (codes "own") (Some seen.Own) _ s h1) [
            | inl same ↦ let is : seen.Own ≡ s = cc same.1 in rw (← is) (same.0, tt)
            | inr h2 ↦
                elim (word_or word (codes "conflict") (Some seen.Conflict) _ s h2) [
                  | inl same ↦ let is : seen.Conflict ≡ s = cc same.1 in rw (← is) (same.0, tt)
                  | inr h3 ↦
                      elim (word_or word (codes "noise") (Some seen.Noise) _ s h3) [
                        | inl same ↦ let is : seen.Noise ≡ s = cc same.1 in rw (← is) (same.0, tt)
                        | inr h4 ↦
                            elim (word_or word (codes "overrun") (Some seen.Overrun) _ s h4) [
                              | inl same ↦ let is : seen.Overrun ≡ s = cc same.1 in rw (← is) (same.0, tt)
                              | inr h5 ↦ seen_bytes_takes word s h5
                            ]
                      ]
                ]
          ]
    ]

pub seen_again : (s : Seen) → IsSeen s → seen_in (seen_word s) ≡ Some s
unfolding seen_in seen_bytes_in
seen_again seen.Silence fits = refl
seen_again seen.Own fits = refl
seen_again seen.Conflict fits = refl
seen_again seen.Noise fits = refl
seen_again seen.Overrun fits = refl
seen_again (seen.Bytes bytes) fits = rw (bytes_again 262 bytes.items fits.1 fits.0) refl
