-- A word is the spelling of at most one part of a plan's line, or of at most one payload.
use Rattle.std.proofs.Common.{◌≡◌, ℕ, ◌<◌, ◌≢◌, ◌%◌, ◌^◌, ◌==◌, ◌⊎◌, inl, inr, Bool, true, false, List, length, codes}
use Rattle.std.proofs.Common.{Option, Some, None, refl, sym, ap, ◌∙◌, arith, ltb}
use Rattle.std.proofs.lemmas.Bool.{cases_Bool, eqb-false, le-leb, le-ltb, leb-true}
use Rattle.std.specs.Fmt.{decimal}
use Rattle.fr_frame.specs.Payload.{IsPayload}
use Rattle.fr_journal.specs.Entries.{AreBytes}
use Rattle.fr_lines.proofs.PartLemmas.{word_or, slot_takes, slot_again, channels_takes, channels_again, cycles_takes}
use Rattle.fr_lines.proofs.PartLemmas.{cycles_again}
use Rattle.fr_lines.specs.PartReading.{slot_in, channels_in, cycles_in, filter_in, flag_in, mode_in, size_in}
use Rattle.fr_lines.specs.PartReading.{payload_in, payload_from}
use Rattle.fr_lines.specs.Parts.{absent, flag_word, optional_number, channels_word}
use Rattle.fr_slots.specs.declared.filter.Filter.{Filter}
use Rattle.fr_slots.specs.declared.plan.Mode.{Mode}
use Rattle.fr_slots.specs.declared.plan.Mode.TheVariants.{Event, State}
use Rattle.fr_slots.specs.Plans.{IsFilter, words_fit}
use Rattle.fr_text.proofs.BindLemmas.{bind_some}
use Rattle.fr_text.proofs.HexTextLemmas.{bytes_takes, bytes_again}
use Rattle.fr_text.proofs.NumberLemmas.{number_takes, number_again, decimal_other}
use Rattle.fr_text.specs.Reading.{number_in, bytes_in}
use Rattle.fr_text.specs.Spelling.{hex_text}

-- ---- slot, channels and cycles

-- these words are those of the filter
pub record AreFilterWords (slot channels base repetition : List ℕ) (f : Filter) : Type 0 where
  pub slot_is : slot ≡ decimal f.slot
  pub channels_is : channels ≡ channels_word f.channels
  pub base_is : base ≡ decimal f.cycles.base
  pub repetition_is : repetition ≡ decimal f.cycles.repetition
  pub fits : IsFilter f

pub filter_takes : (slot channels base repetition : List ℕ) (f : Filter)
    → filter_in slot channels base repetition ≡ Some f → AreFilterWords slot channels base repetition f
unfolding filter_in
filter_takes slot channels base repetition f h =
    let (s, hs, h1) = bind_some (slot_in slot) _ f h in
    let (c, hc, h2) = bind_some (channels_in channels) _ f h1 in
    let (cycles, hy, h3) = bind_some (cycles_in base repetition) _ f h2 in
    let is : record { slot = s; channels = c; cycles = cycles } ≡ f = cc h3 in
    let ts = slot_takes slot s hs in
    let ty = cycles_takes base repetition cycles hy in
    rw (← is) (record {
      slot_is = ts.0;
      channels_is = channels_takes channels c hc;
      base_is = ty.0;
      repetition_is = ty.1;
      fits = record { slot_is = ts.1; cycles_are = ty.2 };
    })

pub filter_again : (f : Filter) → IsFilter f
    → filter_in (decimal f.slot) (channels_word f.channels) (decimal f.cycles.base) (decimal f.cycles.repetition)
    ≡ Some f
unfolding filter_in
filter_again f fits =
    rw (slot_again f.slot fits.slot_is, channels_again f.channels, cycles_again f.cycles fits.cycles_are) refl

-- ---- flags and modes

pub flag_takes : (word : List ℕ) (b : Bool) → flag_in word ≡ Some b → word ≡ flag_word b
unfolding flag_in
flag_takes word b h =
    elim (word_or word (codes "1") (Some true) _ b h) [
      | inl same ↦ let is : true ≡ b = cc same.1 in same.0 ∙ ap flag_word is
      | inr h1 ↦
          elim (word_or word (codes "0") (Some false) _ b h1) [
            | inl same ↦ let is : false ≡ b = cc same.1 in same.0 ∙ ap flag_word is
            | inr h2 ↦ cc h2
          ]
    ]

pub flag_again : (b : Bool) → flag_in (flag_word b) ≡ Some b
unfolding flag_in
flag_again true = refl
flag_again false = refl

pub mode_takes : (word : List ℕ) (m : Mode) → mode_in word ≡ Some m
    → ((word ≡ codes "event") × (m ≡ Event)) ⊎ ((word ≡ codes "state") × (m ≡ State))
unfolding mode_in
mode_takes word m h =
    elim (word_or word (codes "event") (Some Event) _ m h) [
      | inl same ↦ inl (same.0, cc same.1)
      | inr h1 ↦
          elim (word_or word (codes "state") (Some State) _ m h1) [
            | inl same ↦ inr (same.0, cc same.1)
            | inr h2 ↦ cc h2
          ]
    ]

pub mode_again : (mode_in (codes "event") ≡ Some Event) × (mode_in (codes "state") ≡ Some State)
unfolding mode_in
mode_again = (refl, refl)

-- ---- words of two bytes

pub size_takes : (word : List ℕ) (o : Option ℕ) → size_in word ≡ Some o
    → (word ≡ optional_number o) × (words_fit o ≡ true)
unfolding size_in
size_takes word o h =
    elim (word_or word absent (Some None) _ o h) [
      | inl same ↦ let is : None ≡ o = cc same.1 in rw (← is) (same.0, refl)
      | inr h1 ↦
          let (n, hn, h2) = bind_some (number_in 128 word) _ o h1 in
          let is : Some n ≡ o = cc h2 in
          let taken = number_takes 128 word n hn in
          let few = taken.1 in
          rw (← is) (sym taken.0, le-leb n 127 (omega arith))
    ]

pub size_again : (o : Option ℕ) → words_fit o ≡ true → size_in (optional_number o) ≡ Some o
unfolding size_in
size_again None fits = refl
size_again (Some n) fits =
    let few = leb-true n 127 fits in
    let small : n < 2 ^ 64 = omega arith in
    rw (decimal_other n absent small refl, number_again 128 n (omega arith) (omega arith)) refl

-- ---- payloads

payload_from_takes : (bytes p : List ℕ) → payload_from bytes ≡ Some p → (bytes ≡ p) × (length bytes % 2 ≡ 0)
payload_from_takes bytes p h =
    elim (cases_Bool (ltb 254 (length bytes))) [
      | inl long ↦ cc (rw long at h)
      | inr short ↦
          let h1 = rw short at h in
          elim (cases_Bool (length bytes % 2 == 1)) [
            | inl odd ↦ cc (rw odd at h1)
            | inr even ↦
                let other : length bytes % 2 ≢ 1 = eqb-false (length bytes % 2) 1 even in
                (cc (rw even at h1), omega arith)
          ]
    ]

pub payload_takes : (word p : List ℕ) → payload_in word ≡ Some p → (word ≡ hex_text p) × IsPayload p × AreBytes p
unfolding payload_in
payload_takes word p h =
    let (bytes, hb, h1) = bind_some (bytes_in 254 word) _ p h in
    let taken = bytes_takes 254 word bytes hb in
    let made = payload_from_takes bytes p h1 in
    rw (← made.0) (taken.0, record { short = taken.1; even = made.1 }, taken.2)

pub payload_again : (p : List ℕ) → IsPayload p → AreBytes p → payload_in (hex_text p) ≡ Some p
unfolding payload_in
payload_again p is bytes = rw (bytes_again 254 p bytes is.short, le-ltb 254 (length p) is.short, is.even) refl
