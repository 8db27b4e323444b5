-- The words of a line are plain, and have few bytes.
use Rattle.std.proofs.Common.{◌≡◌, ℕ, ◌<◌, ◌≤◌, ◌^◌, Bool, true, false, List, length, Option, Some, None, refl, arith}
use Rattle.std.proofs.Common.{length-append}
use Rattle.std.proofs.lemmas.Bool.{leb-true}
use Rattle.std.proofs.lemmas.Fmt.{length-decimal-le}
use Rattle.std.specs.Fmt.{decimal}
use Rattle.std.specs.Prelude.{IfSome}
use Rattle.fr_journal.specs.declared.entry.Offered.{Offered}
use Rattle.fr_journal.specs.declared.entry.Offered.TheVariants as offered
use Rattle.fr_journal.specs.declared.entry.Origin.{Origin}
use Rattle.fr_journal.specs.Entries.{IsOrigin, IsOffered, IsSeen}
use Rattle.fr_lines.specs.Parts.{flag_word, optional_number, channels_word, channel_mark, from_word, offered_word}
use Rattle.fr_lines.specs.Parts.{seen_word}
use Rattle.fr_slots.specs.declared.channel.Channel.{Channel}
use Rattle.fr_slots.specs.declared.channel.Channel.TheVariants as channel
use Rattle.fr_slots.specs.declared.channel.Channels.{Channels}
use Rattle.fr_slots.specs.declared.channel.Channels.TheVariants as channels
use Rattle.fr_slots.specs.Plans.{words_fit}
use Rattle.fr_slots.specs.Windows.{IsSlotOrNone}
use Rattle.fr_status.specs.Forms.{Seen}
use Rattle.fr_status.specs.declared.seen.Seen.TheVariants as seen
use Rattle.fr_text.proofs.HexTextLemmas.{length-hex_text}
use Rattle.fr_text.proofs.PlainLemmas.{IsPlain-decimal, IsPlain-hex_text, IsPlain-append}
use Rattle.fr_text.specs.Plain.{IsPlain}
use Rattle.fr_text.specs.Spelling.{hex_text}

-- a plain word of at most `most` bytes
pub record IsWord (most : ℕ) (word : List ℕ) : Type 0 where
  pub plain : IsPlain word
  pub short : length word ≤ most

pub number_word : (digits n : ℕ) → 0 < digits → n < 10 ^ digits → n < 2 ^ 64 → IsWord digits (decimal n)
number_word digits n some few small =
    record { plain = IsPlain-decimal n small; short = length-decimal-le digits n some few small }

-- a number of 32 bits
pub long_word : (n : ℕ) → n < 2 ^ 32 → IsWord 10 (decimal n)
long_word n below = number_word 10 n (omega arith) (omega arith) (omega arith)

pub slot_word : (o : Option ℕ) → IsSlotOrNone o → IsWord 4 (optional_number o)
slot_word None fits = record { plain = refl; short = omega arith }
slot_word (Some slot) fits = number_word 4 slot (omega arith) (omega arith) (omega arith)

pub channels_plain : (c : Channels) → IsWord 2 (channels_word c)
channels_plain channels.A = record { plain = refl; short = omega arith }
channels_plain channels.B = record { plain = refl; short = omega arith }
channels_plain channels.Both = record { plain = refl; short = omega arith }

pub flag_plain : (b : Bool) → IsWord 1 (flag_word b)
flag_plain true = record { plain = refl; short = omega arith }
flag_plain false = record { plain = refl; short = omega arith }

-- at most 127 two-byte words, or none stated
pub size_word : (o : Option ℕ) → words_fit o ≡ true → IsWord 3 (optional_number o)
size_word None fits = record { plain = refl; short = omega arith }
size_word (Some n) fits =
    let few = leb-true n 127 fits in
    number_word 3 n (omega arith) (omega arith) (omega arith)

pub payload_word : (p : List ℕ) → length p ≤ 254 → IsWord 509 (hex_text p)
payload_word p few =
    let digits = length-hex_text p in
    record { plain = IsPlain-hex_text p; short = omega arith }

pub taken_back_plain : (o : Option ℕ) → IfSome o (λ n. n < 2 ^ 32) → IsWord 10 (optional_number o)
taken_back_plain None fits = record { plain = refl; short = omega arith }
taken_back_plain (Some n) fits = long_word n fits

mark_word : (c : Channel) → IsWord 2 (channel_mark c)
mark_word channel.A = record { plain = refl; short = omega arith }
mark_word channel.B = record { plain = refl; short = omega arith }

pub from_plain : (from : Option Origin) → IsOrigin from → IsWord 12 (from_word from)
from_plain None fits = record { plain = refl; short = omega arith }
from_plain (Some origin) fits =
    let number = long_word origin.entry fits in
    let mark = mark_word origin.channel in
    let all = length-append (decimal origin.entry) (channel_mark origin.channel) in
    let digits = number.short in
    let two = mark.short in
    record {
      plain = IsPlain-append (decimal origin.entry) (channel_mark origin.channel) number.plain mark.plain;
      short = omega arith;
    }

pub offered_plain : (o : Offered) → IsOffered o → IsWord 10 (offered_word o)
offered_plain offered.Nothing fits = record { plain = refl; short = omega arith }
offered_plain offered.Null fits = record { plain = refl; short = omega arith }
offered_plain (offered.Data n) fits = long_word n fits

pub seen_plain : (s : Seen) → IsSeen s → IsWord 525 (seen_word s)
seen_plain seen.Silence fits = record { plain = refl; short = omega arith }
seen_plain seen.Own fits = record { plain = refl; short = omega arith }
seen_plain seen.Conflict fits = record { plain = refl; short = omega arith }
seen_plain seen.Noise fits = record { plain = refl; short = omega arith }
seen_plain seen.Overrun fits = record { plain = refl; short = omega arith }
seen_plain (seen.Bytes bytes) fits =
    let digits = length-hex_text bytes.items in
    let few = fits.0 in
    record { plain = IsPlain-hex_text bytes.items; short = omega arith }
