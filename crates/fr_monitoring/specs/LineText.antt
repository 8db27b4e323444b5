-- The text of a line that is told of a recording (project-defined).
use Rattle.std.specs.Prelude.{ℕ, ◌+◌, ◌/◌, ◌%◌, ◌^◌, nat_lt, Bool, true, false, List, [], ◌∷◌, ◌++◌, codes, Option}
use Rattle.std.specs.Prelude.{Some, None}
use Rattle.std.specs.Prelude.{if◌then◌else◌, ℤ, pos, int_lt, unsigned_abs}
use Rattle.std.specs.Fmt.{decimal, signed_decimal, sign_text}
use Rattle.std.specs.List.{flat_map}
use Rattle.fr_slots.specs.Admission.{letter_of}
use Rattle.fr_logged.specs.declared.finding.Finding.{Finding}
use Rattle.fr_logged.specs.declared.finding.Letters.{Letters}
use Rattle.fr_logged.specs.declared.finding.Name.{Name}
use Rattle.fr_logged.specs.declared.finding.Name.TheVariants as name
use Rattle.fr_logged.specs.declared.finding.Place.{Place}
use Rattle.fr_logged.specs.declared.finding.Word.{Word}
use Rattle.fr_logged.specs.declared.finding.Word.TheVariants as word
use Rattle.fr_judging.specs.declared.line.At.{At}
use Rattle.fr_judging.specs.declared.line.Line.{Line}
use Rattle.fr_judging.specs.declared.line.Line.TheVariants as line

-- ---- digits

abbrev pub decimal_digit : ℕ → ℕ → ℕ
decimal_digit n worth = 48 + n / worth % 10

abbrev pub nine_digits : ℕ → List ℕ
nine_digits n =
    decimal_digit n 100000000 ∷ decimal_digit n 10000000 ∷ decimal_digit n 1000000 ∷ decimal_digit n 100000
    ∷ decimal_digit n 10000 ∷ decimal_digit n 1000 ∷ decimal_digit n 100 ∷ decimal_digit n 10 ∷ decimal_digit n 1 ∷ []

abbrev pub hex_glyph : ℕ → ℕ
hex_glyph d = if nat_lt d 10 then 48 + d else 87 + d

abbrev pub hex_digit : ℕ → ℕ → ℕ
hex_digit n worth = hex_glyph (n / worth % 16)

abbrev pub three_digits : ℕ → List ℕ
three_digits n = hex_digit n 0x100 ∷ hex_digit n 0x10 ∷ hex_digit n 1 ∷ []

abbrev pub six_digits : ℕ → List ℕ
six_digits n =
    hex_digit n 0x100000 ∷ hex_digit n 0x10000 ∷ hex_digit n 0x1000 ∷ hex_digit n 0x100 ∷ hex_digit n 0x10
    ∷ hex_digit n 1 ∷ []

-- ---- words

abbrev pub name_word : Name → List ℕ
name_word name.Cut = codes "Cut"
name_word name.LoggedCoding = codes "LoggedCoding"
name_word name.LoggedStart = codes "LoggedStart"
name_word name.LoggedHeader = codes "LoggedHeader"
name_word name.LoggedEnd = codes "LoggedEnd"
name_word name.LoggedFrame = codes "LoggedFrame"
name_word name.Length = codes "Length"
name_word name.HeaderCrc = codes "HeaderCrc"
name_word name.FrameCrc = codes "FrameCrc"
name_word name.Slot = codes "Slot"
name_word name.Cycle = codes "Cycle"
name_word name.Order = codes "Order"
name_word name.Nobody = codes "Nobody"
name_word name.Words = codes "Words"
name_word name.Bits = codes "Bits"
name_word name.NullFrame = codes "NullFrame"
name_word name.NoBuffer = codes "NoBuffer"
name_word name.Preamble = codes "Preamble"
name_word name.Channels = codes "Channels"
name_word name.Closed = codes "Closed"
name_word name.Late = codes "Late"
name_word name.Missing = codes "Missing"
name_word name.Gap = codes "Gap"
name_word name.Clock = codes "Clock"
name_word name.Time = codes "Time"
name_word name.Silent = codes "Silent"
name_word name.Symbol = codes "Symbol"
name_word name.Nothing = codes "Nothing"

-- a number, or a dash for none
unfoldable pub optional_text : Option ℕ → List ℕ
optional_text None = codes "-"
optional_text (Some n) = decimal n

-- the indicators, each as a letter or a dash; `n` is a null frame
abbrev pub letter_if : Bool → ℕ → ℕ
letter_if true letter = letter
letter_if false letter = 45

abbrev pub dash_if : Bool → ℕ → ℕ
dash_if true letter = 45
dash_if false letter = letter

abbrev pub letters_text : Letters → List ℕ
letters_text l = letter_if l.preamble 112 ∷ dash_if l.has_data 110 ∷ letter_if l.sync 115 ∷ letter_if l.startup 117 ∷ []

unfoldable pub word_text : Word → List ℕ
word_text word.Absent = codes "-"
word_text (word.Number n) = signed_decimal n
word_text (word.HeaderCrc n) = codes "x" ++ three_digits n
word_text (word.FrameCrc n) = codes "x" ++ six_digits n
word_text (word.Letters letters) = letters_text letters

-- seconds with nine decimals
abbrev pub time_text : ℤ → List ℕ
time_text t = sign_text (int_lt t (pos 0)) ++ decimal (unsigned_abs t / 10 ^ 9) ++ codes "." ++ nine_digits
    (unsigned_abs t % 10 ^ 9)

unfoldable pub seconds_text : Option ℤ → List ℕ
seconds_text None = codes "-"
seconds_text (Some t) = time_text t

-- the record that shows something, or two dashes for the end of the input
unfoldable pub at_text : Option At → List ℕ
at_text None = codes "- -"
at_text (Some at) = decimal at.number ++ codes " " ++ seconds_text at.time

unfoldable pub place_text : Place → List ℕ
place_text p = optional_text p.cycle ++ codes " " ++ letter_of p.channel ++ codes " " ++ optional_text p.slot

-- ---- lines

unfoldable pub finding_text : Finding → List ℕ
finding_text f = name_word f.name ++ codes " " ++ word_text f.expected ++ codes " " ++ word_text f.found

unfoldable pub times_text : ℕ → ℕ → List ℕ
times_text node times = codes " " ++ decimal node ++ codes " " ++ decimal times ++ 10 ∷ []

unfoldable pub line_text : Line → List ℕ
line_text (line.Finding at place f) =
    codes "finding " ++ at_text at ++ codes " " ++ place_text place ++ codes " " ++ finding_text f ++ 10 ∷ []
line_text (line.Back at place node times) =
    codes "back " ++ at_text (Some at) ++ codes " " ++ place_text place ++ times_text node times

abbrev pub lines_text : List Line → List ℕ
lines_text lines = flat_map line_text lines
