-- The spelling of the parts of a line. Std's `decimal` defines the spelling of a number.
use Rattle.std.specs.Prelude.{ℕ, ◌++◌, Bool, true, false, not, List, codes, Option, Some, None, if◌then◌else◌}
use Rattle.std.specs.Fmt.{decimal}
use Rattle.fr_frame.specs.Fields.{Fields}
use Rattle.fr_journal.specs.declared.entry.Offered.{Offered}
use Rattle.fr_journal.specs.declared.entry.Offered.TheVariants as offered
use Rattle.fr_journal.specs.declared.entry.Origin.{Origin}
use Rattle.fr_slots.specs.declared.channel.Channel.{Channel}
use Rattle.fr_slots.specs.declared.channel.Channel.TheVariants as channel
use Rattle.fr_slots.specs.declared.channel.Channels.{Channels}
use Rattle.fr_slots.specs.declared.channel.Channels.TheVariants as channels
use Rattle.fr_status.specs.Forms.{Seen}
use Rattle.fr_status.specs.declared.seen.Seen.TheVariants as seen
use Rattle.fr_text.specs.Spelling.{hex_text}

-- the word that stands for nothing
abbrev pub absent : List ℕ
absent = codes "-"

abbrev pub flag_word : Bool → List ℕ
flag_word true = codes "1"
flag_word false = codes "0"

abbrev pub optional_number : Option ℕ → List ℕ
optional_number None = absent
optional_number (Some n) = decimal n

-- ---- channels

abbrev pub channels_word : Channels → List ℕ
channels_word channels.A = codes "A"
channels_word channels.B = codes "B"
channels_word channels.Both = codes "AB"

-- after the number of an entry
abbrev pub channel_mark : Channel → List ℕ
channel_mark channel.A = codes ":A"
channel_mark channel.B = codes ":B"

-- ---- origins of frames, offers and observations

abbrev pub origin_word : Origin → List ℕ
origin_word origin = decimal origin.entry ++ channel_mark origin.channel

abbrev pub from_word : Option Origin → List ℕ
from_word None = absent
from_word (Some origin) = origin_word origin

abbrev pub offered_word : Offered → List ℕ
offered_word offered.Nothing = absent
offered_word offered.Null = codes "null"
offered_word (offered.Data commit) = decimal commit

abbrev pub seen_word : Seen → List ℕ
seen_word seen.Silence = absent
seen_word seen.Own = codes "own"
seen_word seen.Conflict = codes "conflict"
seen_word seen.Noise = codes "noise"
seen_word seen.Overrun = codes "overrun"
seen_word (seen.Bytes bytes) = hex_text bytes.items

-- ---- frames

-- a letter for an indicator that is set, and a dash for one that isn't
abbrev pub mark : List ℕ → Bool → List ℕ
mark letter is_so = if is_so then letter else codes "-"

-- payload preamble, null frame, sync frame, startup frame
unfoldable pub indicators : Fields → List ℕ
indicators f =
    mark (codes "p") f.preamble ++ mark (codes "n") (not f.has_data) ++ mark (codes "s") f.sync
    ++ mark (codes "u") f.startup
