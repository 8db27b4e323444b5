-- A record of link type 210: a byte with the channel and the kind; of a frame a byte of flags that the logger set, and
-- then the bytes of the frame, with the three bytes of its trailer or without them (project-defined).
use Rattle.std.specs.Prelude.{ℕ, ◌+◌, ◌-◌, ◌*◌, ◌%◌, nat_lt, nat_le, ◌==◌, Bool}
use Rattle.std.specs.Prelude.{if◌then◌else◌, List, [], ◌∷◌, length, take, drop, Option, Some, None, slice_index}
use Rattle.std.specs.Prelude.{Result, Ok, Err}
use Rattle.std.specs.Int.{bit_at}
use Rattle.fr_frame.specs.Bits.{bits_of_bytes, number_of}
use Rattle.fr_frame.specs.Crc.{frame_check}
use Rattle.fr_frame.specs.Fields.{Fields}
use Rattle.fr_slots.specs.declared.channel.Channel.{Channel}
use Rattle.fr_slots.specs.declared.channel.Channel.TheVariants.{A, B}
use Rattle.fr_logged.specs.Findings.{bare, with_numbers, number_word}
use Rattle.fr_logged.specs.Headers.{header_in, right_crc}
use Rattle.fr_logged.specs.declared.finding.Finding.{Finding}
use Rattle.fr_logged.specs.declared.finding.Name.{Name}
use Rattle.fr_logged.specs.declared.finding.Name.TheVariants as name
use Rattle.fr_logged.specs.declared.finding.Place.{Place}
use Rattle.fr_logged.specs.declared.finding.Word.TheVariants.{Absent, HeaderCrc, FrameCrc}
use Rattle.fr_logged.specs.declared.frame.Header.{Header}
use Rattle.fr_logged.specs.declared.record.Kind.{Kind}
use Rattle.fr_logged.specs.declared.record.Kind.TheVariants.{Foreign, Symbol, Frame}

-- ---- the kind of a record

abbrev pub channel_in : ℕ → Channel
channel_in b = if nat_le 128 b then B else A

abbrev pub kind_by : ℕ → Kind
kind_by b =
    if b % 128 == 1 then Frame (channel_in b)
    else if b % 128 == 2 then Symbol (channel_in b)
    else Foreign

-- records of other link types and empty ones are foreign
abbrev pub kind_of : ℕ → List ℕ → Kind
kind_of link [] = Foreign
kind_of link (b ∷ bytes) = if link == 210 then kind_by b else Foreign

-- ---- a frame

abbrev pub is_set : ℕ → ℕ → Bool
is_set place flags = bit_at flags place == 1

-- the first flag that the logger set, in this order
abbrev pub logged_by : ℕ → Option Name
logged_by flags =
    if is_set 1 flags then Some name.LoggedCoding
    else if is_set 0 flags then Some name.LoggedStart
    else if is_set 3 flags then Some name.LoggedHeader
    else if is_set 2 flags then Some name.LoggedEnd
    else if is_set 4 flags then Some name.LoggedFrame
    else None

abbrev pub logged_in : List ℕ → Option Name
logged_in bytes = if nat_lt (length bytes) 2 then None else logged_by (slice_index bytes 1)

abbrev pub cut : ℕ → ℕ → Finding
cut original captured = with_numbers name.Cut original captured

-- the header is whole, and its number of bytes is that of the record
abbrev pub length_finding : ℕ → ℕ → Option Finding
length_finding due there =
    if there == due then None else if there == due + 3 then None else Some (with_numbers name.Length due there)

abbrev pub header_finding : ℕ → ℕ → Option Finding
header_finding right found =
    if found == right then None
    else Some (record { name = name.HeaderCrc; expected = HeaderCrc right; found = HeaderCrc found })

abbrev pub trailer_finding : ℕ → ℕ → Option Finding
trailer_finding right found =
    if found == right then None
    else Some (record { name = name.FrameCrc; expected = FrameCrc right; found = FrameCrc found })

-- the number in the last three bytes, and the one that must stand there
abbrev pub trailer_of : List ℕ → ℕ
trailer_of bytes = number_of (bits_of_bytes (drop (length bytes - 3) bytes))

abbrev pub right_trailer : Channel → List ℕ → ℕ
right_trailer channel bytes = number_of (frame_check channel (take (length bytes - 3) bytes))

-- the trailer is looked at where it is there
abbrev pub frame_finding : Channel → ℕ → List ℕ → Option Finding
frame_finding channel words bytes =
    if length bytes == 5 + 2 * words then None
    else trailer_finding (right_trailer channel bytes) (trailer_of bytes)

abbrev pub fields_by : Header → List ℕ → Fields
fields_by h bytes = record {
  preamble = h.preamble;
  has_data = h.has_data;
  sync = h.sync;
  startup = h.startup;
  id = h.id;
  payload = take (2 * h.words) (drop 5 bytes);
  cycle = h.cycle;
}

abbrev pub or_else : {X : Type 0} → Option Finding → Result X Finding → Result X Finding
or_else None r = r
or_else (Some finding) r = Err finding

-- the frame that these bytes spell on the channel, at least five
abbrev pub frame_by : Channel → Header → List ℕ → Result Fields Finding
frame_by channel h bytes =
    or_else (length_finding (7 + 2 * h.words) (length bytes + 2))
    (or_else (header_finding (right_crc bytes) h.crc)
    (or_else (frame_finding channel h.words bytes)
    (Ok (fields_by h bytes))))

abbrev pub spelled_in : Channel → List ℕ → Result Fields Finding
spelled_in channel bytes =
    if nat_lt (length bytes) 7 then Err (record {
      name = name.Length;
      expected = Absent;
      found = number_word (length bytes);
    })
    else frame_by channel (header_in (drop 2 bytes)) (drop 2 bytes)

abbrev pub unless_logged : Option Name → Result Fields Finding → Result Fields Finding
unless_logged None r = r
unless_logged (Some name) r = Err (bare name)

-- The frame that a record of a frame spells on the channel, with so many bytes that there were. Or the first finding.
abbrev pub spelled : Channel → ℕ → List ℕ → Result Fields Finding
spelled channel original bytes =
    if nat_lt (length bytes) original then Err (cut original (length bytes))
    else unless_logged (logged_in bytes) (spelled_in channel bytes)

-- ---- the place of a record

abbrev pub place_by : Channel → Header → Place
place_by channel h = record { cycle = Some h.cycle; channel = channel; slot = Some h.id }

-- what the header says, if it is whole
abbrev pub place_in : Channel → List ℕ → Place
place_in channel bytes =
    if nat_lt (length bytes) 7 then record { cycle = None; channel = channel; slot = None }
    else place_by channel (header_in (drop 2 bytes))

abbrev pub place_of : Channel → Fields → Place
place_of channel f = record { cycle = Some f.cycle; channel = channel; slot = Some f.id }
