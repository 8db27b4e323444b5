-- The parts of a capture file, each as a function of its bytes (project-defined).
use Rattle.std.specs.Prelude.{ℕ, ◌+◌, ◌*◌, ◌%◌, ◌^◌, nat_lt, nat_le, ◌==◌, ◌&&◌, ◌||◌, not, Bool, true, false}
use Rattle.std.specs.Prelude.{min, List, length, slice_get, slice_index, ℤ, pos, if◌then◌else◌}
use Rattle.std.specs.Prelude.{Option, Some, None}
use Rattle.std.specs.Option.{is_none}
use Rattle.std.specs.Int.{w64, cast_signed}
use Rattle.fr_recording.specs.Numbers.{short, long, longer, padded, most_captured}
use Rattle.fr_recording.specs.Times.{time_of}
use Rattle.fr_recording.specs.declared.heads.Magic.{Magic}
use Rattle.fr_recording.specs.declared.heads.Magic.TheVariants.{Classic, Sections, Unknown}
use Rattle.fr_recording.specs.declared.numbers.Order.{Order}
use Rattle.fr_recording.specs.declared.numbers.Order.TheVariants.{LowFirst, HighFirst}
use Rattle.fr_recording.specs.declared.phase.Head.{Head}
use Rattle.fr_recording.specs.declared.source.Source.{Source}

-- ---- the first four bytes

abbrev pub section_type : ℕ
section_type = 0x0A0D0D0A

-- A classic file has records with seconds and parts of them, which are microseconds or nanoseconds. The order of bytes
-- shows in the magic number. The type of a section is the same in both orders.
abbrev pub magic_in : List ℕ → Magic
magic_in bytes =
    if long LowFirst 0 bytes == 0xA1B2C3D4 then Classic LowFirst 1000
    else if long HighFirst 0 bytes == 0xA1B2C3D4 then Classic HighFirst 1000
    else if long LowFirst 0 bytes == 0xA1B23C4D then Classic LowFirst 1
    else if long HighFirst 0 bytes == 0xA1B23C4D then Classic HighFirst 1
    else if long LowFirst 0 bytes == section_type then Sections
    else Unknown

-- ---- classic files

-- the link type of a file, in the rest of its header after the magic number
abbrev pub link_in : Order → List ℕ → ℕ
link_in order bytes = long order 16 bytes % 65536

-- The head of a record: seconds and parts of them, captured bytes, and bytes that there were. None if more bytes are
-- captured than may be.
abbrev pub record_head : Order → ℕ → ℕ → List ℕ → Option Head
record_head order scale link bytes =
    if nat_lt most_captured (long order 8 bytes) then None
    else Some (record {
      time = Some (pos (long order 0 bytes * 10 ^ 9 + long order 4 bytes * scale));
      link = link;
      captured = long order 8 bytes;
      original = long order 12 bytes;
    })

-- ---- blocks

-- the least length of a block, by its type
abbrev pub least_length : ℕ → ℕ
least_length kind =
    if kind == section_type then 28
    else if kind == 1 then 20
    else if kind == 2 then 32
    else if kind == 3 then 16
    else if kind == 6 then 32
    else 12

abbrev pub is_length_of : ℕ → ℕ → Bool
is_length_of kind count = nat_le (least_length kind) count && count % 4 == 0

-- the order of bytes in a section, by its byte-order mark
abbrev pub order_in : List ℕ → Option Order
order_in bytes =
    if long LowFirst 0 bytes == 0x1A2B3C4D then Some LowFirst
    else if long HighFirst 0 bytes == 0x1A2B3C4D then Some HighFirst
    else None

-- ---- the description of a source

-- the link type, and the most bytes that the source captures of a record (0 without a limit)
abbrev pub source_in : Order → List ℕ → Source
source_in order bytes = record {
  link = short order 0 bytes;
  snap = long order 4 bytes;
  resolution = None;
  offset = None;
}

-- the first option of a kind counts, and one of a wrong size doesn't
abbrev pub with_option : Order → ℕ → List ℕ → Source → Source
with_option order code value s =
    if code == 9 && (length value == 1 && is_none s.resolution) then record {
      link = s.link;
      snap = s.snap;
      resolution = Some (slice_index value 0);
      offset = s.offset;
    }
    else if code == 14 && (length value == 8 && is_none s.offset) then record {
      link = s.link;
      snap = s.snap;
      resolution = s.resolution;
      offset = Some (cast_signed w64 (longer order 0 value));
    }
    else s

-- ---- the head of a packet

-- the number of the source: two bytes in an obsolete packet, and four in an enhanced one
abbrev pub source_number : Order → Bool → List ℕ → ℕ
source_number order true bytes = short order 0 bytes
source_number order false bytes = long order 0 bytes

-- So many bytes may be captured in a block that has so many bytes left.
abbrev pub is_captured_in : ℕ → ℕ → Bool
is_captured_in room captured = nat_le (padded captured) room && nat_le captured most_captured

abbrev pub packet_time : Order → List ℕ → Source → ℤ
packet_time order bytes source = time_of source (long order 4 bytes * 2 ^ 32 + long order 8 bytes)

abbrev pub packet_of : Order → ℕ → List ℕ → Option Source → Option Head
packet_of order room bytes None = None
packet_of order room bytes (Some source) =
    if is_captured_in room (long order 12 bytes) then Some (record {
      time = Some (packet_time order bytes source);
      link = source.link;
      captured = long order 12 bytes;
      original = long order 16 bytes;
    })
    else None

-- The head of an enhanced or an obsolete packet, with so many bytes left in its block after it. None if there is no
-- such source, or if the captured bytes don't fit.
abbrev pub packet_head : Order → Bool → List Source → ℕ → List ℕ → Option Head
packet_head order obsolete sources room bytes =
    packet_of order room bytes (slice_get sources (source_number order obsolete bytes))

-- the front of such a head shows that there is none
abbrev pub is_bad_front : Order → Bool → List Source → ℕ → List ℕ → Bool
is_bad_front order obsolete sources room bytes =
    (nat_le 4 (length bytes) && is_none (slice_get sources (source_number order obsolete bytes)))
    || (nat_le 16 (length bytes) && not (is_captured_in room (long order 12 bytes)))

-- the bytes that a source captures of so many
abbrev pub captured_of : ℕ → ℕ → ℕ
captured_of snap original = if snap == 0 then original else min original snap

abbrev pub simple_of : ℕ → ℕ → Option Source → Option Head
simple_of room original None = None
simple_of room original (Some source) =
    if is_captured_in room (captured_of source.snap original) then Some (record {
      time = None;
      link = source.link;
      captured = captured_of source.snap original;
      original = original;
    })
    else None

-- The head of a simple packet, which is of the first source and has no time.
abbrev pub simple_head : Order → List Source → ℕ → List ℕ → Option Head
simple_head order sources room bytes = simple_of room (long order 0 bytes) (slice_get sources 0)
