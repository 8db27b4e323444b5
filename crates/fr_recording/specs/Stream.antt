-- The reading of a capture file, byte by byte: its records, and the refusal with the place of the record or block that
-- is at fault.
use Rattle.std.specs.Prelude.{ℕ, ◌-◌, nat_lt, ◌==◌, Bool, true, false, if◌then◌else◌}
use Rattle.std.specs.Prelude.{List, [], ◌∷◌, ◌++◌, length, take, Option, Some, None}
use Rattle.std.specs.Prelude.{option_map, option_to_list}
use Rattle.std.specs.List.{fold}
use Rattle.fr_recording.specs.Captures.{magic_in, link_in, record_head, is_length_of, order_in, source_in, with_option}
use Rattle.fr_recording.specs.Captures.{packet_head, is_bad_front, simple_head, section_type}
use Rattle.fr_recording.specs.Numbers.{short, long, padded, counted, most_sources}
use Rattle.fr_recording.specs.Records.{Record}
use Rattle.fr_recording.specs.declared.heads.Magic.{Magic}
use Rattle.fr_recording.specs.declared.heads.Magic.TheVariants.{Classic, Sections, Unknown}
use Rattle.fr_recording.specs.declared.numbers.Order.{Order}
use Rattle.fr_recording.specs.declared.numbers.Order.TheVariants.{LowFirst, HighFirst}
use Rattle.fr_recording.specs.declared.phase.Block.{Block}
use Rattle.fr_recording.specs.declared.phase.Head.{Head}
use Rattle.fr_recording.specs.declared.phase.Phase.{Phase}
use Rattle.fr_recording.specs.declared.phase.Phase.TheVariants.{Start, FileHeader, RecordHeader, RecordBytes}
use Rattle.fr_recording.specs.declared.phase.Phase.TheVariants.{SectionLength, ByteOrder, BlockHeader, SourceHeader}
use Rattle.fr_recording.specs.declared.phase.Phase.TheVariants.{OptionHeader, OptionValue, PacketHeader, SimpleHeader}
use Rattle.fr_recording.specs.declared.phase.Phase.TheVariants.{PacketBytes, Skipped, Trailer, Refused}
use Rattle.fr_recording.specs.declared.phase.Refusal.{Refusal}
use Rattle.fr_recording.specs.declared.phase.Refusal.TheVariants.{NoCapture, BadBlock, Truncated}
use Rattle.fr_recording.specs.declared.source.Source.{Source}

-- ---- the state between two parts of the file

-- What comes next, the order of bytes in numbers, and the sources of the section. The captured bytes of the record that
-- was read last. The place of this record or block, the bytes that were read, and the blocks that were no records (up
-- to `most_counted`). The record that the last byte completed.
pub record State : Type 0 where
  pub phase : Phase
  pub order : Order
  pub sources : List Source
  pub captured : List ℕ
  pub begin : ℕ
  pub at : ℕ
  pub skipped : ℕ
  pub told : Option Head

-- the part of the file that comes next
abbrev pub go : State → Phase → State
go s phase = record s { phase = phase }

abbrev pub refuse : State → Refusal → State
refuse s refusal = go s (Refused refusal)

abbrev pub bad : State → State
bad s = refuse s (BadBlock s.begin)

-- a record or block begins
abbrev pub start : State → Phase → State
start s phase = record s { phase = phase; begin = s.at }

-- the captured bytes of a record
abbrev pub with_captured : State → List ℕ → State
with_captured s bytes = record s { captured = bytes }

-- ---- classic files

abbrev pub after_magic : State → Magic → State
after_magic s (Classic order scale) = record s { phase = FileHeader scale; order = order }
after_magic s Sections = go s SectionLength
after_magic s Unknown = refuse s NoCapture

abbrev pub after_file_header : State → ℕ → List ℕ → State
after_file_header s scale bytes = start s (RecordHeader scale (link_in s.order bytes))

-- a record of a classic file is complete
abbrev pub tell : State → ℕ → ℕ → Head → List ℕ → State
tell s scale link head bytes = start (record s { captured = bytes; told = Some head }) (RecordHeader scale link)

abbrev pub after_record_head : State → ℕ → ℕ → Option Head → State
after_record_head s scale link None = bad s
after_record_head s scale link (Some head) =
    if head.captured == 0 then tell s scale link head [] else go s (RecordBytes scale link head)

-- ---- blocks

-- so many bytes of a block have been read
abbrev pub less : Block → ℕ → Block
less block n = record { length = block.length; left = block.left - n }

-- the bytes up to the end of a block aren't looked at
abbrev pub skip : State → Block → Option Head → State
skip s block head = if block.left == 0 then go s (Trailer block.length head) else go s (Skipped block head)

-- A section begins: 16 of its bytes have been read, and it has no sources yet.
abbrev pub after_section : State → Order → ℕ → State
after_section s order count =
    if is_length_of section_type count
    then skip (record s { order = order; sources = [] }) (record { length = count; left = count - 16 }) None
    else bad s

-- the length of a section, as the order of bytes has it
abbrev pub length_by : Order → ℕ → ℕ → ℕ
length_by LowFirst low high = low
length_by HighFirst low high = high

abbrev pub after_mark : State → ℕ → ℕ → Option Order → State
after_mark s low high None = if s.begin == 0 then refuse s NoCapture else bad s
after_mark s low high (Some order) = after_section s order (length_by order low high)

-- a source is added when its options are over
abbrev pub add_source : State → Block → Source → State
add_source s block source =
    if nat_lt (length s.sources) most_sources
    then skip (record s { sources = s.sources ++ source ∷ [] }) block None
    else bad s

abbrev pub next_option : State → Block → Source → State
next_option s block source =
    if block.left == 0 then add_source s block source else go s (OptionHeader block source)

abbrev pub after_source : State → Block → List ℕ → State
after_source s block bytes = next_option s (less block 8) (source_in s.order bytes)

abbrev pub take_option : State → Block → Source → ℕ → ℕ → State
take_option s block source code size =
    if nat_lt block.left (padded size) then bad s
    else if code == 0 then add_source s block source
    else if size == 0 then next_option s block source
    else go s (OptionValue block source code size)

abbrev pub after_option_header : State → Block → Source → List ℕ → State
after_option_header s block source bytes =
    take_option s (less block 4) source (short s.order 0 bytes) (short s.order 2 bytes)

abbrev pub after_option : State → Block → Source → ℕ → ℕ → List ℕ → State
after_option s block source code size bytes =
    next_option s (less block (padded size)) (with_option s.order code (take size bytes) source)

-- the captured bytes come next, if there are any
abbrev pub after_head : State → Block → Option Head → State
after_head s block None = bad s
after_head s block (Some head) =
    if head.captured == 0 then skip (record s { captured = [] }) block (Some head)
    else go s (PacketBytes block head)

abbrev pub after_packet : State → Block → Bool → List ℕ → State
after_packet s block obsolete bytes =
    after_head s (less block 20) (packet_head s.order obsolete s.sources (block.left - 20) bytes)

abbrev pub after_simple : State → Block → List ℕ → State
after_simple s block bytes = after_head s (less block 4) (simple_head s.order s.sources (block.left - 4) bytes)

abbrev pub after_bytes : State → Block → Head → List ℕ → State
after_bytes s block head bytes =
    skip (record s { captured = take head.captured bytes }) (less block (padded head.captured)) (Some head)

-- a block is complete; if it is no record, it is counted
abbrev pub end_block : State → Option Head → State
end_block s None = start (record s { skipped = counted s.skipped 1 }) BlockHeader
end_block s (Some head) = start (record s { told = Some head }) BlockHeader

abbrev pub after_trailer : State → ℕ → Option Head → List ℕ → State
after_trailer s count head bytes = if long s.order 0 bytes == count then end_block s head else bad s

-- a block of this type and length
abbrev pub enter : State → ℕ → Block → State
enter s kind block =
    if kind == 1 then if nat_lt (length s.sources) most_sources then go s (SourceHeader block) else bad s
    else if kind == 2 then go s (PacketHeader block true)
    else if kind == 3 then if length s.sources == 0 then bad s else go s (SimpleHeader block)
    else if kind == 6 then go s (PacketHeader block false)
    else skip s block None

abbrev pub enter_block : State → ℕ → ℕ → State
enter_block s kind count =
    if is_length_of kind count then enter s kind (record { length = count; left = count - 12 }) else bad s

-- a section may have another order of bytes, so that its length is known with its byte-order mark
abbrev pub after_block_header : State → List ℕ → State
after_block_header s bytes =
    if long s.order 0 bytes == section_type then go s (ByteOrder (long LowFirst 4 bytes) (long HighFirst 4 bytes))
    else enter_block s (long s.order 0 bytes) (long s.order 4 bytes)

-- ---- parts

-- the bytes of the part that comes next
abbrev pub needed : Phase → ℕ
needed Start = 4
needed (FileHeader scale) = 20
needed (RecordHeader scale link) = 16
needed (RecordBytes scale link head) = head.captured
needed SectionLength = 4
needed (ByteOrder low high) = 4
needed BlockHeader = 8
needed (SourceHeader block) = 8
needed (OptionHeader block source) = 4
needed (OptionValue block source code size) = padded size
needed (PacketHeader block obsolete) = 20
needed (SimpleHeader block) = 4
needed (PacketBytes block head) = padded head.captured
needed (Skipped block head) = 1
needed (Trailer count head) = 4
needed (Refused refusal) = 1

-- the state after this part
abbrev pub after_part : Phase → State → List ℕ → State
after_part Start s bytes = after_magic s (magic_in bytes)
after_part (FileHeader scale) s bytes = after_file_header s scale bytes
after_part (RecordHeader scale link) s bytes =
    after_record_head s scale link (record_head s.order scale link bytes)
after_part (RecordBytes scale link head) s bytes = tell s scale link head (take head.captured bytes)
after_part SectionLength s bytes = go s (ByteOrder (long LowFirst 0 bytes) (long HighFirst 0 bytes))
after_part (ByteOrder low high) s bytes = after_mark s low high (order_in bytes)
after_part BlockHeader s bytes = after_block_header s bytes
after_part (SourceHeader block) s bytes = after_source s block bytes
after_part (OptionHeader block source) s bytes = after_option_header s block source bytes
after_part (OptionValue block source code size) s bytes = after_option s block source code size bytes
after_part (PacketHeader block obsolete) s bytes = after_packet s block obsolete bytes
after_part (SimpleHeader block) s bytes = after_simple s block bytes
after_part (PacketBytes block head) s bytes = after_bytes s block head bytes
after_part (Skipped block head) s bytes = skip s (less block (length bytes)) head
after_part (Trailer count head) s bytes = after_trailer s count head bytes
after_part (Refused refusal) s bytes = s

-- ---- bytes

-- The state, and the bytes of the part that isn't over.
pub record Progress : Type 0 where
  pub state : State
  pub held : List ℕ

-- no byte has come
abbrev pub fresh : Progress
fresh = record {
  state = record {
    phase = Start;
    order = LowFirst;
    sources = [];
    captured = [];
    begin = 0;
    at = 0;
    skipped = 0;
    told = None;
  };
  held = [];
}

-- so many bytes have been read, which complete no record yet
abbrev pub read_on : State → ℕ → State
read_on s n = record s { at = counted s.at n; told = None }

-- the part is over with these bytes, or it isn't
abbrev pub take_in : State → List ℕ → Progress
take_in s bytes =
    if nat_lt (length bytes) (needed s.phase) then record { state = s; held = bytes }
    else record { state = after_part s.phase s bytes; held = [] }

abbrev pub take_byte : Progress → ℕ → Progress
take_byte p b = take_in (read_on p.state 1) (p.held ++ b ∷ [])

-- the progress once these bytes have come too
abbrev pub take_bytes : Progress → List ℕ → Progress
take_bytes p bytes = fold take_byte p bytes

-- ---- records

abbrev pub record_of : State → Head → Record
record_of s head = record {
  time = head.time;
  link = head.link;
  original = head.original;
  bytes = s.captured;
}

-- the record that the last byte completed
abbrev pub told_of : Progress → Option Record
told_of p = option_map (record_of p.state) p.state.told

-- the records that these bytes complete
abbrev pub records_from : Progress → List ℕ → List Record
records_from p [] = []
records_from p (b ∷ bytes) = option_to_list (told_of (take_byte p b)) ++ records_from (take_byte p b) bytes

-- ---- the end

-- the file ends between two records or blocks, or within this one
abbrev pub cut_off : State → Bool → Option Refusal
cut_off s true = None
cut_off s false = Some (Truncated s.begin)

abbrev pub packet_cut : State → Bool → Option Refusal
packet_cut s true = Some (BadBlock s.begin)
packet_cut s false = Some (Truncated s.begin)

abbrev pub end_in : Phase → State → List ℕ → Option Refusal
end_in (Refused refusal) s held = Some refusal
end_in Start s held = Some NoCapture
end_in (RecordHeader scale link) s held = cut_off s (length held == 0)
end_in BlockHeader s held = cut_off s (length held == 0)
end_in (PacketHeader block obsolete) s held =
    packet_cut s (is_bad_front s.order obsolete s.sources (block.left - 20) held)
end_in phase s held = Some (Truncated s.begin)

-- nothing more of the file is looked at
abbrev pub is_refused : Phase → Bool
is_refused (Refused refusal) = true
is_refused phase = false

-- the refusal of a file that ends here
abbrev pub refusal_of : Progress → Option Refusal
refusal_of p = end_in p.state.phase p.state p.held

-- the records of a whole file, and its refusal
abbrev pub records_in : List ℕ → List Record
records_in bytes = records_from fresh bytes

abbrev pub refusal_in : List ℕ → Option Refusal
refusal_in bytes = refusal_of (take_bytes fresh bytes)
