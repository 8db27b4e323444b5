-- The parts of a line that words spell. Each has one spelling.
use Rattle.std.specs.Prelude.{ℕ, ◌-◌, ◌^◌, ◌==◌, Bool, true, false, List, codes, length, take, drop, Option, Some, None}
use Rattle.std.specs.Prelude.{is_none, if◌then◌else◌}
use Rattle.fr_frame.specs.Payload.{payload_refusal, most_payload_bytes, most_frame_bytes}
use Rattle.std.specs.Result.{result_ok}
use Rattle.std.specs.Str.{bytes_eq}
use Rattle.fr_journal.specs.declared.entry.Offered.{Offered}
use Rattle.fr_journal.specs.declared.entry.Offered.TheVariants as offered
use Rattle.fr_journal.specs.declared.entry.Origin.{Origin}
use Rattle.fr_lines.specs.Parts.{absent}
use Rattle.fr_slots.specs.Admission.{CycleClass, cycle_class}
use Rattle.fr_slots.specs.declared.channel.Channel.{Channel}
use Rattle.fr_slots.specs.declared.channel.Channel.TheVariants as channel
use Rattle.fr_slots.specs.declared.channel.Channels.{Channels}
use Rattle.fr_slots.specs.declared.channel.Channels.TheVariants as channels
use Rattle.fr_slots.specs.declared.filter.Filter.{Filter}
use Rattle.fr_slots.specs.declared.plan.Mode.{Mode}
use Rattle.fr_slots.specs.declared.plan.Mode.TheVariants as mode
use Rattle.fr_slots.specs.Numbers.{number_within, last_slot}
use Rattle.fr_slots.specs.Windows.{Opportunity, static_window, dynamic_window}
use Rattle.fr_status.specs.Forms.{Seen}
use Rattle.fr_status.specs.declared.seen.Seen.TheVariants as seen
use Rattle.fr_text.specs.Reading.{◌>>=◌, number_in, bytes_in}

-- ---- slots

unfoldable pub slot_in : List ℕ → Option ℕ
slot_in word = do
  n ← number_in 2048 word
  number_within 1 last_slot n

-- a slot or none
unfoldable pub optional_slot_in : List ℕ → Option (Option ℕ)
optional_slot_in word = if bytes_eq word absent then Some None else do
  slot ← slot_in word
  Some (Some slot)

-- ---- channels and cycles

-- one channel
unfoldable pub channel_in : List ℕ → Option Channel
channel_in word =
    if bytes_eq word (codes "A") then Some channel.A
    else if bytes_eq word (codes "B") then Some channel.B
    else None

unfoldable pub channels_in : List ℕ → Option Channels
channels_in word =
    if bytes_eq word (codes "A") then Some channels.A
    else if bytes_eq word (codes "B") then Some channels.B
    else if bytes_eq word (codes "AB") then Some channels.Both
    else None

-- a base and a repetition
unfoldable pub cycles_in : List ℕ → List ℕ → Option CycleClass
cycles_in base repetition = do
  b ← number_in 64 base
  r ← number_in 65 repetition
  result_ok (cycle_class b r)

-- slot, channels and cycles
unfoldable pub filter_in : List ℕ → List ℕ → List ℕ → List ℕ → Option Filter
filter_in slot channels base repetition = do
  s ← slot_in slot
  c ← channels_in channels
  cycles ← cycles_in base repetition
  Some (record { slot = s; channels = c; cycles = cycles })

-- ---- flags, modes and sizes in the lines of a plan

unfoldable pub flag_in : List ℕ → Option Bool
flag_in word = if bytes_eq word (codes "1") then Some true else if bytes_eq word (codes "0") then Some false else None

-- a transmit buffer's mode
unfoldable pub mode_in : List ℕ → Option Mode
mode_in word = if bytes_eq word (codes "event") then Some mode.Event
    else if bytes_eq word (codes "state") then Some mode.State else None

-- at most 127 two-byte words, or none stated
unfoldable pub size_in : List ℕ → Option (Option ℕ)
size_in word = if bytes_eq word absent then Some None else do
  n ← number_in 128 word
  Some (Some n)

-- ---- payloads of commits

-- the bytes, if they are a payload
abbrev pub payload_from : List ℕ → Option (List ℕ)
payload_from bytes = if is_none (payload_refusal bytes) then Some bytes else None

unfoldable pub payload_in : List ℕ → Option (List ℕ)
payload_in word = do
  bytes ← bytes_in most_payload_bytes word
  payload_from bytes

-- ---- the commit that was withdrawn

-- the number of a commit or none
unfoldable pub taken_back_in : List ℕ → Option (Option ℕ)
taken_back_in word = if bytes_eq word absent then Some None else do
  commit ← number_in (2 ^ 32) word
  Some (Some commit)

-- ---- the origin of a frame

unfoldable pub marked_channel_in : List ℕ → Option Channel
marked_channel_in mark =
    if bytes_eq mark (codes ":A") then Some channel.A
    else if bytes_eq mark (codes ":B") then Some channel.B
    else None

-- the mark of the channel is the last two bytes
unfoldable pub origin_in : List ℕ → Option Origin
origin_in word = do
  channel ← marked_channel_in (drop (length word - 2) word)
  entry ← number_in (2 ^ 32) (take (length word - 2) word)
  Some (record { entry = entry; channel = channel })

-- an origin or none
unfoldable pub from_in : List ℕ → Option (Option Origin)
from_in word = if bytes_eq word absent then Some None else do
  origin ← origin_in word
  Some (Some origin)

-- ---- offers and observations

unfoldable pub offered_in : List ℕ → Option Offered
offered_in word =
    if bytes_eq word absent then Some offered.Nothing
    else if bytes_eq word (codes "null") then Some offered.Null
    else do
      commit ← number_in (2 ^ 32) word
      Some (offered.Data commit)

unfoldable pub seen_bytes_in : List ℕ → Option Seen
seen_bytes_in word = do
  bytes ← bytes_in most_frame_bytes word
  Some (seen.Bytes (record { items = bytes }))

unfoldable pub seen_in : List ℕ → Option Seen
seen_in word =
    if bytes_eq word absent then Some seen.Silence
    else if bytes_eq word (codes "own") then Some seen.Own
    else if bytes_eq word (codes "conflict") then Some seen.Conflict
    else if bytes_eq word (codes "noise") then Some seen.Noise
    else if bytes_eq word (codes "overrun") then Some seen.Overrun
    else seen_bytes_in word

-- ---- windows

-- both channels open one slot
abbrev pub same_slot : ℕ → ℕ → Option ℕ → Option ℕ → Option Opportunity
same_slot number cycle None b = None
same_slot number cycle (Some a) None = None
same_slot number cycle (Some a) (Some b) = if a == b then Some (static_window number cycle a) else None

-- a static window at minislot 0, otherwise a dynamic one
abbrev pub window_of : ℕ → ℕ → ℕ → Option ℕ → Option ℕ → Option Opportunity
window_of number cycle minislot a b = if minislot == 0 then same_slot number cycle a b
    else dynamic_window number cycle minislot a b

unfoldable pub window_in : List ℕ → List ℕ → List ℕ → List ℕ → List ℕ → Option Opportunity
window_in number cycle minislot slot_a slot_b = do
  n ← number_in (2 ^ 32) number
  c ← number_in 64 cycle
  m ← number_in 8001 minislot
  a ← optional_slot_in slot_a
  b ← optional_slot_in slot_b
  window_of n c m a b
