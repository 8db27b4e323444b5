-- What each node receives in a window: its observation on each channel, the bit of the slot status that is counted, and
-- the receive buffers and the receive FIFO that store it (chapters 6 and 9; the lines are project-defined).
use Rattle.std.specs.Prelude.{ℕ, ◌&&◌, ◌||◌, Bool, true, false, List, [], ◌∷◌, ◌++◌, codes, Option, Some, None}
use Rattle.std.specs.Prelude.{if◌then◌else◌}
use Rattle.std.specs.Fmt.{decimal}
use Rattle.fr_bus.specs.Record.{Recorded, seen_by}
use Rattle.fr_capture.specs.declared.takers.Taker.{Taker}
use Rattle.fr_capture.specs.Takers.{takers_of, takers_word}
use Rattle.fr_files.specs.NodeTexts.{of_nodes}
use Rattle.fr_frame.specs.Refusal.{refusal}
use Rattle.fr_frame.specs.declared.decode.DecodeError.{DecodeError}
use Rattle.fr_frame.specs.declared.decode.DecodeError.TheVariants.{TooShort, LengthMismatch, HeaderCrc, FrameCrc}
use Rattle.fr_lines.specs.Parts.{absent}
use Rattle.fr_schedule.specs.Descriptions.{Description}
use Rattle.fr_showing.specs.EachWindow.{each_window}
use Rattle.fr_slots.specs.declared.channel.Channel.{Channel}
use Rattle.fr_slots.specs.declared.channel.Channel.TheVariants.{A, B}
use Rattle.fr_slots.specs.Parameters.{Parameters}
use Rattle.fr_slots.specs.Plans.{Plan}
use Rattle.fr_slots.specs.Windows.{Opportunity, slot_of}
use Rattle.fr_status.specs.Forms.{Seen}
use Rattle.fr_status.specs.Status.{status_in}
use Rattle.fr_status.specs.declared.seen.Seen.TheVariants.{Silence, Own, Conflict, Noise, Overrun, Bytes}
use Rattle.fr_status.specs.declared.status.SlotStatus.{SlotStatus}

-- ---- words

-- the bytes are a frame, or the reason why they are none
abbrev pub bytes_word : Option DecodeError → List ℕ
bytes_word None = codes "frame"
bytes_word (Some TooShort) = codes "short"
bytes_word (Some LengthMismatch) = codes "length"
bytes_word (Some HeaderCrc) = codes "header-crc"
bytes_word (Some FrameCrc) = codes "frame-crc"

abbrev pub seen_word : Channel → Seen → List ℕ
seen_word channel Silence = codes "silence"
seen_word channel Own = codes "own"
seen_word channel Conflict = codes "conflict"
seen_word channel Noise = codes "noise"
seen_word channel Overrun = codes "overrun"
seen_word channel (Bytes bytes) = bytes_word (refusal channel bytes.items)

-- the bit that is set, of which there is at most one
abbrev pub bit_word : SlotStatus → List ℕ
bit_word s =
    if s.valid then codes "valid" else if s.syntax then codes "syntax" else if s.content then codes "content"
    else if s.boundary then codes "boundary" else if s.conflict then codes "conflict" else absent

-- the status of the slot, if the channel has one
abbrev pub status_at : Parameters → Opportunity → Channel → Seen → Option ℕ → Option SlotStatus
status_at p w channel seen None = None
status_at p w channel seen (Some slot) = Some (status_in p w.cycle slot channel seen)

abbrev pub status_on : Parameters → Opportunity → Channel → Seen → Option SlotStatus
status_on p w channel seen = status_at p w channel seen (slot_of w channel)

-- nothing is counted on a channel without a slot
abbrev pub counted_word : Option SlotStatus → List ℕ
counted_word None = absent
counted_word (Some s) = bit_word s

-- the observation on a channel, the bit that is counted, and the receivers
unfoldable pub channel_text : Parameters → Opportunity → Channel → Seen → List Taker → List ℕ
channel_text p w channel seen takers =
    codes " " ++ seen_word channel seen ++ codes " " ++ counted_word (status_on p w channel seen) ++ codes " "
    ++ takers_word takers

-- the status is that of a frame
abbrev pub is_frame : Option SlotStatus → Bool
is_frame None = false
is_frame (Some s) = s.valid || s.content

-- ---- lines

unfoldable pub front_text : ℕ → Opportunity → ℕ → List ℕ
front_text cycle w node = decimal w.number ++ codes " " ++ decimal cycle ++ codes " " ++ decimal node

-- the number of the window, the cycle of the run, the node, and what it observes on both channels
unfoldable pub node_line : Parameters → ℕ → Opportunity → ℕ → Plan → Seen → Seen → List ℕ
node_line p cycle w node plan a b =
    front_text cycle w node ++ channel_text p w A a (takers_of p plan w a b A None)
    ++ channel_text p w B b (takers_of p plan w a b B None) ++ 10 ∷ []

abbrev pub is_silent : Seen → Bool
is_silent Silence = true
is_silent Own = false
is_silent Conflict = false
is_silent Noise = false
is_silent Overrun = false
is_silent (Bytes bytes) = false

-- a node that observes silence on both channels has no line
unfoldable pub heard_text : Parameters → ℕ → Opportunity → ℕ → Plan → Seen → Seen → List ℕ
heard_text p cycle w node plan a b =
    if is_silent a && is_silent b then [] else node_line p cycle w node plan a b

abbrev pub node_text : Parameters → ℕ → Recorded → ℕ → Plan → List ℕ
node_text p cycle r node plan = heard_text p cycle r.window node plan (seen_by p r A node) (seen_by p r B node)

-- ---- a window, and all of them

-- the nodes in their order
abbrev pub received_in : Description → ℕ → Recorded → List ℕ
received_in d cycle r = of_nodes (node_text d.params cycle r) 0 d.plans

-- all windows of the record of a run, in their order
abbrev pub received_text : Description → List Recorded → List ℕ
received_text d rs = each_window (received_in d) rs
