-- The records of a capture of the bus, as a passive listener receives it (project-defined). The time is counted in
-- microseconds from the start of the run, and a macrotick takes a microsecond.
use Rattle.std.specs.Prelude.{ℕ, ◌+◌, ◌*◌, List, [], ◌++◌}
use Rattle.fr_bus.specs.Record.{Recorded, heard}
use Rattle.fr_capture.specs.Moments.{start_of}
use Rattle.fr_capture.specs.Pcap.{file_header, record_with}
use Rattle.fr_showing.specs.EachWindow.{each_window}
use Rattle.fr_frame.specs.Refusal.{refusal}
use Rattle.fr_slots.specs.declared.channel.Channel.{Channel}
use Rattle.fr_slots.specs.declared.channel.Channel.TheVariants.{A, B}
use Rattle.fr_slots.specs.Parameters.{Parameters}
use Rattle.fr_slots.specs.Windows.{Opportunity}
use Rattle.fr_status.specs.Forms.{Seen}
use Rattle.fr_status.specs.declared.seen.Seen.TheVariants.{Silence, Own, Conflict, Noise, Overrun, Bytes}

-- the time at which a window of this cycle of the run begins
abbrev pub begins_at : Parameters → ℕ → Opportunity → ℕ
begins_at p cycle w = cycle * p.cycle_mt + start_of p w

-- The record of the observation on a channel. There is none if nothing passed, if transmissions collided, or if the
-- only one was too long.
abbrev pub heard_record : ℕ → Channel → Seen → List ℕ
heard_record time channel Silence = []
heard_record time channel Own = []
heard_record time channel Conflict = []
heard_record time channel Noise = []
heard_record time channel Overrun = []
heard_record time channel (Bytes bytes) = record_with time channel (refusal channel bytes.items) bytes.items

abbrev pub channel_records : Parameters → ℕ → Recorded → Channel → List ℕ
channel_records p cycle r channel = heard_record (begins_at p cycle r.window) channel (heard p r channel)

-- channel A before B
abbrev pub window_records : Parameters → ℕ → Recorded → List ℕ
window_records p cycle r = channel_records p cycle r A ++ channel_records p cycle r B

-- all windows of a record, in their order
abbrev pub all_records : Parameters → List Recorded → List ℕ
all_records p rs = each_window (window_records p) rs

abbrev pub capture_of : Parameters → List Recorded → List ℕ
capture_of p rs = file_header ++ all_records p rs
