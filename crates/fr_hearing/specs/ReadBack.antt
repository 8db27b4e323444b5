-- The records of a capture of a bus, as they are read back (project-defined).
use Rattle.std.specs.Prelude.{◌≡◌, ℕ, ℤ, pos, ◌+◌, ◌*◌, ◌/◌, ◌%◌, ◌^◌, ◌<◌, ◌≤◌, List, [], ◌∷◌, ◌++◌, length, slice_get}
use Rattle.std.specs.Prelude.{Some, None}
use Rattle.arrayvec.specs.ArrayVec.{ArrayVec}
use Rattle.fr_bus.specs.Record.{Recorded, heard}
use Rattle.fr_capture.specs.Pcap.{packet}
use Rattle.fr_frame.specs.Refusal.{refusal}
use Rattle.fr_hearing.specs.Files.{Clock, capture_of}
use Rattle.fr_hearing.specs.Runs.{logged}
use Rattle.fr_recording.specs.Records.{Record}
use Rattle.fr_recording.specs.Stream.{records_in, refusal_in}
use Rattle.fr_slots.specs.declared.channel.Channel.{Channel}
use Rattle.fr_slots.specs.declared.channel.Channel.TheVariants.{A, B}
use Rattle.fr_slots.specs.History.{each_after}
use Rattle.fr_slots.specs.Parameters.{Parameters}
use Rattle.fr_status.specs.declared.seen.Seen.TheVariants.{Silence, Own, Conflict, Noise, Overrun, Bytes}
use Rattle.fr_status.specs.Forms.{Seen}

-- A time in microseconds, read back in nanoseconds. A record has four bytes for the seconds.
abbrev pub read_time : ℕ → ℤ
read_time time = pos (time / 1000000 % 2 ^ 32 * 10 ^ 9 + time % 1000000 * 1000)

-- the record of received bytes; no other observation has one
abbrev pub read_seen : ℕ → Channel → Seen → List Record
read_seen time channel Silence = []
read_seen time channel Own = []
read_seen time channel Conflict = []
read_seen time channel Noise = []
read_seen time channel Overrun = []
read_seen time channel (Bytes bytes) =
    logged (Some (read_time time)) (packet channel (refusal channel bytes.items) bytes.items) ∷ []

-- the records of a window, channel A before B
abbrev pub read_window : Parameters → ℕ → Recorded → List Record
read_window p time r = read_seen time A (heard p r A) ++ read_seen time B (heard p r B)

-- the records of all windows, in their order
abbrev pub read_of : Clock → Parameters → List Recorded → List Record
read_of time p rs = each_after (λ before r. read_window p (time before r) r) [] rs

-- the length of a frame with 254 bytes of payload
abbrev pub longest_frame : ℕ
longest_frame = 262

-- A listener receives no more bytes in a window than a frame has.
abbrev pub AreShort : Parameters → List Recorded → Type 0
AreShort p rs = (k : ℕ) (r : Recorded) → slice_get rs k ≡ Some r → (channel : Channel) (bytes : ArrayVec ℕ)
    → heard p r channel ≡ Bytes bytes → length bytes.items ≤ longest_frame

-- The capture of a bus is read to its end. Its records are those of all that a listener receives, with or without
-- faults, each with its time.
abbrev pub IsReadBack : Type 0
IsReadBack = (time : Clock) (p : Parameters) (rs : List Recorded) → AreShort p rs
    → (refusal_in (capture_of time p rs) ≡ None) × (records_in (capture_of time p rs) ≡ read_of time p rs)

-- The time is exact for 2^32 seconds.
abbrev pub TimeIsKept : Type 0
TimeIsKept = (time : ℕ) → time < 2 ^ 32 * 1000000 → read_time time ≡ pos (time * 1000)
