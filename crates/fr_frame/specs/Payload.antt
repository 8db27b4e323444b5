-- Payloads (chapter 4).
use Rattle.std.specs.Prelude.{◌≡◌, ℕ, ◌+◌, ◌*◌, ◌%◌, ◌≤◌, ◌==◌, nat_lt, List, length, Option, Some, None, if◌then◌else◌}
use Rattle.fr_frame.specs.declared.payload.FrameError.{FrameError}
use Rattle.fr_frame.specs.declared.payload.FrameError.TheVariants.{PayloadTooLong, OddPayload}
use Rattle.fr_slots.specs.Numbers.{most_words}

-- a payload is counted in two-byte words
abbrev pub most_payload_bytes : ℕ
most_payload_bytes = 2 * most_words

-- a frame has five more bytes before its payload, and three after it
abbrev pub most_frame_bytes : ℕ
most_frame_bytes = 5 + most_payload_bytes + 3

pub record IsPayload (bytes : List ℕ) : Type 0 where
  pub short : length bytes ≤ most_payload_bytes
  pub even : length bytes % 2 ≡ 0

-- the reason to refuse these bytes as a payload, if there is one
abbrev pub payload_refusal : List ℕ → Option FrameError
payload_refusal bytes =
    if nat_lt most_payload_bytes (length bytes) then Some PayloadTooLong
    else if length bytes % 2 == 1 then Some OddPayload
    else None
