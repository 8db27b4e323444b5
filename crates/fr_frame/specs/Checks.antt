-- The calculated frame CRC of bytes that may spell a frame, and bytes that differ at most in the trailer, as those that
-- a node sends redundantly.
use Rattle.std.specs.Prelude.{◌≡◌, ℕ, ◌-◌, List, length, take}
use Rattle.fr_slots.specs.declared.channel.Channel.{Channel}
use Rattle.fr_frame.specs.Bits.{number_of}
use Rattle.fr_frame.specs.Crc.{frame_check}

-- the number is the calculated frame CRC, on the channel, of the bytes before the last three
abbrev pub IsCheckOf : Channel → List ℕ → ℕ → Type 0
IsCheckOf channel bytes check = check ≡ number_of (frame_check channel (take (length bytes - 3) bytes))

-- the least length of twins whose frame CRCs are computed together (project-defined)
abbrev pub shortest_twins : ℕ
shortest_twins = 40

-- both have the same length, and differ at most in the last three bytes
abbrev pub AreTwins : List ℕ → List ℕ → Type 0
AreTwins a b = (length a ≡ length b) × (take (length a - 3) a ≡ take (length b - 3) b)
