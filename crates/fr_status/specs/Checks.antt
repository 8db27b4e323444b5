-- The calculated frame CRC of an observation.
use Rattle.std.specs.Prelude.{ℕ, ◌≤◌, length}
use Rattle.fr_slots.specs.declared.channel.Channel.{Channel}
use Rattle.fr_frame.specs.Checks.{AreTwins, IsCheckOf, shortest_twins}
use Rattle.fr_status.specs.Forms.{Seen}
use Rattle.fr_status.specs.declared.seen.Seen.TheVariants.{Silence, Own, Conflict, Noise, Overrun, Bytes}

-- the observation is bytes, and the number is their calculated frame CRC on the channel
unfoldable pub IsCheckSeen : Channel → Seen → ℕ → Type 0
IsCheckSeen channel Silence check = ⊥
IsCheckSeen channel Own check = ⊥
IsCheckSeen channel Conflict check = ⊥
IsCheckSeen channel Noise check = ⊥
IsCheckSeen channel Overrun check = ⊥
IsCheckSeen channel (Bytes bytes) check = IsCheckOf channel bytes.items check

-- both observations are bytes that differ at most in the last three, and aren't few
unfoldable pub AreLongTwins : Seen → Seen → Type 0
AreLongTwins (Bytes a) (Bytes b) = (shortest_twins ≤ length a.items) × AreTwins a.items b.items
AreLongTwins a b = ⊥
