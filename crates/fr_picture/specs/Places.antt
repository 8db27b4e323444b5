-- The places of a picture, in tenths of its units (project-defined).
use Rattle.std.specs.Prelude.{ℕ, ◌+◌, ◌-◌, ◌*◌, ◌/◌, max}
use Rattle.fr_slots.specs.declared.channel.Channel.{Channel}
use Rattle.fr_slots.specs.declared.channel.Channel.TheVariants.{A, B}
use Rattle.fr_slots.specs.Parameters.{Parameters}

-- the distance of a macrotick of the cycle from the left; a cycle has the same length in each picture
unfoldable pub across : Parameters → ℕ → ℕ
across p macrotick = 1400 + macrotick * 10000 / p.cycle_mt

-- the length of an interval, at least 1, so that it can be seen
unfoldable pub extent : Parameters → ℕ → ℕ → ℕ
extent p start end = max (across p end - across p start) 1

-- the distance of the row of a channel from the top
unfoldable pub row_of : Channel → ℕ
row_of A = 1000
row_of B = 1480
