-- Times of records in nanoseconds. What is finer is cut off (project-defined).
use Rattle.std.specs.Prelude.{ℕ, ◌-◌, ◌*◌, ◌/◌, ◌^◌, nat_le, ℤ, pos, ◌+ℤ◌, ◌*ℤ◌, ◌≤ℤ◌, ◌<ℤ◌, neg_ℤ, if◌then◌else◌}
use Rattle.std.specs.Option.{unwrap_or}
use Rattle.fr_recording.specs.declared.source.Source.{Source}

-- The units of a source's clock in a second: a power of 2 if the highest bit is set, and a power of 10 otherwise.
abbrev pub units_of : ℕ → ℕ
units_of resolution = if nat_le 128 resolution then 2 ^ (resolution - 128) else 10 ^ resolution

-- microseconds, if the source doesn't say otherwise
abbrev pub resolution_of : Source → ℕ
resolution_of i = unwrap_or i.resolution 6

abbrev pub seconds_of : Source → ℤ
seconds_of i = unwrap_or i.offset (pos 0)

-- the time of so many units on the source's clock, whose start is an offset in seconds
abbrev pub time_of : Source → ℕ → ℤ
time_of i units =
    pos (units * 10 ^ 9 / units_of (resolution_of i)) +ℤ seconds_of i *ℤ pos (10 ^ 9)

-- the times that a record can have
pub record IsMoment (t : ℤ) : Type 0 where
  pub from_least : neg_ℤ (pos (2 ^ 94)) ≤ℤ t
  pub below : t <ℤ pos (2 ^ 95)
