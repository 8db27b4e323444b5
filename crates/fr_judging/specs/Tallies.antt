-- Counts of slots, and spans of time.
use Rattle.std.specs.Prelude.{ℕ, ◌+◌, ◌-◌, ◌*◌, ◌%◌, ◌^◌, min, ℤ, ◌-ℤ◌, int_lt, false, Option, Some, None}
use Rattle.std.specs.Prelude.{if◌then◌else◌}
use Rattle.fr_slots.specs.declared.channel.Channel.{Channel}
use Rattle.fr_slots.specs.declared.channel.Channel.TheVariants.{A, B}
use Rattle.fr_judging.specs.declared.tally.SlotTally.{SlotTally}
use Rattle.fr_judging.specs.declared.tally.Span.{Span}

abbrev pub fresh_tally : SlotTally
fresh_tally = record {
  odd = false;
  data_frames = 0;
  null_frames = 0;
  missing = 0;
  other = 0;
  latest = None;
  span = None;
}

-- the span of the times so far and of one more
abbrev pub with_span : Option Span → ℤ → Span
with_span None time = record { shortest = time; longest = time }
with_span (Some s) time = record {
  shortest = if int_lt time s.shortest then time else s.shortest;
  longest = if int_lt s.longest time then time else s.longest;
}

-- the time between two that are known
abbrev pub span_between : Option Span → Option ℤ → Option ℤ → Option Span
span_between span (Some from) (Some to) = Some (with_span span (to -ℤ from))
span_between span from to = span

-- counts of cycles go up to 2^128 - 1
abbrev pub long_counted : ℕ → ℕ → ℕ
long_counted n more = min (n + more) (2 ^ 128 - 1)

-- ---- the places of counts

abbrev pub channel_number : Channel → ℕ
channel_number A = 0
channel_number B = 1

-- of a slot on a channel
abbrev pub place_of : ℕ → Channel → ℕ
place_of slot channel = slot % 2048 * 2 + channel_number channel

-- of a static slot on a channel
abbrev pub static_place : ℕ → Channel → ℕ
static_place slot channel = slot % 1024 * 2 + channel_number channel

-- of a static slot on a channel, and a node
abbrev pub away_place : ℕ → Channel → ℕ → ℕ
away_place slot channel node = node % 16 * 2048 + static_place slot channel
