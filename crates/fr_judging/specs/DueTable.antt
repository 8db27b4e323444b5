-- The table of what is due in static slots, for private functions. No public contract cites it.
use Rattle.std.specs.Prelude.{ℕ, zero, suc, ◌+◌, ◌*◌, ◌/◌, ◌%◌, ◌==◌, if◌then◌else◌, List, [], ◌∷◌, ◌++◌, Option}
use Rattle.fr_schedule.specs.Descriptions.{Description}
use Rattle.fr_slots.specs.declared.channel.Channel.{Channel}
use Rattle.fr_slots.specs.declared.channel.Channel.TheVariants.{A, B}
use Rattle.fr_logged.specs.declared.due.Due.{Due}
use Rattle.fr_judging.specs.Rules.{due_at}
use Rattle.fr_judging.specs.Tallies.{channel_number}

abbrev pub channel_of : ℕ → Channel
channel_of n = if n == 0 then A else B

-- each cycle has two places for each static slot, and for slot 0
abbrev pub width_of : ℕ → ℕ
width_of slots = (slots + 1) * 2

abbrev pub due_place : ℕ → ℕ → Channel → ℕ → ℕ
due_place width slot channel cycle = cycle * width + (slot * 2 + channel_number channel)

abbrev pub due_in : Description → ℕ → ℕ → Option Due
due_in d width place = due_at d (place % width / 2) (channel_of (place % width % 2)) (place / width)

-- so many places
unfoldable pub due_list : Description → ℕ → ℕ → List (Option Due)
due_list d width zero = []
due_list d width (suc n) = due_list d width n ++ due_in d width n ∷ []

-- all places
abbrev pub all_dues : Description → List (Option Due)
all_dues d = due_list d (width_of d.params.static_slots) (64 * width_of d.params.static_slots)
