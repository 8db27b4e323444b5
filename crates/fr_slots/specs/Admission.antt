-- Admission by filters (chapter 9; slots are divided by cycle as a cycle filter does).
use Rattle.std.specs.Prelude.{◌≡◌, ℕ, ◌%◌, ◌<◌, ◌==◌, nat_le, not, Bool, true, false, ◌&&◌, List, [], ◌∷◌}
use Rattle.std.specs.Prelude.{codes, Result, Ok, Err, if◌then◌else◌}
use Rattle.std.specs.List.{list_any}
use Rattle.fr_slots.specs.declared.channel.Channel.{Channel}
use Rattle.fr_slots.specs.declared.channel.Channel.TheVariants as channel
use Rattle.fr_slots.specs.declared.channel.Channels.{Channels}
use Rattle.fr_slots.specs.declared.channel.Channels.TheVariants as channels
use Rattle.fr_slots.specs.declared.filter.FilterError.{FilterError}
use Rattle.fr_slots.specs.declared.filter.FilterError.TheVariants.{RepetitionNotPower, BaseTooLarge}

-- the letter of a channel in printed texts
abbrev pub letter_of : Channel → List ℕ
letter_of channel.A = codes "A"
letter_of channel.B = codes "B"

-- the channels are the same
abbrev pub is_channel : Channel → Channel → Bool
is_channel channel.A channel.A = true
is_channel channel.A channel.B = false
is_channel channel.B channel.A = false
is_channel channel.B channel.B = true

-- the channel is among them
abbrev pub includes : Channels → Channel → Bool
includes channels.Both channel = true
includes channels.A channel.A = true
includes channels.A channel.B = false
includes channels.B channel.A = false
includes channels.B channel.B = true

-- ---- cycles

-- the cycles that leave `base` when they are divided by `repetition`
pub record CycleClass : Type 0 where
  pub base : ℕ
  pub repetition : ℕ

abbrev pub repetitions : List ℕ
repetitions = 1 ∷ 2 ∷ 4 ∷ 8 ∷ 16 ∷ 32 ∷ 64 ∷ []

abbrev pub is_repetition : ℕ → Bool
is_repetition n = list_any (λ r. n == r) repetitions

pub record IsCycleClass (c : CycleClass) : Type 0 where
  pub repetition_is : is_repetition c.repetition ≡ true
  pub base_below : c.base < c.repetition

-- the class of these two numbers
abbrev pub cycle_class : ℕ → ℕ → Result CycleClass FilterError
cycle_class base repetition =
    if not (is_repetition repetition) then Err RepetitionNotPower
    else if nat_le repetition base then Err BaseTooLarge
    else Ok (record { base = base; repetition = repetition })

abbrev pub cycle_admitted : CycleClass → ℕ → Bool
cycle_admitted c cycle = cycle % c.repetition == c.base

-- the class has every cycle
abbrev pub is_every_cycle : CycleClass → Bool
is_every_cycle c = c.base == 0 && c.repetition == 1
