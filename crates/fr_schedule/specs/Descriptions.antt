-- The description of a cluster.
use Rattle.std.specs.Prelude.{Bool, false, List, Option, Some, None}
use Rattle.fr_slots.specs.declared.channel.Channel.{Channel}
use Rattle.fr_slots.specs.declared.channel.Channels.{Channels}
use Rattle.fr_slots.specs.Admission.{includes}
use Rattle.fr_slots.specs.Parameters.{Parameters}
use Rattle.fr_slots.specs.Plans.{Plan}

-- the parameters, the guarded channels, and the plans in the order of their nodes
pub record Description : Type 0 where
  pub params : Parameters
  pub guard : Option Channels
  pub plans : List Plan

-- the channel has bus guardians
abbrev pub is_guarded : Option Channels → Channel → Bool
is_guarded None channel = false
is_guarded (Some channels) channel = includes channels channel
