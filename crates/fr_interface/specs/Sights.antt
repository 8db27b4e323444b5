-- A node's observation, with or without what follows from it (project-defined).
use Rattle.std.specs.Prelude.{◌≡◌}
use Rattle.fr_interface.specs.declared.sight.Judged.{Judged}
use Rattle.fr_interface.specs.declared.sight.Sight.{Sight}
use Rattle.fr_interface.specs.declared.sight.Sight.TheVariants as sight
use Rattle.fr_slots.specs.declared.channel.Channel.{Channel}
use Rattle.fr_slots.specs.Parameters.{Parameters}
use Rattle.fr_slots.specs.Windows.{Opportunity}
use Rattle.fr_status.specs.Forms.{Seen}
use Rattle.fr_status.specs.declared.seen.Seen.TheVariants.{Own, Conflict}

abbrev pub seen_in : Sight → Seen
seen_in sight.Own = Own
seen_in sight.Conflict = Conflict
seen_in (sight.Seen seen) = seen.now
seen_in (sight.Heard heard) = heard.now

-- status and frame were found for this channel and window
pub record IsFor (j : Judged) (params : Parameters) (window : Opportunity) (channel : Channel) : Type 0 where
  pub params_are : j.params ≡ params
  pub window_is : j.window ≡ window
  pub channel_is : j.channel ≡ channel
