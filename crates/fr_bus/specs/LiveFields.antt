-- The fields of `LiveBus` as kept data.
use Rattle.std.specs.Prelude.{◌≡◌}
use Rattle.fr_bus.specs.declared.live.LiveBus.TheInside.{Inside}
use Rattle.fr_bus.specs.Record.{heard_last}
use Rattle.fr_bus.specs.Standing.{LiveStanding, IsLiveHistory}
use Rattle.fr_bus.specs.States.{BusState}
use Rattle.fr_slots.specs.declared.channel.Channel.TheVariants.{A, B}

abbrev pub standing_in : Inside → LiveStanding
standing_in b = record { bus = b.kept; last = b.last }

-- the data are those of some run, with what is heard in its last window
pub record HasRun (b : Inside) : Type 0 where
  pub had : (r : BusState) × IsLiveHistory (standing_in b) r
  pub on_a : b.heard_a ≡ heard_last b.kept.cluster.params b.last A
  pub on_b : b.heard_b ≡ heard_last b.kept.cluster.params b.last B
