-- The observations that a world keeps of its bus's last window (project-defined).
use Rattle.std.specs.Prelude.{◌≡◌}
use Rattle.fr_bus.specs.States.{BusState, last_heard}
use Rattle.fr_slots.specs.declared.channel.Channel.TheVariants.{A, B}
use Rattle.fr_status.specs.Forms.{Seen}

-- a node that sends nothing observes these on channel A and on channel B
pub record AreHeard (b : BusState) (a c : Seen) : Type 0 where
  pub on_a : a ≡ last_heard b A
  pub on_b : c ≡ last_heard b B
