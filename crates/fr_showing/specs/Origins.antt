-- The line of a scenario from which each fault of a record comes (project-defined).
use Rattle.std.specs.Prelude.{ℕ, Bool, ◌&&◌, Option, option_and_then, position, slice_get}
use Rattle.fr_bus.specs.declared.outcome.Sent.{Sent}
use Rattle.fr_runs.specs.declared.fault_line.FaultLine.{FaultLine}
use Rattle.fr_runs.specs.Effects.{brings, turns}
use Rattle.fr_runs.specs.Striking.{strikes}
use Rattle.fr_scenario.specs.Contents.{Contents}
use Rattle.fr_slots.specs.declared.channel.Channel.{Channel}
use Rattle.fr_slots.specs.Windows.{Opportunity}

-- ---- a line with an effect in a window, which lies in the cycle of this number of the run

abbrev pub has_brought : ℕ → Opportunity → Sent → FaultLine → Bool
has_brought cycle w t line = strikes line cycle w && brings t line.fault

abbrev pub has_turned : ℕ → Opportunity → Channel → FaultLine → Bool
has_turned cycle w channel line = strikes line cycle w && turns channel line.fault

-- ---- its number in the text of the scenario

-- The number of the first fault line of which this holds, if there is one. In a run that the cluster accepts, at most
-- one line has the same effect in one window.
abbrev pub number_of : (FaultLine → Bool) → Contents → Option ℕ
number_of holds s = option_and_then (slice_get s.numbers) (position holds s.faults)

-- The line from which a transmission comes: for a babble the line of the babble, and for a muted offer the line of the
-- mute. Any other transmission comes from none.
abbrev pub origin_of_sent : Contents → ℕ → Opportunity → Sent → Option ℕ
origin_of_sent s cycle w t = number_of (has_brought cycle w t) s

-- the line that flips a bit on the channel
abbrev pub origin_of_bit : Contents → ℕ → Opportunity → Channel → Option ℕ
origin_of_bit s cycle w channel = number_of (has_turned cycle w channel) s
