-- The fields of `Run` as the parts of a run.
use Rattle.std.specs.Prelude.{ℕ, List}
use Rattle.fr_core.specs.declared.event.Event.{Event}
use Rattle.fr_core.specs.Scripts.{Scripted}
use Rattle.fr_core.specs.Worlds.{WorldState}
use Rattle.fr_playing.specs.declared.call.ExecutedCall.{ExecutedCall}
use Rattle.fr_runs.specs.declared.fault_line.FaultLine.{FaultLine}
use Rattle.fr_streaming.specs.declared.telling.Run.{Run}
use Rattle.fr_streaming.specs.Streams.{TellsBetween}

abbrev pub due_of : Run → List Event
due_of run = run.due.now

abbrev pub scripts_of : Run → List Scripted
scripts_of run = run.scenario.now.scripts

abbrev pub faults_of : Run → List FaultLine
faults_of run = run.scenario.now.faults

-- what the view has of the way from a world to another, with these calls on it
abbrev pub tells : Run → WorldState → List ExecutedCall → WorldState → List ℕ → Type 0
tells run = TellsBetween run.streamed run.scenario.now run.cluster.now
