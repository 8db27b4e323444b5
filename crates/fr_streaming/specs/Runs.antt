-- The run of a scenario in a world without history, and the reasons why there is none (project-defined).
use Rattle.std.specs.Prelude.{⊤, ◌≡◌, ◌⊎◌, ℕ, ◌<◌, ◌==◌, ◌++◌, Bool, true, false, List, length, min, Option, Some}
use Rattle.std.specs.Prelude.{None, Result}
use Rattle.std.specs.Prelude.{Ok, Err, map}
use Rattle.std.specs.Io.KnownBytes.{Appends, Keeps}
use Rattle.std.specs.List.{list_any}
use Rattle.fr_bus.specs.declared.error.BusError.TheVariants as bus
use Rattle.fr_bus.specs.Live.{cycles_suit}
use Rattle.fr_core.specs.declared.error.StepError.{StepError}
use Rattle.fr_core.specs.declared.error.StepError.TheVariants as step
use Rattle.fr_core.specs.declared.script.Line.{Line}
use Rattle.fr_core.specs.Headline.{Headline}
use Rattle.fr_core.specs.Scripts.{Scripted}
use Rattle.fr_core.specs.Settling.{IsFirst}
use Rattle.fr_core.specs.Worlds.{WorldState, opening_world}
use Rattle.fr_files.specs.declared.error.BenchError.TheVariants as bench
use Rattle.fr_bus.specs.States.{cycles_fit}
use Rattle.fr_files.specs.Inputs.{ForText}
use Rattle.fr_live.specs.LiveWorlds.{Entries, LiveState, IsWorldHistory, with_room}
use Rattle.fr_names.specs.Names.{NamesOfNode}
use Rattle.fr_outcome.specs.ScenarioFiles.{IsShort, IsRefused}
use Rattle.fr_playing.specs.declared.error.PlayError.{PlayError}
use Rattle.fr_playing.specs.declared.error.PlayError.TheVariants as refusal
use Rattle.fr_playing.specs.Calls.{asked_of}
use Rattle.fr_playing.specs.declared.call.ExecutedCall.{ExecutedCall}
use Rattle.fr_playing.specs.Moving.{whole_window}
use Rattle.fr_playing.specs.Playing.{asked_by, PlaysCycles}
use Rattle.fr_runs.specs.declared.check.RunRefusal.{RunRefusal}
use Rattle.fr_runs.specs.declared.check.RunRefusal.TheVariants.{BadCycles, BadScript, BadFault, NoRoom}
use Rattle.fr_runs.specs.Refusing.{EachFaultSuits, EachScriptSuits}
use Rattle.fr_runs.specs.Suiting.{FaultSuits, ScriptSuits}
use Rattle.fr_scenario.specs.Contents.{Contents}
use Rattle.fr_scenario.specs.AnyText.{IsScenarioText}
use Rattle.fr_schedule.specs.Descriptions.{Description}
use Rattle.fr_slots.specs.Numbers.{last_host_limit, last_slot_limit}
use Rattle.fr_streaming.specs.declared.hindrance.Hindrance.{Hindrance}
use Rattle.fr_streaming.specs.declared.hindrance.Hindrance.TheVariants as hindrance
use Rattle.fr_streaming.specs.declared.stream.StreamNotes.{StreamNotes}
use Rattle.fr_streaming.specs.declared.telling.Streamed.{Streamed}
use Rattle.fr_streaming.specs.Streams.{Executes, IsTold}

-- ---- refusals

-- the end of a run in which the world refuses an event
abbrev pub hindrance_of : StepError → Hindrance
hindrance_of (step.Bus bus.Memory) = hindrance.Memory
hindrance_of e = hindrance.Step e

abbrev pub error_of : Hindrance → PlayError
error_of (hindrance.Step e) = refusal.Step e
error_of hindrance.Unfinished = refusal.Unfinished
error_of hindrance.Memory = refusal.Text bench.Memory
error_of hindrance.Write = refusal.Text bench.Write

-- want of room in a journal is no reason to refuse a run without history
abbrev pub kept_refusal : Result (Unit {0}) RunRefusal → Result (Unit {0}) PlayError
kept_refusal (Ok done) = Ok tt
kept_refusal (Err (NoRoom n)) = Ok tt
kept_refusal (Err e) = Err (refusal.Run e)

-- The number of the run's cycles for which the scenario is read. Its calls are in cycles 0 to 1023, also those of `*`,
-- and a fault line of `*` is for every cycle of the run.
abbrev pub cycles_named : ℕ → ℕ
cycles_named cycles = min cycles 1024

-- The number of cycles, then the scripts, then the faults. The first that doesn't fit is named. The room of journals
-- isn't asked for.
abbrev pub RefusesStream : Description → Contents → ℕ → Option RunRefusal → Type 0
RefusesStream d s cycles None =
    (cycles_suit d.params cycles ≡ true) × EachScriptSuits d (cycles_named cycles) s.scripts
    × EachFaultSuits d (cycles_named cycles) s.faults
RefusesStream d s cycles (Some BadCycles) = cycles_suit d.params cycles ≡ false
RefusesStream d s cycles (Some (BadScript i)) =
    (cycles_suit d.params cycles ≡ true) × IsFirst (ScriptSuits d (cycles_named cycles) s.scripts) i
RefusesStream d s cycles (Some (BadFault i)) =
    (cycles_suit d.params cycles ≡ true) × EachScriptSuits d (cycles_named cycles) s.scripts
    × IsFirst (FaultSuits d (cycles_named cycles) s.faults) i
RefusesStream d s cycles (Some (NoRoom n)) = ⊥

abbrev pub StreamIsRefused : Description → List NamesOfNode → ℕ → List ℕ → Option RunRefusal → Type 0
StreamIsRefused d names cycles text refused =
    IsShort text × ((s : Contents) × IsScenarioText names (cycles_named cycles) text s
    × RefusesStream d s cycles refused)

-- the scenario suits a run of this many cycles, at most 1,024, but for the room of journals, or it doesn't
abbrev pub ChecksStream : Description → Contents → ℕ → Result (Unit {0}) PlayError → Type 0
ChecksStream d s named (Ok done) =
    (cycles_fit named ≡ true) × EachScriptSuits d named s.scripts × EachFaultSuits d named s.faults
ChecksStream d s named (Err (refusal.Run BadCycles)) = cycles_fit named ≡ false
ChecksStream d s named (Err (refusal.Run (BadScript i))) = IsFirst (ScriptSuits d named s.scripts) i
ChecksStream d s named (Err (refusal.Run (BadFault i))) =
    EachScriptSuits d named s.scripts × IsFirst (FaultSuits d named s.faults) i
ChecksStream d s named (Err e) = ⊥

-- ---- the run

-- the most calls of host and controller that entry numbers allow
abbrev pub most_entries : Entries
most_entries = record { host = last_host_limit; slot = last_slot_limit }

-- the opening world of the cluster, whose journals have the greatest room
abbrev pub opening : Description → ℕ → WorldState
opening d cycles = opening_world (with_room most_entries d) cycles

-- the world without history that the opening world leads to, or none
abbrev pub OpensStream : Description → ℕ → Result LiveState PlayError → Type 0
OpensStream d cycles (Ok l) = (cycles_suit d.params cycles ≡ true) × IsWorldHistory l (opening d cycles)
OpensStream d cycles (Err (refusal.Run BadCycles)) = cycles_suit d.params cycles ≡ false
OpensStream d cycles (Err (refusal.Text bench.Memory)) = ⊤
OpensStream d cycles (Err e) = ⊥

-- The events of a run of the cluster with the scenario lead to this world, with these calls, and the run is over. They
-- are the events and the calls of `IsPlayed`, from the opening world with the greatest room.
pub record IsStreamed (d : Description) (s : Contents) (cycles : ℕ) (w : WorldState) (calls : List ExecutedCall)
    : Type 0 where
  pub cycles_are : PlaysCycles s.scripts s.faults (whole_window (length d.plans)) cycles (opening d cycles) calls w
  -- each line of the run is executed, once, and in this order
  pub asked : map asked_of calls ≡ asked_by cycles s.scripts
  pub over : w.bus.opened ≡ None
  -- the headline promise, of the world with its whole history
  pub headline : Headline w

-- the view of a run with the scenario was written, and nothing else
abbrev pub AddsStream : Description → ℕ → Streamed → Contents → Option (List ℕ) → Option (List ℕ) → Type 0
AddsStream d cycles streamed s before after =
    (w : WorldState) × (calls : List ExecutedCall) × IsStreamed d s cycles w calls
    × ((text : List ℕ) × IsTold streamed s d w calls text × Appends before after text)

-- the last cycle that a scenario names
abbrev pub last_named : ℕ
last_named = 1023

abbrev pub is_last : Line → Bool
is_last line = line.cycle == last_named

-- the script has a call in that cycle
abbrev pub calls_last : Scripted → Bool
calls_last script = list_any is_last script.lines

-- the lines of the scenario that name cycles, but none that it is read for, those of the expectations that are left,
-- and whether a call is in the last cycle that a scenario names
pub record AreNotes (s : Contents) (notes : StreamNotes) : Type 0 where
  pub skipped : notes.skipped.items ≡ s.skipped
  pub unjudged : notes.unjudged.items ≡ map (λ x. x.line) s.expected
  pub calls_last : notes.calls_last ≡ list_any calls_last s.scripts

-- the same with the scenario that the text spells, and with the notes on it
abbrev pub Streams : Description → List NamesOfNode → ℕ → Streamed → Option (List ℕ) → Option (List ℕ) → StreamNotes
    → List ℕ → Type 0
Streams d names cycles streamed before after notes text =
    (s : Contents) × IsScenarioText names (cycles_named cycles) text s × AddsStream d cycles streamed s before after
    × AreNotes s notes

-- ---- the reason why there is none

-- the error of a run that isn't refused, or of a refused one
abbrev pub TellsStream : {A : Type 0} → Description → List NamesOfNode → ℕ → List ℕ → Result A PlayError → Type 0
TellsStream d names cycles text (Ok done) = StreamIsRefused d names cycles text None
TellsStream d names cycles text (Err (refusal.Run e)) = StreamIsRefused d names cycles text (Some e)
TellsStream d names cycles text (Err (refusal.Step e)) = StreamIsRefused d names cycles text None
TellsStream d names cycles text (Err refusal.Unfinished) = StreamIsRefused d names cycles text None
TellsStream d names cycles text (Err refusal.UnknownNode) = ⊥
TellsStream d names cycles text (Err (refusal.Scenario e)) = IsShort text × IsRefused names (cycles_named cycles) text e
TellsStream d names cycles text (Err (refusal.Text bench.TooLong)) = 1048576 < length text
TellsStream d names cycles text (Err (refusal.Text bench.Write)) = StreamIsRefused d names cycles text None
TellsStream d names cycles text (Err (refusal.Text bench.Read)) = ⊤
TellsStream d names cycles text (Err (refusal.Text bench.Memory)) = ⊤
TellsStream d names cycles text (Err (refusal.Text e)) = ⊥

-- the same for a run whose scenario was read
abbrev pub TellsRun : Description → Contents → ℕ → Result (Unit {0}) PlayError → Type 0
TellsRun d s cycles (Ok done) = RefusesStream d s cycles None
TellsRun d s cycles (Err (refusal.Run e)) = RefusesStream d s cycles (Some e)
TellsRun d s cycles (Err (refusal.Step e)) = RefusesStream d s cycles None
TellsRun d s cycles (Err refusal.Unfinished) = RefusesStream d s cycles None
TellsRun d s cycles (Err (refusal.Text bench.Write)) = RefusesStream d s cycles None
TellsRun d s cycles (Err (refusal.Text bench.Memory)) = ⊤
TellsRun d s cycles (Err e) = ⊥

-- ---- what was written before an error

-- Accepted events lead from the opening world to this one, with these calls of tasks. A front of their view was
-- written, and nothing else.
abbrev pub Cuts : Description → Contents → ℕ → Streamed → Option (List ℕ) → Option (List ℕ) → Type 0
Cuts d s cycles streamed before after =
    (w : WorldState) × (calls : List ExecutedCall) × (front : List ℕ) × (rest : List ℕ)
    × Executes (opening d cycles) calls w × IsTold streamed s d w calls (front ++ rest)
    × Appends before after front

abbrev pub CutsRun : Description → Contents → ℕ → Streamed → Option (List ℕ) → Option (List ℕ) → PlayError → Type 0
CutsRun d s cycles streamed before after (refusal.Step e) = Cuts d s cycles streamed before after
CutsRun d s cycles streamed before after refusal.Unfinished = Cuts d s cycles streamed before after
CutsRun d s cycles streamed before after (refusal.Text bench.Write) = Cuts d s cycles streamed before after
CutsRun d s cycles streamed before after (refusal.Text bench.Memory) =
    Keeps before after ⊎ Cuts d s cycles streamed before after
CutsRun d s cycles streamed before after e = Keeps before after

-- the same with the scenario that the text spells
abbrev pub CutsText : Description → List NamesOfNode → ℕ → Streamed → Option (List ℕ) → Option (List ℕ) → PlayError
    → List ℕ → Type 0
CutsText d names cycles streamed before after e text =
    (s : Contents) × IsScenarioText names (cycles_named cycles) text s × CutsRun d s cycles streamed before after e

-- An error of the file leaves the output unchanged.
abbrev pub CutsStream : Description → List NamesOfNode → ℕ → Streamed → Option (List ℕ) → Option (List ℕ)
    → Option (List ℕ) → PlayError
    → Type 0
CutsStream d names cycles streamed text before after (refusal.Scenario e) = Keeps before after
CutsStream d names cycles streamed text before after (refusal.Text bench.Read) = Keeps before after
CutsStream d names cycles streamed text before after (refusal.Text bench.TooLong) = Keeps before after
CutsStream d names cycles streamed text before after (refusal.Text bench.Memory) =
    Keeps before after ⊎ ForText text (CutsText d names cycles streamed before after (refusal.Text bench.Memory))
CutsStream d names cycles streamed text before after e = ForText text (CutsText d names cycles streamed before after e)
