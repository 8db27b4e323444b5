-- The effect of `run` on the text of a scenario (project-defined).
use Rattle.std.specs.Prelude.{⊤, ◌≡◌, ◌<◌, ℕ, Bool, not, List, length, Option, None, Result, Ok, Err}
use Rattle.std.specs.Io.KnownBytes.{Appends}
use Rattle.fr_expecting.specs.Expected.{missed_by}
use Rattle.fr_files.specs.ClusterFiles.{IsClusterOf}
use Rattle.fr_files.specs.Inputs.{ForText}
use Rattle.fr_files.specs.Outputs.{FallsShort}
use Rattle.fr_files.specs.declared.error.BenchError.{BenchError}
use Rattle.fr_files.specs.declared.error.BenchError.TheVariants as bench
use Rattle.fr_names.specs.NamedFiles.{IsNamedClusterOf}
use Rattle.fr_names.specs.Names.{NamesOfNode}
use Rattle.fr_outcome.specs.declared.file_error.FileError.{FileError}
use Rattle.fr_outcome.specs.declared.file_error.FileError.TheVariants as file
use Rattle.fr_outcome.specs.OutcomeText.{outcome_text}
use Rattle.fr_outcome.specs.ScenarioFiles.{IsShort, IsRefused, RunIsRefused}
use Rattle.fr_runs.specs.Effects.{idle_lines}
use Rattle.fr_threads.specs.declared.outcome.RunNotes.{RunNotes}
use Rattle.fr_threads.specs.declared.outcome_error.OutcomeError.{OutcomeError}
use Rattle.fr_threads.specs.declared.outcome_error.OutcomeError.TheVariants as refusal
use Rattle.fr_scenario.specs.Contents.{Contents}
use Rattle.fr_scenario.specs.AnyText.{IsScenarioText}
use Rattle.fr_schedule.specs.Descriptions.{Description}
use Rattle.fr_threads.specs.declared.run.Run.{Run}
use Rattle.fr_threads.specs.Running.{IsRunOf, refusal_of}

-- ---- the file of a scenario

-- an error of a scenario file, as an error of the command
abbrev pub file_failure : FileError → OutcomeError
file_failure (file.Text e) = refusal.Text e
file_failure (file.Scenario e) = refusal.Scenario e

-- ---- the outcome

-- This is the outcome of a run of the cluster for this number of cycles, free-running or in lockstep, with the scenario
-- that the text spells for a cluster with these names. The run has the scenario's scripts, and exactly its faults.
pub record IsOutcome (d : Description) (names : List NamesOfNode) (cycles : ℕ) (free : Bool) (text outcome : List ℕ)
    : Type 0 where
  pub contents : Contents
  pub spelled : IsScenarioText names cycles text contents
  pub run : Run
  pub is_run : IsRunOf d contents.scripts contents.faults cycles (not free) run
  pub outcome_is : outcome ≡ outcome_text run.interfaces.items run.settled.windows

-- After a run of so many cycles with the scenario these are the lines that name cycles, but none of the run, the lines
-- of faults without effect, and the expectations that the run missed.
pub record AreNotes (cycles : ℕ) (contents : Contents) (run : Run) (notes : RunNotes) : Type 0 where
  pub skipped : notes.skipped.items ≡ contents.skipped
  pub idle : notes.idle.items ≡ idle_lines run.bus.sealed contents.faults contents.numbers
  pub missed : notes.missed.items ≡ missed_by cycles run.interfaces.items contents.expected

-- such an outcome was written, and nothing else, and these are the notes on the scenario
abbrev pub Adds : Description → List NamesOfNode → ℕ → Bool → Option (List ℕ) → Option (List ℕ) → RunNotes → List ℕ
    → Type 0
Adds d names cycles free old new notes text =
    (outcome : List ℕ) × (is : IsOutcome d names cycles free text outcome) × Appends old new outcome
    × AreNotes cycles is.contents is.run notes

-- a front of such an outcome was written, and at least one byte of it is missing
abbrev pub AddsFront : Description → List NamesOfNode → ℕ → Bool → Option (List ℕ) → Option (List ℕ) → List ℕ → Type 0
AddsFront d names cycles free old new text =
    (outcome : List ℕ) × IsOutcome d names cycles free text outcome × FallsShort old new outcome

-- The outcome of a run with the text of the scenario was written, and the notes on the scenario are returned. After
-- `Write` a front of such an outcome was written. Every other refusal leaves the writer unchanged.
abbrev pub Prints : Description → List NamesOfNode → ℕ → Bool → Option (List ℕ) → Option (List ℕ) → Option (List ℕ)
    → Result RunNotes OutcomeError
    → Type 0
Prints d names cycles free text old new (Ok notes) = ForText text (Adds d names cycles free old new notes)
Prints d names cycles free text old new (Err (refusal.Text bench.Write)) =
    ForText text (AddsFront d names cycles free old new)
Prints d names cycles free text old new (Err e) = new ≡ old

-- ---- the reason why no outcome was written

-- The text of the scenario is rejected with this error, or the run with it, or the cluster accepts the run. Nothing is
-- stated for a failing reader, a failed allocation, or a failure of threads in a run that the cluster accepts.
abbrev pub Answers : Description → List NamesOfNode → ℕ → List ℕ → Result RunNotes OutcomeError → Type 0
Answers d names cycles text (Ok done) = RunIsRefused d names cycles text None
Answers d names cycles text (Err (refusal.Run e)) = RunIsRefused d names cycles text (refusal_of e)
Answers d names cycles text (Err (refusal.Scenario e)) = IsShort text × IsRefused names cycles text e
Answers d names cycles text (Err (refusal.Text bench.TooLong)) = 1048576 < length text
Answers d names cycles text (Err (refusal.Text bench.Write)) = RunIsRefused d names cycles text None
Answers d names cycles text (Err (refusal.Text bench.Read)) = ⊤
Answers d names cycles text (Err (refusal.Text bench.Memory)) = ⊤
Answers d names cycles text (Err e) = ⊥

-- ---- a cluster file and a scenario

-- The cluster file is rejected with this error, no byte of the scenario is read, and nothing is written.
pub record IsFileRefused (file text rest old new : Option (List ℕ))
    (answer : Result RunNotes OutcomeError) : Type 0 where
  pub error : BenchError
  pub refused : ForText file (λ bytes. IsClusterOf bytes (Err error))
  pub answer_is : answer ≡ Err (refusal.Text error)
  pub unread : rest ≡ text
  pub unwritten : new ≡ old

-- The cluster file describes a cluster with names, and this is the effect of `run` with them.
pub record IsFileRun (file : Option (List ℕ)) (cycles : ℕ) (free : Bool) (text old new : Option (List ℕ))
    (answer : Result RunNotes OutcomeError)
    : Type 0 where
  pub cluster : Description
  pub names : List NamesOfNode
  pub described : ForText file (λ bytes. IsNamedClusterOf bytes (Ok (cluster, names)))
  pub printed : Prints cluster names cycles free text old new answer
  pub answered : ForText text (λ bytes. Answers cluster names cycles bytes answer)
