-- The views of a run (project-defined).
use Rattle.std.specs.Prelude.{⊤, ◌≡◌, ℕ, List, length, slice_get, Option, Some, None, option_map, IsSome}
use Rattle.std.specs.Prelude.{Result, Ok, Err}
use Rattle.std.specs.Io.KnownBytes.{Appends}
use Rattle.std.specs.List.{flat_map}
use Rattle.fr_expecting.specs.Expected.{missed_by}
use Rattle.fr_files.specs.declared.error.BenchError.TheVariants as bench
use Rattle.fr_files.specs.Inputs.{ForText}
use Rattle.fr_files.specs.Outputs.{FallsShort}
use Rattle.fr_core.specs.Worlds.{WorldState}
use Rattle.fr_lines.specs.declared.versions.Version.TheVariants.{Three}
use Rattle.fr_matrix.specs.Cells.{IsMatrix}
use Rattle.fr_names.specs.Names.{NamesOfNode}
use Rattle.fr_outcome.specs.OutcomeText.{outcome_text}
use Rattle.fr_outcome.specs.ScenarioFiles.{RunIsRefused}
use Rattle.fr_playing.specs.Files.{IsPlayIn, IsPlayOf}
use Rattle.fr_playing.specs.declared.error.PlayError.TheVariants as refusal
use Rattle.fr_playing.specs.declared.error.PlayError.{PlayError}
use Rattle.fr_playing.specs.declared.file.PlayedFile.{PlayedFile}
use Rattle.fr_schedule.specs.Descriptions.{Description}
use Rattle.fr_showing.specs.AnswerText.{answer_line}
use Rattle.fr_showing.specs.CommitText.{commit_line, commits}
use Rattle.fr_showing.specs.declared.show.Notes.{Notes}
use Rattle.fr_showing.specs.declared.shown.Shown.TheVariants.{Outcome, Answers, Commits, Record, Windows, Heard, Matrix}
use Rattle.fr_showing.specs.declared.shown.Shown.TheVariants.{Trace}
use Rattle.fr_showing.specs.declared.shown.Shown.{Shown}
use Rattle.fr_showing.specs.Idle.{idle_lines}
use Rattle.fr_showing.specs.Listening.{capture_of}
use Rattle.fr_showing.specs.RecordText.{record_text}
use Rattle.fr_showing.specs.Spans.{spans_text}
use Rattle.fr_trace.specs.TraceText.{trace_text}

-- ---- the texts

-- the cluster has the node whose observations are shown, if the view names one
abbrev pub HasViewer : Option ℕ → WorldState → Type 0
HasViewer None w = ⊤
HasViewer (Some node) w = IsSome (slice_get w.interfaces node)

-- this is the view of a run
abbrev pub IsShown : Shown → PlayedFile → List ℕ → Type 0
IsShown Outcome file text = text ≡ outcome_text file.played.world.interfaces (length file.played.world.bus.sealed)
IsShown Answers file text = text ≡ flat_map (answer_line file.played.world) file.played.calls.items
IsShown Commits file text = text ≡ flat_map (commit_line file.played.world) (commits file.played.world)
IsShown Record file text =
    text ≡ record_text file.scenario file.played.world.bus.cluster.params file.played.world.bus.sealed
IsShown Windows file text =
    text ≡ spans_text file.played.world.bus.cluster.params file.played.world.bus.sealed
IsShown Heard file text =
    text ≡ capture_of file.played.world.bus.cluster.params file.played.world.bus.sealed
IsShown (Matrix view) file text =
    HasViewer view.node file.played.world
    × IsMatrix file.played.world.bus.cluster.params view file.played.world.bus.sealed text
IsShown (Trace node) file text =
    option_map (trace_text Three) (slice_get file.played.world.interfaces node) ≡ Some text

-- the cluster doesn't have the node that is to be shown, or whose observations are to be shown
abbrev pub LacksViewer : Option ℕ → WorldState → Type 0
LacksViewer None w = ⊥
LacksViewer (Some node) w = slice_get w.interfaces node ≡ None

abbrev pub LacksNode : Shown → PlayedFile → Type 0
LacksNode Outcome file = ⊥
LacksNode Answers file = ⊥
LacksNode Commits file = ⊥
LacksNode Record file = ⊥
LacksNode Windows file = ⊥
LacksNode Heard file = ⊥
LacksNode (Matrix view) file = LacksViewer view.node file.played.world
LacksNode (Trace node) file = slice_get file.played.world.interfaces node ≡ None

-- ---- the output

-- The fault lines that had no effect in the run of so many cycles, the lines that name cycles, but none of the run, and
-- the expectations that the run missed.
pub record AreNotes (cycles : ℕ) (file : PlayedFile) (notes : Notes) : Type 0 where
  pub idle : notes.idle.items ≡ idle_lines file
  pub skipped : notes.skipped.items ≡ file.scenario.skipped
  pub missed : notes.missed.items ≡ missed_by cycles file.played.world.interfaces file.scenario.expected

-- the text of a run with that scenario was written, and nothing else, and these are the notes on its lines
abbrev pub Adds : Description → List NamesOfNode → ℕ → Shown → Option (List ℕ) → Option (List ℕ) → Notes → List ℕ
    → Type 0
Adds d names cycles shown old new notes text =
    (file : PlayedFile) × (written : List ℕ) × IsPlayIn d names cycles text file × IsShown shown file written
    × Appends old new written × AreNotes cycles file notes

-- a front of the text of a run with that scenario was written, and nothing else
abbrev pub AddsFront : Description → List NamesOfNode → ℕ → Shown → Option (List ℕ) → Option (List ℕ) → List ℕ → Type 0
AddsFront d names cycles shown old new text =
    (file : PlayedFile) × (written : List ℕ) × IsPlayIn d names cycles text file × IsShown shown file written
    × FallsShort old new written

-- The view of a run with the text of the scenario was written, and notes on its lines are returned. After `Write`
-- a front of such a view was written. Every other refusal leaves the writer unchanged.
abbrev pub Prints : Description → List NamesOfNode → ℕ → Shown → Option (List ℕ) → Option (List ℕ) → Option (List ℕ)
    → Result Notes PlayError
    → Type 0
Prints d names cycles shown text old new (Ok notes) = ForText text (Adds d names cycles shown old new notes)
Prints d names cycles shown text old new (Err (refusal.Text bench.Write)) =
    ForText text (AddsFront d names cycles shown old new)
Prints d names cycles shown text old new (Err e) = new ≡ old

-- ---- the reason why no view was written

-- The run is refused with this error, or the cluster doesn't have the node, or only the writer failed.
abbrev pub Tells : Description → List NamesOfNode → ℕ → Shown → List ℕ → Result Notes PlayError → Type 0
Tells d names cycles shown text (Ok notes) = RunIsRefused d names cycles text None
Tells d names cycles shown text (Err refusal.UnknownNode) =
    (file : PlayedFile) × IsPlayIn d names cycles text file × LacksNode shown file
Tells d names cycles shown text (Err (refusal.Text bench.Write)) = RunIsRefused d names cycles text None
Tells d names cycles shown text (Err e) = IsPlayOf d names cycles text (Err e)
