-- The written text is the outcome of a run with the scenario of a file. The refusal of such a run is that of a run with
-- the scenario's contents.
use Rattle.std.proofs.Common.{◌≡◌, ℕ, Bool, List, Option, Some, None, Ok, Err, refl, subst}
use Rattle.std.specs.Prelude.{not}
use Rattle.std.specs.Io.KnownBytes.{Appends}
use Rattle.fr_files.proofs.InputLemmas.{for_text_map}
use Rattle.fr_files.specs.declared.error.BenchError.TheVariants as bench
use Rattle.fr_files.specs.Inputs.{ForText}
use Rattle.fr_files.specs.Outputs.{FallsShort}
use Rattle.fr_names.specs.Names.{NamesOfNode}
use Rattle.fr_outcome.specs.declared.file_error.FileError.{FileError}
use Rattle.fr_outcome.specs.declared.file_error.FileError.TheVariants as file
use Rattle.fr_outcome.specs.OutcomeText.{outcome_text}
use Rattle.fr_outcome.specs.ScenarioFiles.{IsScenarioOf, RunIsRefused}
use Rattle.fr_threads.specs.declared.outcome.RunNotes.{RunNotes}
use Rattle.fr_threads.specs.Outcomes.{Adds, AddsFront, Answers, AreNotes, IsOutcome, Prints, file_failure}
use Rattle.fr_core.specs.Scripts.{Scripted}
use Rattle.fr_runs.specs.declared.check.RunRefusal.{RunRefusal}
use Rattle.fr_runs.specs.declared.fault_line.FaultLine.{FaultLine}
use Rattle.fr_runs.specs.Refusing.{Refuses}
use Rattle.fr_scenario.specs.Contents.{Contents}
use Rattle.fr_schedule.specs.Descriptions.{Description}
use Rattle.fr_threads.specs.declared.run.Run.{Run}
use Rattle.fr_threads.specs.Running.{IsRunOf}

-- the command rejects a file that is no scenario
not_read : (d : Description) (names : List NamesOfNode) (cycles : ℕ) (text : List ℕ) (e : FileError)
    → IsScenarioOf names cycles text (Err e)
    → Answers d names cycles text (Err (file_failure e))
not_read d names cycles text (file.Scenario e) is = is
not_read d names cycles text (file.Text bench.TooLong) is = is
not_read d names cycles text (file.Text bench.Read) is = tt
not_read d names cycles text (file.Text bench.Memory) is = tt
not_read d names cycles text (file.Text bench.Write) is = absurd is
not_read d names cycles text (file.Text bench.BadNumber) is = absurd is
not_read d names cycles text (file.Text (bench.Config e)) is = absurd is
not_read d names cycles text (file.Text (bench.Midpoint e)) is = absurd is

pub not_read_of : (d : Description) (names : List NamesOfNode) (cycles : ℕ) (text : Option (List ℕ)) (e : FileError)
    → ForText text (λ t. IsScenarioOf names cycles t (Err e))
    → ForText text (λ t. Answers d names cycles t (Err (file_failure e)))
not_read_of d names cycles text e is =
    for_text_map text (λ t. IsScenarioOf names cycles t (Err e)) (λ t. Answers d names cycles t (Err (file_failure e)))
    (λ t here. not_read d names cycles t e here) is

-- reading a scenario's file doesn't write
abbrev IsNotWrite : FileError → Type 0
IsNotWrite (file.Text bench.Write) = ⊥
IsNotWrite e = Unit {0}

not_write : (names : List NamesOfNode) (cycles : ℕ) (text : List ℕ) (e : FileError) → IsScenarioOf names cycles text
    (Err e) → IsNotWrite e
not_write names cycles text (file.Scenario e) is = tt
not_write names cycles text (file.Text bench.TooLong) is = tt
not_write names cycles text (file.Text bench.Read) is = tt
not_write names cycles text (file.Text bench.Memory) is = tt
not_write names cycles text (file.Text bench.Write) is = is
not_write names cycles text (file.Text bench.BadNumber) is = tt
not_write names cycles text (file.Text (bench.Config e)) is = tt
not_write names cycles text (file.Text (bench.Midpoint e)) is = tt

unwritten_by : (d : Description) (names : List NamesOfNode) (cycles : ℕ) (free : Bool) (text old new : Option (List ℕ))
    (e : FileError)
    → IsNotWrite e → new ≡ old → Prints d names cycles free text old new (Err (file_failure e))
unwritten_by d names cycles free text old new (file.Scenario e) is same = same
unwritten_by d names cycles free text old new (file.Text bench.TooLong) is same = same
unwritten_by d names cycles free text old new (file.Text bench.Read) is same = same
unwritten_by d names cycles free text old new (file.Text bench.Memory) is same = same
unwritten_by d names cycles free text old new (file.Text bench.Write) is same = absurd is
unwritten_by d names cycles free text old new (file.Text bench.BadNumber) is same = same
unwritten_by d names cycles free text old new (file.Text (bench.Config e)) is same = same
unwritten_by d names cycles free text old new (file.Text (bench.Midpoint e)) is same = same

pub unwritten : (d : Description) (names : List NamesOfNode) (cycles : ℕ) (free : Bool)
    (text old new : Option (List ℕ)) (e : FileError)
    → ForText text (λ t. IsScenarioOf names cycles t (Err e)) → new ≡ old
    → Prints d names cycles free text old new (Err (file_failure e))
unwritten d names cycles free None old new e (t, is) same =
    unwritten_by d names cycles free None old new e (not_write names cycles t e is) same
unwritten d names cycles free (Some t) old new e is same =
    unwritten_by d names cycles free (Some t) old new e (not_write names cycles t e is) same

-- ---- the scenario was read

abbrev outcome_of : (d : Description) (names : List NamesOfNode) (cycles : ℕ) (free : Bool) (text : List ℕ)
    (contents : Contents) (run : Run)
    → IsScenarioOf names cycles text (Ok contents) → IsRunOf d contents.scripts contents.faults cycles (not free) run
    → IsOutcome d names cycles free text (outcome_text run.interfaces.items run.settled.windows)
outcome_of d names cycles free text contents run of_text is_run =
    record { contents = contents; spelled = of_text.1; run = run; is_run = is_run; outcome_is = refl }

-- the written text is the outcome of a run with the scenario that the text spells
pub printed : (d : Description) (names : List NamesOfNode) (cycles : ℕ) (free : Bool) (text old new : Option (List ℕ))
    (contents : Contents) (run : Run) (notes : RunNotes)
    → ForText text (λ t. IsScenarioOf names cycles t (Ok contents))
    → IsRunOf d contents.scripts contents.faults cycles (not free) run
    → Appends old new (outcome_text run.interfaces.items run.settled.windows) → AreNotes cycles contents run notes
    → ForText text (Adds d names cycles free old new notes)
printed d names cycles free text old new contents run notes of_text is_run written told =
    for_text_map text (λ t. IsScenarioOf names cycles t (Ok contents)) (Adds d names cycles free old new notes)
    (λ t here. (
      outcome_text run.interfaces.items run.settled.windows,
      outcome_of d names cycles free t contents run here is_run,
      written,
      told,
    )) of_text

-- the written text is a front of such an outcome
pub printed_part : (d : Description) (names : List NamesOfNode) (cycles : ℕ) (free : Bool)
    (text old new : Option (List ℕ)) (contents : Contents)
    (run : Run)
    → ForText text (λ t. IsScenarioOf names cycles t (Ok contents))
    → IsRunOf d contents.scripts contents.faults cycles (not free) run
    → FallsShort old new (outcome_text run.interfaces.items run.settled.windows)
    → ForText text (AddsFront d names cycles free old new)
printed_part d names cycles free text old new contents run of_text is_run short =
    for_text_map text (λ t. IsScenarioOf names cycles t (Ok contents)) (AddsFront d names cycles free old new)
    (λ t here. (
      outcome_text run.interfaces.items run.settled.windows,
      outcome_of d names cycles free t contents run here is_run,
      short,
    )) of_text

-- the run with the scenario that the text spells is refused as the run with its contents
pub run_refused : (d : Description) (names : List NamesOfNode) (cycles : ℕ) (text : Option (List ℕ))
    (contents : Contents)
    (told : Option RunRefusal)
    → ForText text (λ t. IsScenarioOf names cycles t (Ok contents))
    → Refuses d contents.scripts contents.faults cycles told
    → ForText text (λ t. RunIsRefused d names cycles t told)
run_refused d names cycles text contents told of_text refuses =
    for_text_map text (λ t. IsScenarioOf names cycles t (Ok contents)) (λ t. RunIsRefused d names cycles t told)
    (λ t here. (here.0, (contents, here.1, refuses))) of_text

-- scripts and faults that are the same are refused for the same reason
pub refused_same : (d : Description) (ss ts : List Scripted) (fs gs : List FaultLine) (cycles : ℕ)
    (told : Option RunRefusal) → ss ≡ ts → fs ≡ gs → Refuses d ss fs cycles told → Refuses d ts gs cycles told
refused_same d ss ts fs gs cycles told same_scripts same_faults refuses =
    subst (λ (xs : List Scripted). Refuses d xs gs cycles told) same_scripts
    (subst (λ (xs : List FaultLine). Refuses d ss xs cycles told) same_faults refuses)
