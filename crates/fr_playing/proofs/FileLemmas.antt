-- The result of `play_file`, from the results of its parts.
use Rattle.std.proofs.Common.{ℕ, List, Option, None, Ok, Err, ◌≡◌, subst}
use Rattle.fr_files.proofs.InputLemmas.{for_text_map}
use Rattle.fr_files.specs.Inputs.{ForText}
use Rattle.fr_files.specs.declared.error.BenchError.TheVariants as bench
use Rattle.fr_core.specs.Scripts.{Scripted}
use Rattle.fr_names.specs.Names.{NamesOfNode}
use Rattle.fr_outcome.specs.declared.file_error.FileError.{FileError}
use Rattle.fr_outcome.specs.declared.file_error.FileError.TheVariants as file
use Rattle.fr_outcome.specs.ScenarioFiles.{IsScenarioOf, RunIsRefused}
use Rattle.fr_playing.specs.declared.error.PlayError.{PlayError}
use Rattle.fr_playing.specs.declared.error.PlayError.TheVariants as refusal
use Rattle.fr_playing.specs.declared.play.Played.{Played}
use Rattle.fr_playing.specs.Files.{IsPlayOf}
use Rattle.fr_playing.specs.Playing.{IsPlayed}
use Rattle.fr_playing.specs.Settled.{IsSettled}
use Rattle.fr_playing.specs.Refusals.{failure_of_file, refusal_of, IsOfRun}
use Rattle.fr_runs.specs.declared.fault_line.FaultLine.{FaultLine}
use Rattle.fr_runs.specs.Refusing.{Refuses}
use Rattle.fr_scenario.specs.Contents.{Contents}
use Rattle.fr_schedule.specs.Descriptions.{Description}

-- ---- the file of the scenario

not_read : (d : Description) (names : List NamesOfNode) (cycles : ℕ) (text : List ℕ) (e : FileError)
    → IsScenarioOf names cycles text (Err e)
    → IsPlayOf d names cycles text (Err (failure_of_file e))
not_read d names cycles text (file.Scenario e) is = is
not_read d names cycles text (file.Text bench.TooLong) is = is
not_read d names cycles text (file.Text bench.Read) is = tt
not_read d names cycles text (file.Text bench.Memory) is = tt
not_read d names cycles text (file.Text bench.Write) is = absurd is
not_read d names cycles text (file.Text bench.BadNumber) is = absurd is
not_read d names cycles text (file.Text (bench.Config e)) is = absurd is
not_read d names cycles text (file.Text (bench.Midpoint e)) is = absurd is

pub file_refused : (d : Description) (names : List NamesOfNode) (cycles : ℕ) (text : Option (List ℕ)) (e : FileError)
    → ForText text (λ t. IsScenarioOf names cycles t (Err e))
    → ForText text (λ t. IsPlayOf d names cycles t (Err (failure_of_file e)))
file_refused d names cycles text e is =
    for_text_map text (λ t. IsScenarioOf names cycles t (Err e)) (λ t. IsPlayOf d names cycles t (Err
    (failure_of_file e)))
    (λ t here. not_read d names cycles t e here) is

-- ---- the run
refused_by : (d : Description) (names : List NamesOfNode) (cycles : ℕ) (text : List ℕ) (e : PlayError) → IsOfRun e
    → RunIsRefused d names cycles text (refusal_of e) → IsPlayOf d names cycles text (Err e)
refused_by d names cycles text (refusal.Run e) is told = told
refused_by d names cycles text (refusal.Step e) is told = told
refused_by d names cycles text refusal.Unfinished is told = told
refused_by d names cycles text refusal.UnknownNode is told = absurd is
refused_by d names cycles text (refusal.Scenario e) is told = absurd is
refused_by d names cycles text (refusal.Text bench.Memory) is told = tt
refused_by d names cycles text (refusal.Text bench.TooLong) is told = absurd is
refused_by d names cycles text (refusal.Text bench.Read) is told = absurd is
refused_by d names cycles text (refusal.Text bench.Write) is told = absurd is
refused_by d names cycles text (refusal.Text bench.BadNumber) is told = absurd is
refused_by d names cycles text (refusal.Text (bench.Config e)) is told = absurd is
refused_by d names cycles text (refusal.Text (bench.Midpoint e)) is told = absurd is

unplayed_in : (d : Description) (names : List NamesOfNode) (cycles : ℕ) (text : List ℕ) (contents : Contents)
    (scripts : List Scripted)
    (faults : List FaultLine) (e : PlayError)
    → scripts ≡ contents.scripts → faults ≡ contents.faults → IsScenarioOf names cycles text (Ok contents) → IsOfRun e
    → Refuses d scripts faults cycles (refusal_of e) → IsPlayOf d names cycles text (Err e)
unplayed_in d names cycles text contents scripts faults e same_scripts same_faults read kind refuses =
    refused_by d names cycles text e kind (
      read.0,
      (
        contents,
        read.1,
        subst (λ (ss : List Scripted). Refuses d ss contents.faults cycles (refusal_of e)) same_scripts
            (subst (λ (fs : List FaultLine). Refuses d scripts fs cycles (refusal_of e)) same_faults refuses),
      ),
    )

-- the reason why there is no run with the scenario that was read
pub unplayed : (d : Description) (names : List NamesOfNode) (cycles : ℕ) (text : Option (List ℕ)) (contents : Contents)
    (scripts : List Scripted)
    (faults : List FaultLine) (e : PlayError)
    → scripts ≡ contents.scripts → faults ≡ contents.faults → ForText text (λ t. IsScenarioOf names cycles t
    (Ok contents))
    → IsOfRun e
    → Refuses d scripts faults cycles (refusal_of e) → ForText text (λ t. IsPlayOf d names cycles t (Err e))
unplayed d names cycles text contents scripts faults e same_scripts same_faults read kind refuses =
    for_text_map text (λ t. IsScenarioOf names cycles t (Ok contents)) (λ t. IsPlayOf d names cycles t (Err e))
    (λ t here. unplayed_in d names cycles t contents scripts faults e same_scripts same_faults here kind refuses) read

played_in : (d : Description) (names : List NamesOfNode) (cycles : ℕ) (text : List ℕ) (contents : Contents)
    (scripts : List Scripted)
    (faults : List FaultLine) (played : Played)
    → scripts ≡ contents.scripts → faults ≡ contents.faults → IsScenarioOf names cycles text (Ok contents)
    → Refuses d scripts faults cycles None
    → IsPlayed d scripts faults cycles played → IsSettled d scripts faults cycles played
    → IsPlayOf d names cycles text (Ok (record { scenario = contents; played = played }))
played_in d names cycles text contents scripts faults played same_scripts same_faults read refuses is settled =
    let refused : Refuses d contents.scripts contents.faults cycles None =
    subst (λ (ss : List Scripted). Refuses d ss contents.faults cycles None) same_scripts
    (subst (λ (fs : List FaultLine). Refuses d scripts fs cycles None) same_faults refuses) in
    let run : IsPlayed d contents.scripts contents.faults cycles played =
    subst (λ (ss : List Scripted). IsPlayed d ss contents.faults cycles played) same_scripts
    (subst (λ (fs : List FaultLine). IsPlayed d scripts fs cycles played) same_faults is) in
    let compared : IsSettled d contents.scripts contents.faults cycles played =
    subst (λ (ss : List Scripted). IsSettled d ss contents.faults cycles played) same_scripts
    (subst (λ (fs : List FaultLine). IsSettled d scripts fs cycles played) same_faults settled) in
    ((read.0, (contents, read.1, refused)), (read.1, run, compared))

-- the run with the scenario that was read
pub played_of : (d : Description) (names : List NamesOfNode) (cycles : ℕ) (text : Option (List ℕ))
    (contents : Contents) (scripts : List Scripted)
    (faults : List FaultLine) (played : Played)
    → scripts ≡ contents.scripts → faults ≡ contents.faults → ForText text (λ t. IsScenarioOf names cycles t
    (Ok contents))
    → Refuses d scripts faults cycles None
    → IsPlayed d scripts faults cycles played → IsSettled d scripts faults cycles played
    → ForText text (λ t. IsPlayOf d names cycles t (Ok (record { scenario = contents; played = played })))
played_of d names cycles text contents scripts faults played same_scripts same_faults read refuses is settled =
    for_text_map text (λ t. IsScenarioOf names cycles t (Ok contents))
    (λ t. IsPlayOf d names cycles t (Ok (record { scenario = contents; played = played })))
    (λ t here. played_in d names cycles t contents scripts faults played same_scripts same_faults here refuses is
    settled)
    read
