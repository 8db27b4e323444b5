-- The scenario that is read from a file.
use Rattle.std.proofs.Common.{◌≡◌, ◌⊎◌, ℕ, List, Option, Some, Result, Ok, Err, subst, inl, inr}
use Rattle.std.specs.Str.{IsUtf8}
use Rattle.fr_files.proofs.InputLemmas.{for_text_map}
use Rattle.fr_files.specs.declared.error.BenchError.{BenchError}
use Rattle.fr_files.specs.declared.error.BenchError.TheVariants as bench
use Rattle.fr_files.specs.Inputs.{ForText, IsReadUpTo}
use Rattle.fr_names.specs.Names.{NamesOfNode}
use Rattle.fr_outcome.specs.declared.file_error.FileError.{FileError}
use Rattle.fr_outcome.specs.declared.file_error.FileError.TheVariants as refusal
use Rattle.fr_outcome.specs.ScenarioFiles.{IsRefused, IsShort, IsScenarioIn, IsScenarioOf}
use Rattle.fr_scenario.specs.Contents.{Contents}
use Rattle.fr_scenario.specs.declared.error.ScenarioError.{ScenarioError}
use Rattle.fr_scenario.specs.declared.error.ScenarioError.TheVariants as scenario
use Rattle.fr_scenario.specs.Reading.{first_fault}

pub refused_as : (names : List NamesOfNode) (cycles : ℕ) (text : List ℕ) (e : ScenarioError) → IsUtf8 text
    → (e ≡ scenario.Memory) ⊎ (first_fault names cycles text ≡ Some e) → IsRefused names cycles text e
refused_as names cycles text e utf8 (inl memory) = inl memory
refused_as names cycles text e utf8 (inr first) = inr (inl (utf8, first))

short_in : (names : List NamesOfNode) (cycles : ℕ) (text : List ℕ) (r : Result Contents FileError) → IsShort text
    → IsScenarioIn names cycles text r → IsScenarioOf names cycles text r
short_in names cycles text (Ok contents) short is = (short, is)
short_in names cycles text (Err (refusal.Scenario e)) short is = (short, is)
short_in names cycles text (Err (refusal.Text e)) short is = absurd is

-- the scenario of the bytes that were read is that of the text
pub read_in : (names : List NamesOfNode) (cycles : ℕ) (known : Option (List ℕ)) (bytes : List ℕ)
    (r : Result Contents FileError)
    → ForText known (λ text. (bytes ≡ text) × IsShort text) → IsScenarioIn names cycles bytes r
    → ForText known (λ text. IsScenarioOf names cycles text r)
read_in names cycles known bytes r read is =
    for_text_map known (λ text. (bytes ≡ text) × IsShort text) (λ text. IsScenarioOf names cycles text r)
    (λ text here. short_in names cycles text r here.1 (subst (λ (b : List ℕ). IsScenarioIn names cycles b r) here.0 is))
    read

unread : (names : List NamesOfNode) (cycles : ℕ) (text : List ℕ) (e : BenchError) → IsReadUpTo 1048576 text (Err e)
    → IsScenarioOf names cycles text (Err (refusal.Text e))
unread names cycles text bench.TooLong is = is
unread names cycles text bench.Read is = tt
unread names cycles text bench.Memory is = tt
unread names cycles text bench.Write is = absurd is
unread names cycles text bench.BadNumber is = absurd is
unread names cycles text (bench.Config e) is = absurd is
unread names cycles text (bench.Midpoint e) is = absurd is

-- a text that wasn't read has no scenario
pub not_read : (names : List NamesOfNode) (cycles : ℕ) (known : Option (List ℕ)) (e : BenchError)
    → ForText known (λ text. IsReadUpTo 1048576 text (Err e))
    → ForText known (λ text. IsScenarioOf names cycles text (Err (refusal.Text e)))
not_read names cycles known e is =
    for_text_map known (λ text. IsReadUpTo 1048576 text (Err e))
    (λ text. IsScenarioOf names cycles text (Err (refusal.Text e))) (λ text here. unread names cycles text e here) is
