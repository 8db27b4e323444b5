-- The result of a command that shows a run, from the results of its parts.
use Rattle.std.proofs.Common.{◌≡◌, ◌⊎◌, ℕ, List, Option, Some, None, Ok, Err, sym, subst, inl, inr}
use Rattle.std.specs.Io.KnownBytes.{Appends}
use Rattle.fr_files.specs.declared.error.BenchError.TheVariants as bench
use Rattle.fr_files.proofs.InputLemmas.{for_text_map}
use Rattle.fr_files.specs.Inputs.{ForText}
use Rattle.fr_files.specs.Outputs.{FallsShort}
use Rattle.fr_names.specs.Names.{NamesOfNode}
use Rattle.fr_outcome.specs.ScenarioFiles.{RunIsRefused}
use Rattle.fr_playing.specs.declared.error.PlayError.{PlayError}
use Rattle.fr_playing.specs.declared.error.PlayError.TheVariants as refusal
use Rattle.fr_playing.specs.declared.file.PlayedFile.{PlayedFile}
use Rattle.fr_playing.specs.Files.{IsPlayOf}
use Rattle.fr_schedule.specs.Descriptions.{Description}
use Rattle.fr_showing.specs.declared.show.Notes.{Notes}
use Rattle.fr_showing.specs.declared.shown.Shown.{Shown}
use Rattle.fr_showing.specs.Shows.{Adds, AddsFront, AreNotes, IsShown, LacksNode, Prints, Tells}

-- a run that wasn't executed isn't shown
unshown : (d : Description) (names : List NamesOfNode) (cycles : ℕ) (shown : Shown) (text : List ℕ) (e : PlayError)
    → IsPlayOf d names cycles text (Err e) → Tells d names cycles shown text (Err e)
unshown d names cycles shown text (refusal.Run e) is = is
unshown d names cycles shown text (refusal.Step e) is = is
unshown d names cycles shown text refusal.Unfinished is = is
unshown d names cycles shown text refusal.UnknownNode is = absurd is
unshown d names cycles shown text (refusal.Scenario e) is = is
unshown d names cycles shown text (refusal.Text bench.Memory) is = is
unshown d names cycles shown text (refusal.Text bench.TooLong) is = is
unshown d names cycles shown text (refusal.Text bench.Read) is = is
unshown d names cycles shown text (refusal.Text bench.Write) is = absurd is
unshown d names cycles shown text (refusal.Text bench.BadNumber) is = is
unshown d names cycles shown text (refusal.Text (bench.Config e)) is = is
unshown d names cycles shown text (refusal.Text (bench.Midpoint e)) is = is

pub unshown_of : (d : Description) (names : List NamesOfNode) (cycles : ℕ) (shown : Shown) (text : Option (List ℕ))
    (e : PlayError)
    → ForText text (λ t. IsPlayOf d names cycles t (Err e))
    → ForText text (λ t. Tells d names cycles shown t (Err e))
unshown_of d names cycles shown text e is =
    for_text_map text (λ t. IsPlayOf d names cycles t (Err e)) (λ t. Tells d names cycles shown t (Err e))
    (λ t here. unshown d names cycles shown t e here) is

-- the errors that leave the writer unchanged
abbrev IsNotWrite : PlayError → Type 0
IsNotWrite (refusal.Text bench.Write) = ⊥
IsNotWrite e = Unit {0}

unwritten : (d : Description) (names : List NamesOfNode) (cycles : ℕ) (shown : Shown) (text old new : Option (List ℕ))
    (e : PlayError)
    → IsNotWrite e → new ≡ old → Prints d names cycles shown text old new (Err e)
unwritten d names cycles shown text old new (refusal.Run e) is same = same
unwritten d names cycles shown text old new (refusal.Step e) is same = same
unwritten d names cycles shown text old new refusal.Unfinished is same = same
unwritten d names cycles shown text old new refusal.UnknownNode is same = same
unwritten d names cycles shown text old new (refusal.Scenario e) is same = same
unwritten d names cycles shown text old new (refusal.Text bench.Memory) is same = same
unwritten d names cycles shown text old new (refusal.Text bench.TooLong) is same = same
unwritten d names cycles shown text old new (refusal.Text bench.Read) is same = same
unwritten d names cycles shown text old new (refusal.Text bench.Write) is same = absurd is
unwritten d names cycles shown text old new (refusal.Text bench.BadNumber) is same = same
unwritten d names cycles shown text old new (refusal.Text (bench.Config e)) is same = same
unwritten d names cycles shown text old new (refusal.Text (bench.Midpoint e)) is same = same

not_write : (d : Description) (names : List NamesOfNode) (cycles : ℕ) (text : List ℕ) (e : PlayError)
    → IsPlayOf d names cycles text (Err e)
    → IsNotWrite e
not_write d names cycles text (refusal.Run e) is = tt
not_write d names cycles text (refusal.Step e) is = tt
not_write d names cycles text refusal.Unfinished is = tt
not_write d names cycles text refusal.UnknownNode is = tt
not_write d names cycles text (refusal.Scenario e) is = tt
not_write d names cycles text (refusal.Text bench.Memory) is = tt
not_write d names cycles text (refusal.Text bench.TooLong) is = tt
not_write d names cycles text (refusal.Text bench.Read) is = tt
not_write d names cycles text (refusal.Text bench.Write) is = is
not_write d names cycles text (refusal.Text bench.BadNumber) is = tt
not_write d names cycles text (refusal.Text (bench.Config e)) is = tt
not_write d names cycles text (refusal.Text (bench.Midpoint e)) is = tt

-- a run that wasn't executed
pub unwritten_file : (d : Description) (names : List NamesOfNode) (cycles : ℕ) (shown : Shown)
    (text old new : Option (List ℕ)) (e : PlayError)
    → ForText text (λ t. IsPlayOf d names cycles t (Err e)) → new ≡ old → Prints d names cycles shown text old new
    (Err e)
unwritten_file d names cycles shown None old new e (t, is) same =
    unwritten d names cycles shown None old new e (not_write d names cycles t e is) same
unwritten_file d names cycles shown (Some t) old new e is same =
    unwritten d names cycles shown (Some t) old new e (not_write d names cycles t e is) same

-- a run without a view
pub unwritten_view : (d : Description) (names : List NamesOfNode) (cycles : ℕ) (shown : Shown)
    (text old new : Option (List ℕ)) (file : PlayedFile)
    (e : PlayError) → (e ≡ refusal.Text bench.Memory) ⊎ ((e ≡ refusal.UnknownNode) × LacksNode shown file) → new ≡ old
    → Prints d names cycles shown text old new (Err e)
unwritten_view d names cycles shown text old new file e (inl memory) same =
    subst (λ (x : PlayError). Prints d names cycles shown text old new (Err x)) (sym memory) same
unwritten_view d names cycles shown text old new file e (inr (unknown, none)) same =
    subst (λ (x : PlayError). Prints d names cycles shown text old new (Err x)) (sym unknown) same

missing_in : (d : Description) (names : List NamesOfNode) (cycles : ℕ) (shown : Shown) (text : List ℕ)
    (file : PlayedFile) (e : PlayError)
    → IsPlayOf d names cycles text (Ok file)
    → (e ≡ refusal.Text bench.Memory) ⊎ ((e ≡ refusal.UnknownNode) × LacksNode shown file)
    → Tells d names cycles shown text (Err e)
missing_in d names cycles shown text file e is (inl memory) =
    subst (λ (x : PlayError). Tells d names cycles shown text (Err x)) (sym memory) tt
missing_in d names cycles shown text file e is (inr (unknown, none)) =
    subst (λ (x : PlayError). Tells d names cycles shown text (Err x)) (sym unknown) (file, is.1, none)

-- a node that the cluster doesn't have, or a failed allocation
pub node_missing : (d : Description) (names : List NamesOfNode) (cycles : ℕ) (shown : Shown) (text : Option (List ℕ))
    (file : PlayedFile)
    (e : PlayError) → ForText text (λ t. IsPlayOf d names cycles t (Ok file))
    → (e ≡ refusal.Text bench.Memory) ⊎ ((e ≡ refusal.UnknownNode) × LacksNode shown file)
    → ForText text (λ t. Tells d names cycles shown t (Err e))
node_missing d names cycles shown text file e is why =
    for_text_map text (λ t. IsPlayOf d names cycles t (Ok file)) (λ t. Tells d names cycles shown t (Err e))
    (λ t here. missing_in d names cycles shown t file e here why) is

-- the text of the run was written
pub shown_of : (d : Description) (names : List NamesOfNode) (cycles : ℕ) (shown : Shown)
    (text old new : Option (List ℕ)) (file : PlayedFile)
    (written : List ℕ) (notes : Notes)
    → ForText text (λ t. IsPlayOf d names cycles t (Ok file)) → IsShown shown file written → Appends old new written
    → AreNotes cycles file notes
    → ForText text (Adds d names cycles shown old new notes)
shown_of d names cycles shown text old new file written notes is of_run added told =
    for_text_map text (λ t. IsPlayOf d names cycles t (Ok file)) (Adds d names cycles shown old new notes)
    (λ t here. (file, written, here.1, of_run, added, told)) is

-- a front of the text of the run was written
pub shown_part : (d : Description) (names : List NamesOfNode) (cycles : ℕ) (shown : Shown)
    (text old new : Option (List ℕ)) (file : PlayedFile)
    (written : List ℕ)
    → ForText text (λ t. IsPlayOf d names cycles t (Ok file)) → IsShown shown file written → FallsShort old new written
    → ForText text (AddsFront d names cycles shown old new)
shown_part d names cycles shown text old new file written is of_run short =
    for_text_map text (λ t. IsPlayOf d names cycles t (Ok file)) (AddsFront d names cycles shown old new)
    (λ t here. (file, written, here.1, of_run, short)) is

-- the cluster accepts the run
pub can_be_had : (d : Description) (names : List NamesOfNode) (cycles : ℕ) (text : Option (List ℕ)) (file : PlayedFile)
    → ForText text (λ t. IsPlayOf d names cycles t (Ok file))
    → ForText text (λ t. RunIsRefused d names cycles t None)
can_be_had d names cycles text file is =
    for_text_map text (λ t. IsPlayOf d names cycles t (Ok file)) (λ t. RunIsRefused d names cycles t None)
    (λ t here. here.0) is
