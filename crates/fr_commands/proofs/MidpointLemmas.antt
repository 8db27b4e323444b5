-- The line of a midpoint is handed to the writer.
use Rattle.std.proofs.Common.{◌≡◌, ◌≤◌, ◌↔◌, ℕ, ℤ, List, [], ◌∷◌, length, Option, Some, None, Result, Ok, Err}
use Rattle.std.proofs.Common.{OnOk, IfErr, IfSome, refl, sym, subst}
use Rattle.std.specs.Prelude.{IsNone, OnErr}
use Rattle.std.specs.Io.KnownBytes.{Appends}
use Rattle.fr_commands.specs.Midpoints.{HasMidpoint, IsAnswer, Midpoints, midpoint_line}
use Rattle.fr_commands.specs.Numbers.{numbers_in, words_in}
use Rattle.fr_files.proofs.InputLemmas.{for_text_map}
use Rattle.fr_files.specs.declared.error.BenchError.{BenchError}
use Rattle.fr_files.specs.declared.error.BenchError.TheVariants as error
use Rattle.fr_files.specs.Inputs.{ForText}
use Rattle.fr_files.specs.Outputs.{FallsShort}
use Rattle.fr_midpoint.specs.declared.ranks.Midpoint.{Midpoint}
use Rattle.fr_midpoint.specs.Midpoint.{IsMidpoint}

no_numbers : (numbers : List ℤ) → length numbers ≡ 0 → numbers ≡ []
no_numbers [] none = refl
no_numbers (x ∷ xs) none = cc none

pub answer_is : (numbers : List ℤ) (answer : Option Midpoint) → (IsNone answer ↔ (length numbers ≡ 0))
    → IfSome answer (λ m. IsMidpoint numbers m) → IsAnswer numbers answer
answer_is numbers None none found = no_numbers numbers (none.0 refl)
answer_is numbers (Some m) none found = found

told_text : (text : List ℕ) (answer : Option Midpoint) (old new : Option (List ℕ)) (words : List ℕ)
    (r : Result (Unit {0}) BenchError) → HasMidpoint text answer → words ≡ midpoint_line answer
    → OnOk r (Appends old new words) → IfErr r (λ e. e ≡ error.Write) → OnErr r (FallsShort old new words)
    → Midpoints text old new r
told_text text answer old new words (Ok x) has is written refused short =
    (answer, has, subst (λ (t : List ℕ). Appends old new t) is written)
told_text text answer old new words (Err e) has is written refused short =
    subst (λ (x : BenchError). Midpoints text old new (Err x)) (sym refused)
    (answer, has, subst (λ (t : List ℕ). FallsShort old new t) is short)

told_here : (text bytes : List ℕ) (numbers : List ℤ) (answer : Option Midpoint) (old new : Option (List ℕ))
    (words : List ℕ) (r : Result (Unit {0}) BenchError) → (bytes ≡ text) × (length text ≤ 4096)
    → numbers_in (words_in bytes) ≡ Some numbers → IsAnswer numbers answer → words ≡ midpoint_line answer
    → OnOk r (Appends old new words) → IfErr r (λ e. e ≡ error.Write) → OnErr r (FallsShort old new words)
    → Midpoints text old new r
told_here text bytes numbers answer old new words r read spelled is line_is written refused short =
    let here : numbers_in (words_in text) ≡ Some numbers =
    subst (λ (t : List ℕ). numbers_in (words_in t) ≡ Some numbers) read.0 spelled in
    told_text text answer old new words r (read.1, numbers, here, is) line_is written refused short

pub midpoint_told : (known : Option (List ℕ)) (bytes : List ℕ) (numbers : List ℤ) (answer : Option Midpoint)
    (old new : Option (List ℕ)) (words : List ℕ) (r : Result (Unit {0}) BenchError)
    → ForText known (λ text. (bytes ≡ text) × (length text ≤ 4096)) → numbers_in (words_in bytes) ≡ Some numbers
    → IsAnswer numbers answer → words ≡ midpoint_line answer
    → OnOk r (Appends old new words) → IfErr r (λ e. e ≡ error.Write) → OnErr r (FallsShort old new words)
    → ForText known (λ text. Midpoints text old new r)
midpoint_told known bytes numbers answer old new words r read spelled is line_is written refused short =
    for_text_map known (λ text. (bytes ≡ text) × (length text ≤ 4096)) (λ text. Midpoints text old new r)
    (λ text here. told_here text bytes numbers answer old new words r here spelled is line_is written refused short)
    read
