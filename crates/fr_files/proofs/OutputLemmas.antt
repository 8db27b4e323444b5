-- The end of a command that reads a cluster file and hands a text to the writer.
use Rattle.std.proofs.Common.{◌≡◌, ℕ, List, Option, Some, None, Result, Ok, Err, OnOk, IfErr, refl, sym, subst}
use Rattle.std.specs.Prelude.{OnErr}
use Rattle.std.specs.Io.KnownBytes.{Appends, append_known}
use Rattle.std.proofs.KnownBytes.{Appends-trans, Keeps-refl}
use Rattle.fr_files.proofs.InputLemmas.{for_text_map}
use Rattle.fr_files.specs.ClusterFiles.{IsClusterOf, IsDescribed, Tells}
use Rattle.fr_files.specs.declared.error.BenchError.{BenchError}
use Rattle.fr_files.specs.declared.error.BenchError.TheVariants as error
use Rattle.fr_files.specs.Inputs.{ForText}
use Rattle.fr_files.specs.Outputs.{AppendsFront, FallsShort, IsCut}
use Rattle.fr_schedule.specs.Descriptions.{Description}

-- bytes can be appended to what is known
pub appended : (known : Option (List ℕ)) (bytes : List ℕ) → Appends known (append_known known bytes) bytes
appended None bytes = tt
appended (Some xs) bytes = refl

-- an output of such a text has missing bytes
pub cut : (IsWritten : Option (List ℕ) → Option (List ℕ) → Type 0) (old new : Option (List ℕ)) (text : List ℕ)
    → FallsShort old new text → ((whole : Option (List ℕ)) → Appends old whole text → IsWritten old whole)
    → IsCut IsWritten old new
cut IsWritten old new text (front, rest, is, some, taken) right =
    let whole = append_known new rest in
    let behind : Appends new whole rest = appended new rest in
    let all : Appends old whole text =
    subst (λ (t : List ℕ). Appends old whole t) (sym is) (Appends-trans old new whole front rest taken behind) in
    (whole, front, rest, right whole all, some, taken, behind)

tells_text : (IsWritten : Description → Option (List ℕ) → Option (List ℕ) → Type 0) (text : List ℕ) (d : Description)
    (old new : Option (List ℕ)) (words : List ℕ) (r : Result (Unit {0}) BenchError) → IsDescribed text d
    → ((whole : Option (List ℕ)) → Appends old whole words → IsWritten d old whole) → OnOk r (Appends old new words)
    → IfErr r (λ e. e ≡ error.Write) → OnErr r (FallsShort old new words) → Tells IsWritten text old new r
tells_text IsWritten text d old new words (Ok x) is right written refused short = (d, is, right new written)
tells_text IsWritten text d old new words (Err e) is right written refused short =
    subst (λ (x : BenchError). Tells IsWritten text old new (Err x)) (sym refused)
    (d, is, cut (IsWritten d) old new words short right)

-- the text of a cluster was handed to the writer
pub tells_written : (IsWritten : Description → Option (List ℕ) → Option (List ℕ) → Type 0) (known : Option (List ℕ))
    (d : Description) (old new : Option (List ℕ)) (words : List ℕ) (r : Result (Unit {0}) BenchError)
    → ForText known (λ text. IsClusterOf text (Ok d))
    → ((whole : Option (List ℕ)) → Appends old whole words → IsWritten d old whole) → OnOk r (Appends old new words)
    → IfErr r (λ e. e ≡ error.Write) → OnErr r (FallsShort old new words)
    → ForText known (λ text. Tells IsWritten text old new r)
tells_written IsWritten known d old new words r is right written refused short =
    for_text_map known (λ text. IsClusterOf text (Ok d)) (λ text. Tells IsWritten text old new r)
    (λ text here. tells_text IsWritten text d old new words r here right written refused short) is

tells_first : (IsWritten : Description → Option (List ℕ) → Option (List ℕ) → Type 0) (old : Option (List ℕ))
    (text : List ℕ) (e : BenchError) → IsClusterOf text (Err e) → Tells IsWritten text old old (Err e)
tells_first IsWritten old text error.TooLong is = (is, Keeps-refl old)
tells_first IsWritten old text (error.Config e) is = (is.0, is.1, Keeps-refl old)
tells_first IsWritten old text error.Read is = Keeps-refl old
tells_first IsWritten old text error.Memory is = Keeps-refl old
tells_first IsWritten old text error.Write is = absurd is
tells_first IsWritten old text error.BadNumber is = absurd is
tells_first IsWritten old text (error.Midpoint e) is = absurd is

-- there is no cluster, and nothing was handed to the writer
pub tells_refused : (IsWritten : Description → Option (List ℕ) → Option (List ℕ) → Type 0) (known old : Option (List ℕ))
    (e : BenchError) → ForText known (λ text. IsClusterOf text (Err e))
    → ForText known (λ text. Tells IsWritten text old old (Err e))
tells_refused IsWritten known old e is =
    for_text_map known (λ text. IsClusterOf text (Err e)) (λ text. Tells IsWritten text old old (Err e))
    (λ text here. tells_first IsWritten old text e here) is

-- an allocation failed, and nothing was handed to the writer
pub tells_memory : (IsWritten : Description → Option (List ℕ) → Option (List ℕ) → Type 0) (known old : Option (List ℕ))
    (d : Description) → ForText known (λ text. IsClusterOf text (Ok d))
    → ForText known (λ text. Tells IsWritten text old old (Err error.Memory))
tells_memory IsWritten known old d is =
    for_text_map known (λ text. IsClusterOf text (Ok d)) (λ text. Tells IsWritten text old old (Err error.Memory))
    (λ text here. Keeps-refl old) is

-- a text of which bytes are missing
pub short_front : (old new : Option (List ℕ)) (text : List ℕ) → FallsShort old new text → AppendsFront old new text
short_front old new text (front, rest, is, some, taken) = (front, rest, is, taken)
