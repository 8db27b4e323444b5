-- What a failing writer has taken of an output.
use Rattle.std.specs.Prelude.{◌≡◌, ◌≢◌, ℕ, List, [], ◌++◌, Option}
use Rattle.std.specs.Io.KnownBytes.{Appends}

-- a front of the text was appended, which may be all of it
abbrev pub AppendsFront : Option (List ℕ) → Option (List ℕ) → List ℕ → Type 0
AppendsFront old new text = (front : List ℕ) × (rest : List ℕ) × (text ≡ front ++ rest) × Appends old new front

-- a front of the text was appended, and at least one byte of the text is missing
abbrev pub FallsShort : Option (List ℕ) → Option (List ℕ) → List ℕ → Type 0
FallsShort old new text =
    (front : List ℕ) × (rest : List ℕ) × (text ≡ front ++ rest) × (rest ≢ []) × Appends old new front

-- The output has missing bytes. `IsWritten` would hold with them.
abbrev pub IsCut : (Option (List ℕ) → Option (List ℕ) → Type 0) → Option (List ℕ) → Option (List ℕ) → Type 0
IsCut IsWritten old new =
    (whole : Option (List ℕ)) × (front : List ℕ) × (rest : List ℕ) × IsWritten old whole × (rest ≢ [])
    × Appends old new front × Appends new whole rest
