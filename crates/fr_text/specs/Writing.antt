-- The effect of a function that writes a text to a writer.
use Rattle.std.specs.Prelude.{ℕ, List, Option, Result, OnOk}
use Rattle.std.specs.Io.KnownBytes.{Appends}

-- if it succeeds, it appends the text, and no more, to the bytes that the writer held
abbrev pub Writes : {W A E : Type 0} → (W → Option (List ℕ)) → W → W → Result A E → List ℕ → Type 0
Writes contents old new result text = OnOk result (Appends (contents old) (contents new) text)
