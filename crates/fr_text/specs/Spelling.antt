-- The spelling of bytes. Std's `decimal` defines the spelling of a number.
use Rattle.std.specs.Prelude.{ℕ, List, ◌∷◌}
use Rattle.hex.specs.Hex.{encode_lower}

-- the letter x, and two lower-case digits for each byte
abbrev pub hex_text : List ℕ → List ℕ
hex_text bytes = 120 ∷ encode_lower bytes
