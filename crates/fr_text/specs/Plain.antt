-- Plain words: no byte of such a word ends a word or a line.
use Rattle.std.specs.Prelude.{ℕ, ◌≡◌, ◌==◌, ◌&&◌, Bool, true, not, List, [], ◌∷◌}
use Rattle.fr_text.specs.Spaces.{is_space}

abbrev pub is_feed : ℕ → Bool
is_feed b = b == 10

-- no byte is a space or a line feed
abbrev pub is_plain : List ℕ → Bool
is_plain [] = true
is_plain (b ∷ bytes) = not (is_space b) && not (is_feed b) && is_plain bytes

abbrev pub IsPlain : List ℕ → Type 0
IsPlain word = is_plain word ≡ true

-- each of the words is plain
abbrev pub ArePlain : List (List ℕ) → Type 0
ArePlain [] = Unit
ArePlain (word ∷ words) = IsPlain word × ArePlain words

-- no byte is a line feed
abbrev pub has_no_feed : List ℕ → Bool
has_no_feed [] = true
has_no_feed (b ∷ bytes) = not (is_feed b) && has_no_feed bytes
