-- A line and its words: words are cut at spaces, and joined by spaces.
use Rattle.std.specs.Prelude.{ℕ, ◌+◌, ◌==◌, Bool, List, [], ◌∷◌, length}
use Rattle.std.specs.List.{slice_split, join_with_byte}

abbrev pub is_space : ℕ → Bool
is_space b = b == 32

-- the line, cut at each space
abbrev pub words_of : List ℕ → List (List ℕ)
words_of line = slice_split is_space line

-- the words, with one space between each two
abbrev pub line_of : List (List ℕ) → List ℕ
line_of words = join_with_byte 32 words

-- the number of bytes that the words take, each with one byte after it
abbrev pub room_of : List (List ℕ) → ℕ
room_of [] = 0
room_of (word ∷ words) = length word + 1 + room_of words
