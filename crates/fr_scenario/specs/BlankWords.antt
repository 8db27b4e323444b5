-- The words of a line of version 3: longest runs of bytes other than blanks, before the comment.
use Rattle.std.specs.Prelude.{ℕ, ◌==◌, ◌||◌, Bool, true, false, List, [], ◌∷◌, take, Option, Some, None}
use Rattle.std.specs.List.{filter, position_or_len, slice_split}

-- a space or a tab
abbrev pub is_blank : ℕ → Bool
is_blank b = b == 32 || b == 9

-- `#` begins a comment
abbrev pub is_mark : ℕ → Bool
is_mark b = b == 35

abbrev pub before_comment : List ℕ → List ℕ
before_comment line = take (position_or_len is_mark line) line

abbrev pub has_bytes : List ℕ → Bool
has_bytes [] = false
has_bytes (b ∷ bytes) = true

-- cut at each blank, without the empty pieces
abbrev pub pieces_of : List ℕ → List (List ℕ)
pieces_of bytes = filter has_bytes (slice_split is_blank bytes)

abbrev pub blank_words : List ℕ → List (List ℕ)
blank_words line = pieces_of (before_comment line)

-- the pieces of what is left after a blank, if there was one
abbrev pub split_rest : Option (List ℕ) → List (List ℕ)
split_rest None = []
split_rest (Some bytes) = slice_split is_blank bytes
