-- The words that a line has left.
use Rattle.std.specs.Prelude.{ℕ, List, [], ◌∷◌, Option, Some, None, if◌then◌else◌}
use Rattle.fr_text.specs.declared.words.Words.TheInside.{Inside}
use Rattle.fr_text.specs.Spaces.{words_of}

abbrev pub left_of : Inside → List (List ℕ)
left_of w = if w.done then [] else words_of w.rest.now

-- no word is left
abbrev pub ended : List (List ℕ) → Option Unit
ended [] = Some tt
ended (word ∷ words) = None
