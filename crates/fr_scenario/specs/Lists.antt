-- A line of version 3 with lists, and the lines for which it stands (project-defined).
use Rattle.std.specs.Prelude.{ℕ, ◌==◌, nat_lt, Bool, List, [], ◌∷◌, length, map, Option, Some, None, if◌then◌else◌}
use Rattle.std.specs.List.{flat_map, slice_split}
use Rattle.fr_names.specs.Names.{NamesOfNode}
use Rattle.fr_scenario.specs.BlankWords.{blank_words}
use Rattle.fr_scenario.specs.declared.statement.Statement.{Statement}
use Rattle.fr_scenario.specs.Statements.{statement_said}

-- ---- lists

abbrev pub is_comma : ℕ → Bool
is_comma b = b == 44

-- what stands between commas; a word without commas is its only element
abbrev pub elements_of : List ℕ → List (List ℕ)
elements_of word = slice_split is_comma word

-- the words with one of these elements before them
abbrev pub choices_before : List (List ℕ) → List (List (List ℕ)) → List (List (List ℕ))
choices_before elements choices = flat_map (λ element. map (λ rest. element ∷ rest) choices) elements

-- each choice of one element of each word, in order: the last word varies fastest
abbrev pub choices_of : List (List ℕ) → List (List (List ℕ))
choices_of [] = [] ∷ []
choices_of (word ∷ words) = choices_before (elements_of word) (choices_of words)

-- The words of the lines for which a line with these words stands. The first word is no list.
abbrev pub lines_meant : List (List ℕ) → List (List (List ℕ))
lines_meant [] = []
lines_meant (kind ∷ words) = map (λ rest. kind ∷ rest) (choices_of words)

-- ---- statements

abbrev pub put_first : Option Statement → Option (List Statement) → Option (List Statement)
put_first None more = None
put_first (Some statement) None = None
put_first (Some statement) (Some more) = Some (statement ∷ more)

-- the statements of lines with these words, if each of them has one
abbrev pub each_said : List NamesOfNode → List (List (List ℕ)) → Option (List Statement)
each_said names [] = Some []
each_said names (words ∷ lines) = put_first (statement_said names words) (each_said names lines)

-- the largest number of lines for which a line stands
abbrev pub most_meant : ℕ
most_meant = 64

abbrev pub few : Option (List Statement) → Option (List Statement)
few None = None
few (Some statements) = if nat_lt most_meant (length statements) then None else Some statements

-- The statements of a line: those of the lines for which it stands, if there are not more than 64 and each has one. A
-- line without words has none.
abbrev pub line_said : List NamesOfNode → List (List ℕ) → Option (List Statement)
line_said names words = few (each_said names (lines_meant words))

abbrev pub line_statements : List NamesOfNode → List ℕ → Option (List Statement)
line_statements names line = line_said names (blank_words line)
