-- The statements of a line with lists, as they are found element by element. `Lists` has their meaning.
use Rattle.std.specs.Prelude.{ℕ, Bool, List, [], ◌∷◌, ◌++◌, Option, Some, None, if◌then◌else◌}
use Rattle.std.specs.List.{slice_split}
use Rattle.fr_names.specs.Names.{NamesOfNode}
use Rattle.fr_scenario.specs.declared.statement.Statement.{Statement}
use Rattle.fr_scenario.specs.Lists.{elements_of, is_comma}
use Rattle.fr_scenario.specs.Statements.{statement_said}

-- the elements of what is left after a comma, if there was one
abbrev pub elements_left : Option (List ℕ) → List (List ℕ)
elements_left None = []
elements_left (Some bytes) = slice_split is_comma bytes

abbrev pub alone : Option Statement → Option (List Statement)
alone None = None
alone (Some statement) = Some (statement ∷ [])

abbrev pub joined : Option (List Statement) → Option (List Statement) → Option (List Statement)
joined None more = None
joined (Some first) None = None
joined (Some first) (Some more) = Some (first ++ more)

abbrev pub each_chosen : (List ℕ → Option (List Statement)) → List (List ℕ) → Option (List Statement)
each_chosen said [] = Some []
each_chosen said (element ∷ elements) = joined (said element) (each_chosen said elements)

-- by the words that are chosen, and those that are left
abbrev pub chosen_said : List NamesOfNode → List (List ℕ) → List (List ℕ) → Option (List Statement)
chosen_said names chosen [] = alone (statement_said names chosen)
chosen_said names chosen (word ∷ words) =
    each_chosen (λ element. chosen_said names (chosen ++ element ∷ []) words) (elements_of word)

-- ---- statements that are kept, with those that follow

abbrev pub onto : List Statement → Option (List Statement) → Option (List Statement)
onto before None = None
onto before (Some more) = Some (before ++ more)

abbrev pub kept_if : Bool → List Statement → Option (List Statement)
kept_if done statements = if done then Some statements else None
