-- The texts of nodes, one after another.
use Rattle.std.specs.Prelude.{ℕ, ◌+◌, List, [], ◌∷◌, ◌++◌}

-- the texts of these nodes in their order; the first has this number
unfoldable pub of_nodes : {X : Type 0} → (ℕ → X → List ℕ) → ℕ → List X → List ℕ
of_nodes text node [] = []
of_nodes text node (x ∷ xs) = text node x ++ of_nodes text (node + 1) xs
