-- The text of the outcome of a run (project-defined).
use Rattle.std.specs.Prelude.{ℕ, List, [], ◌∷◌, ◌++◌, codes}
use Rattle.std.specs.Fmt.{decimal}
use Rattle.fr_files.specs.NodeTexts.{of_nodes}
use Rattle.fr_interface.specs.State.{State}
use Rattle.fr_lines.specs.Spelling.{line_text}
use Rattle.fr_trace.specs.ReportText.{report_text}

-- the line of a node, and its report
abbrev pub node_text : ℕ → State → List ℕ
node_text node s = line_text (codes "node" ∷ decimal node ∷ []) ++ report_text s

abbrev pub nodes_text : List State → List ℕ
nodes_text interfaces = of_nodes node_text 0 interfaces

-- the number of windows, and the line `settled`
abbrev pub settled_text : ℕ → List ℕ
settled_text windows = line_text (codes "windows" ∷ decimal windows ∷ []) ++ line_text (codes "settled" ∷ [])

-- all nodes in order, and then the number of windows and `settled`
abbrev pub outcome_text : List State → ℕ → List ℕ
outcome_text interfaces windows = nodes_text interfaces ++ settled_text windows
