-- The parts of style sheets that several pictures have (project-defined).
use Rattle.std.specs.Prelude.{ℕ, List, ◌++◌, ◌==◌, codes, if◌then◌else◌}
use Rattle.std.specs.Fmt.{decimal}

-- the rule of all texts with this size, and an outline of this width
unfoldable pub text_rule : ℕ → ℕ → List ℕ
text_rule size outline =
    (codes "text{font-family:sans-serif;font-size:" ++ (decimal size ++ codes "px;text-anchor:middle;fill:#000;"))
    ++ (codes "stroke:#fff;stroke-width:"
    ++ (decimal outline ++ codes "px;paint-order:stroke;stroke-linejoin:round}\n"))

-- the colour of a node
abbrev pub colour_of : ℕ → List ℕ
colour_of node =
    if node == 0 then codes "#e69f00"
    else if node == 1 then codes "#56b4e9"
    else if node == 2 then codes "#009e73"
    else if node == 3 then codes "#f0e442"
    else if node == 4 then codes "#0072b2"
    else if node == 5 then codes "#d55e00"
    else if node == 6 then codes "#cc79a7"
    else codes "#882255"
