-- The texts of SVG elements (project-defined).
use Rattle.std.specs.Prelude.{ℕ, List, ◌++◌, codes}
use Rattle.std.specs.Fmt.{decimal}

-- the first line of a picture with this width and height, in whose own units it has the other width and height
unfoldable pub picture_front : ℕ → ℕ → ℕ → ℕ → List ℕ
picture_front width height across down =
    codes "<svg xmlns='http://www.w3.org/2000/svg' width='" ++ (decimal width ++ (codes "' height='" ++ (decimal height
    ++ (codes "' viewBox='0 0 " ++ (decimal across ++ (codes " " ++ (decimal down ++ codes "'>\n")))))))

-- a box with its upper left corner at this place
unfoldable pub rect_text : ℕ → ℕ → ℕ → ℕ → List ℕ
rect_text left top width height =
    codes "<rect x='" ++ (decimal left ++ (codes "' y='" ++ (decimal top ++ (codes "' width='"
    ++ (decimal width ++ (codes "' height='" ++ (decimal height ++ codes "'/>")))))))

-- a text at this place
unfoldable pub placed_text : ℕ → ℕ → List ℕ → List ℕ
placed_text left top text =
    codes "<text x='" ++ (decimal left ++ (codes "' y='" ++ (decimal top ++ (codes "'>" ++ (text ++ codes "</text>")))))

-- the front of a text that is moved from this place, to the right and down
unfoldable pub moved_front : ℕ → ℕ → ℕ → ℕ → List ℕ
moved_front left top right down =
    codes "<text x='" ++ (decimal left ++ (codes "' y='" ++ (decimal top ++ (codes "' dx='"
    ++ (decimal right ++ (codes "' dy='" ++ (decimal down ++ codes "'>")))))))

-- the front of a text at this place
unfoldable pub placed_front : ℕ → ℕ → List ℕ
placed_front left top = codes "<text x='" ++ (decimal left ++ (codes "' y='" ++ (decimal top ++ codes "'>")))

abbrev pub text_end : List ℕ
text_end = codes "</text>"

-- the front of a group of this class, with its title
unfoldable pub group_front : List ℕ → List ℕ → List ℕ
group_front class title = codes "<g class='" ++ (class ++ (codes "'><title>" ++ (title ++ codes "</title>")))

-- the front of a group of this class, without a title
unfoldable pub plain_front : List ℕ → List ℕ
plain_front class = codes "<g class='" ++ (class ++ codes "'>")

abbrev pub group_end : List ℕ
group_end = codes "</g>" ++ codes "\n"

abbrev pub picture_end : List ℕ
picture_end = codes "</svg>" ++ codes "\n"
