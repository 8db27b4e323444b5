-- The lines of a text, and their arrival from a reader.
use Rattle.std.specs.Prelude.{◌≡◌, ℕ, true, Bool, false, List, [], ◌∷◌, ◌++◌, Option, Some, None, take}
use Rattle.std.specs.List.{flat_map}
use Rattle.std.specs.Io.KnownBytes.{Consumes, IsAtEnd}
use Rattle.fr_lines.specs.Spelling.{line_feed}
use Rattle.fr_session.specs.declared.lines.Piece.{Piece}
use Rattle.fr_session.specs.declared.lines.Piece.TheVariants.{Last, Part, Nothing}
use Rattle.fr_text.specs.Plain.{has_no_feed}

-- ---- the lines of a text

abbrev pub with_feed : List ℕ → List ℕ
with_feed line = line ++ line_feed

abbrev pub IsLine : List ℕ → Type 0
IsLine line = has_no_feed line ≡ true

abbrev pub AreLines : List (List ℕ) → Type 0
AreLines [] = Unit {0}
AreLines (line ∷ lines) = IsLine line × AreLines lines

-- the text has these whole lines, and after its last line feed this rest
abbrev pub IsCut : List ℕ → List (List ℕ) → List ℕ → Type 0
IsCut text lines rest = (text ≡ flat_map with_feed lines ++ rest) × AreLines lines × IsLine rest

-- the longest line, without its line feed
abbrev pub longest_line : ℕ
longest_line = 1200

-- ---- one line from a reader

-- a whole line comes and is taken from the reader, and no byte after it; or none comes
abbrev pub Comes : Bool → Option (List ℕ) → Option (List ℕ) → List ℕ → Type 0
Comes more None left line = Unit {0}
Comes true (Some text) None line = ⊥
Comes true (Some text) (Some left) line = (text ≡ line ++ 10 ∷ left) × IsLine line
Comes false (Some text) left line = IsLine text

-- bytes of a line are taken from a reader, without its line feed
abbrev pub TakesPart : Option (List ℕ) → Option (List ℕ) → Type 0
TakesPart text left = (part : List ℕ) × IsLine part × Consumes text left part

-- ---- a line from a reader, piece by piece

-- the part of a line that is kept: enough to see that a line is too long
abbrev pub line_front : List ℕ → List ℕ
line_front line = take 1201 line

-- a piece of a line was taken from the reader, and its front was kept after that of the line so far
abbrev pub TakesPiece : Piece → Option (List ℕ) → Option (List ℕ) → List ℕ → List ℕ → Type 0
TakesPiece Last text left before after =
    (bytes : List ℕ) × IsLine bytes × Consumes text left (bytes ++ line_feed) × (after ≡ line_front (before ++ bytes))
TakesPiece Part text left before after =
    (bytes : List ℕ) × IsLine bytes × Consumes text left bytes × (after ≡ line_front (before ++ bytes))
TakesPiece Nothing text left before after = IsAtEnd text

-- a whole line comes, of which the front is kept; or none comes
abbrev pub ComesFront : Bool → Option (List ℕ) → Option (List ℕ) → List ℕ → Type 0
ComesFront true text left front = (line : List ℕ) × Comes true text left line × (front ≡ line_front line)
ComesFront false text left front = Comes false text left []
