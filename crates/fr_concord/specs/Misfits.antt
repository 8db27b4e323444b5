-- The word that `why` names as wrong, against the lines that can be read in its place (project-defined).
use Rattle.std.specs.Prelude.{◌≡◌, ℕ, List, take, Some, Err}
use Rattle.fr_lines.specs.declared.forms.WordPlace.{WordPlace}
use Rattle.fr_text.specs.Spaces.{words_of}
use Rattle.fr_trace.specs.declared.error.TraceError.TheVariants.{BadLine}
use Rattle.fr_trace.specs.Stream.{Phase, magic, params, node, lines, body, finished, reading, take_line, line_number}
use Rattle.fr_why.specs.declared.reason.Misfit.{Misfit}
use Rattle.fr_why.specs.declared.reason.Reason.TheVariants.{Line}
use Rattle.fr_why.specs.Reasons.{misfit_at}

-- the first line of the trace has been read
abbrev pub IsAfterFirst : Phase → Type 0
IsAfterFirst magic = ⊥
IsAfterFirst (params v) = Unit {0}
IsAfterFirst (node v p) = Unit {0}
IsAfterFirst (lines v p plan) = Unit {0}
IsAfterFirst (body v s) = Unit {0}
IsAfterFirst (finished v s) = Unit {0}

-- If `why` names a word of a line, each line with the same words up to this one is refused in the same place: no other
-- words after it make a line that can be read there.
abbrev pub AreWrongWords : Type 0
AreWrongWords = (p : Phase) (held line other : List ℕ) (misfit : Misfit) (place : WordPlace) → IsAfterFirst p
    → misfit_at (reading p held) line ≡ Line misfit (Some place)
    → take place.word (words_of other) ≡ take place.word (words_of line)
    → take_line p other ≡ Err (BadLine (line_number p))
