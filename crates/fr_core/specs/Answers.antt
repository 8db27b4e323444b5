-- Scripts with and without the answers of their calls.
use Rattle.std.specs.Prelude.{◌≡◌, List, map, None, IsSome}
use Rattle.std.specs.List.{All}
use Rattle.fr_core.specs.declared.script.Line.{Line}
use Rattle.fr_core.specs.Scripts.{Scripted}
use Rattle.fr_slots.specs.Plans.{Each}

-- ---- lines

abbrev pub without_answer : Line → Line
without_answer line = record line { answer = None }

abbrev pub IsAnswered : Line → Type 0
IsAnswered line = IsSome line.answer

abbrev pub IsUnanswered : Line → Type 0
IsUnanswered line = line.answer ≡ None

-- ---- scripts

abbrev pub without_answers : Scripted → Scripted
without_answers s = record s { lines = map without_answer s.lines }

-- no line of a script has an answer
abbrev pub AreUnanswered : List Scripted → Type 0
AreUnanswered scripts = Each (λ script. Each IsUnanswered script.lines) scripts

-- these are the given scripts, line by line, and every line has an answer
pub record AreAnswered (given scripts : List Scripted) : Type 0 where
  pub same_lines : map without_answers scripts ≡ map without_answers given
  pub answered : All (λ (s : Scripted). All IsAnswered s.lines) scripts
