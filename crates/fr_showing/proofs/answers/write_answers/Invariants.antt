use Rattle.std.proofs.Common.{take}
use Rattle.std.specs.Io.KnownBytes.{Appends}
use Rattle.std.specs.List.{flat_map}
use Rattle.fr_showing.specs.AnswerText.{answer_line}
use Rattle.fr_showing.proofs.answers.write_answers.Given as goal

-- the lines so far
abbrev pub invariant-loop-call : goal.invariant-loop-call
invariant-loop-call g l =
    Appends (g.W.Write.contents l.fn.writer) (g.W.Write.contents l.writer)
    (flat_map (answer_line l.world) (take l.call-index l.calls))
