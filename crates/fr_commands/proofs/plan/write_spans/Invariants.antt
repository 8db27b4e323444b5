use Rattle.std.proofs.Common.{take}
use Rattle.std.specs.Io.KnownBytes.{Appends}
use Rattle.std.specs.List.{flat_map}
use Rattle.fr_commands.specs.PlanText.{guard_line}
use Rattle.fr_commands.proofs.plan.write_spans.Given as goal

abbrev pub invariant-loop-start : goal.invariant-loop-start
invariant-loop-start g l = Appends (g.W.Write.contents l.fn.writer) (g.W.Write.contents l.writer)
    (flat_map (guard_line l.number l.channel l.cycle) (take l.start-index l.spans))
