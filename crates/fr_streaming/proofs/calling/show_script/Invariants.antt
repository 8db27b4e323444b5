use Rattle.std.proofs.Common.{take}
use Rattle.std.specs.List.{flat_map}
use Rattle.fr_playing.specs.Calls.{asked_in_line}
use Rattle.fr_streaming.specs.RunFields.{tells}
use Rattle.fr_streaming.specs.Streams.{Goes, MakesCalls}
use Rattle.fr_streaming.proofs.calling.show_script.Given as goal

-- the lines so far
abbrev pub invariant-loop-line : goal.invariant-loop-line
invariant-loop-line g l = Goes (tells l.run)
    (MakesCalls (flat_map (asked_in_line l.cycle l.script.node l.script.task) (take l.line-index l.lines))) l.fn.world
    (g.W.Write.contents l.fn.writer) (g.W.Write.contents l.writer) l.world
