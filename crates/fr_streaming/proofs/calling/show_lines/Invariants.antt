use Rattle.std.proofs.Common.{take}
use Rattle.std.specs.List.{flat_map}
use Rattle.fr_playing.specs.Calls.{asked_in_script}
use Rattle.fr_streaming.specs.RunFields.{tells}
use Rattle.fr_streaming.specs.Streams.{Goes, MakesCalls}
use Rattle.fr_streaming.proofs.calling.show_lines.Given as goal

-- the scripts so far
abbrev pub invariant-loop-script : goal.invariant-loop-script
invariant-loop-script g l = Goes (tells l.run)
    (MakesCalls (flat_map (asked_in_script l.cycle) (take l.script-index l.scripts))) l.fn.world
    (g.W.Write.contents l.fn.writer) (g.W.Write.contents l.writer) l.world
