use Rattle.std.proofs.Common.{take}
use Rattle.std.specs.List.{flat_map}
use Rattle.fr_playing.specs.Calls.{AddsCalls, asked_in_line}
use Rattle.fr_playing.proofs.call.do_script.Given as goal

-- the lines so far
abbrev pub invariant-loop-line : goal.invariant-loop-line
invariant-loop-line l =
    AddsCalls l.fn.calls.items l.calls.items l.fn.world (flat_map (asked_in_line l.cycle l.script.node l.script.task)
    (take l.line-index l.lines)) l.world
