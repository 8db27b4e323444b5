use Rattle.std.proofs.Common.{take}
use Rattle.std.specs.List.{flat_map}
use Rattle.fr_playing.specs.Calls.{AddsCalls, asked_in_script}
use Rattle.fr_playing.proofs.call.do_lines.Given as goal

-- the scripts so far
abbrev pub invariant-loop-script : goal.invariant-loop-script
invariant-loop-script l =
    AddsCalls l.fn.calls.items l.calls.items l.fn.world (flat_map (asked_in_script l.cycle)
    (take l.script-index l.scripts)) l.world
