use Rattle.std.proofs.Common.{take}
use Rattle.std.specs.List.{flat_map}
use Rattle.fr_playing.specs.Striking.{strike_events, Tells}
use Rattle.fr_playing.proofs.striking.strike_all.Given as goal

-- the lines so far
abbrev pub invariant-loop-line : goal.invariant-loop-line
invariant-loop-line l = Tells l.fn.world (flat_map (strike_events l.cycle l.window) (take l.line-index l.faults))
    l.struck l.world
