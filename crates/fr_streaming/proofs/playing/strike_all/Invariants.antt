use Rattle.std.proofs.Common.{take}
use Rattle.std.specs.List.{flat_map}
use Rattle.fr_endless.specs.Alike.{Alike}
use Rattle.fr_playing.specs.Striking.{strike_events, Passes}
use Rattle.fr_streaming.proofs.playing.strike_all.Given as goal

-- the lines so far
abbrev pub invariant-loop-line : goal.invariant-loop-line
invariant-loop-line l = Alike l.fn.world
    (λ w v. Passes w (flat_map (strike_events l.cycle l.window) (take l.line-index l.faults)) v) l.world
