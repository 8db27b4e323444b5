use Rattle.std.proofs.Common.{take}
use Rattle.std.specs.List.{flat_map}
use Rattle.fr_endless.specs.Taps.{ToldAlike, with_taps}
use Rattle.fr_playing.specs.Striking.{strike_events, Tries}
use Rattle.fr_endless.proofs.striking.strike_all.Given as goal

-- the lines so far
abbrev pub invariant-loop-line : goal.invariant-loop-line
invariant-loop-line g l = ToldAlike (with_taps l.fn.world l.fn.taps)
    (λ w v. Tries w (flat_map (strike_events l.cycle l.window) (take l.line-index l.faults)) v)
    (with_taps l.world l.taps)
