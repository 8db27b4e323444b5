use Rattle.fr_endless.specs.Taps.{ToldAlike, with_taps}
use Rattle.fr_playing.specs.Moving.{PassesCycles}
use Rattle.fr_endless.proofs.moving.finish_cycles.Given as goal

abbrev pub invariant-loop-count : goal.invariant-loop-count
invariant-loop-count g l = ToldAlike (with_taps l.fn.world l.fn.taps)
    (λ w v. PassesCycles l.faults l.events l.count w v) (with_taps l.world l.taps)
