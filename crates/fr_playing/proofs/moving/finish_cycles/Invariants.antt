use Rattle.fr_playing.specs.Moving.{PassesCycles}
use Rattle.fr_playing.proofs.moving.finish_cycles.Given as goal

abbrev pub invariant-loop-count : goal.invariant-loop-count
invariant-loop-count l = PassesCycles l.faults l.events l.count l.fn.world l.world
