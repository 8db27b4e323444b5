use Rattle.fr_playing.specs.Moving.{WithinCycle}
use Rattle.fr_playing.proofs.moving.finish_cycle.Given as goal

abbrev pub invariant-loop-count : goal.invariant-loop-count
invariant-loop-count l = WithinCycle l.faults l.events l.count l.fn.world l.world
