use Rattle.fr_playing.specs.Moving.{whole_window}
use Rattle.fr_playing.specs.Playing.{PlaysCycles}
use Rattle.fr_playing.proofs.play.play_cycles.Given as goal

abbrev pub invariant-loop-cycle : goal.invariant-loop-cycle
invariant-loop-cycle l = PlaysCycles l.scripts l.faults (whole_window l.nodes) l.cycle l.fn.world l.calls.items l.world
