use Rattle.fr_playing.specs.Playing.{PlaysCycles}
use Rattle.fr_streaming.specs.RunFields.{due_of, faults_of, scripts_of, tells}
use Rattle.fr_streaming.specs.Streams.{Goes}
use Rattle.fr_streaming.proofs.windows.show_cycles.Given as goal

abbrev pub invariant-loop-cycle : goal.invariant-loop-cycle
invariant-loop-cycle g l = Goes (tells l.run) (PlaysCycles (scripts_of l.run) (faults_of l.run) (due_of l.run) l.cycle)
    l.fn.world (g.W.Write.contents l.fn.writer) (g.W.Write.contents l.writer) l.world
