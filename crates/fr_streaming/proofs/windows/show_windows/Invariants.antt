use Rattle.fr_playing.specs.Windows.{PlaysWithin}
use Rattle.fr_streaming.specs.RunFields.{due_of, faults_of, tells}
use Rattle.fr_streaming.specs.Streams.{Goes, WithoutCalls}
use Rattle.fr_streaming.proofs.windows.show_windows.Given as goal

abbrev pub invariant-loop-count : goal.invariant-loop-count
invariant-loop-count g l =
    Goes (tells l.run) (WithoutCalls (PlaysWithin l.cycle (faults_of l.run) (due_of l.run) l.count))
    l.fn.world (g.W.Write.contents l.fn.writer) (g.W.Write.contents l.writer) l.world
