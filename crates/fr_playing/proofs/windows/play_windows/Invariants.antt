use Rattle.fr_playing.specs.Moving.{whole_window}
use Rattle.fr_playing.specs.Windows.{PlaysWithin}
use Rattle.fr_playing.proofs.windows.play_windows.Given as goal

abbrev pub invariant-loop-count : goal.invariant-loop-count
invariant-loop-count l = PlaysWithin l.cycle l.faults (whole_window l.nodes) l.count l.fn.world l.world
