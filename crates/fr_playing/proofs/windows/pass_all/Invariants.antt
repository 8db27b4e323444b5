use Rattle.std.proofs.Common.{take}
use Rattle.fr_playing.specs.Striking.{Passes}
use Rattle.fr_playing.proofs.windows.pass_all.Given as goal

-- the events so far
abbrev pub invariant-loop-event : goal.invariant-loop-event
invariant-loop-event l = Passes l.fn.world (take l.event-index l.events) l.world
