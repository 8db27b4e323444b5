use Rattle.std.proofs.Common.{◌≤◌, take}
use Rattle.fr_core.specs.Runs.{IsRunOf}
use Rattle.fr_core.proofs.run.run_events.Given as goal

-- the events so far
abbrev pub invariant-loop-event : goal.invariant-loop-event
invariant-loop-event l = record {
  run : IsRunOf l.fn.world (take l.event-index l.events) l.accepted l.world;
  few : l.accepted ≤ l.event-index;
}
