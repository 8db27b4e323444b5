use Rattle.std.proofs.Common.{◌≡◌, None, take}
use Rattle.fr_playing.specs.Moving.{DoesAll}
use Rattle.fr_playing.proofs.moving.count_late.Given as goal

-- the events so far
abbrev pub invariant-loop-event : goal.invariant-loop-event
invariant-loop-event l = record {
  counted : l.count ≡ l.event-index;
  late : DoesAll l.world (take l.event-index l.events) None l.world;
}
