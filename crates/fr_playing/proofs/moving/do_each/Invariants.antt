use Rattle.std.proofs.Common.{◌≤◌, length, take}
use Rattle.fr_playing.specs.Moving.{DoesAll}
use Rattle.fr_playing.proofs.moving.do_each.Given as goal

-- the events so far, one or more in each turn
abbrev pub invariant-loop-turn : goal.invariant-loop-turn
invariant-loop-turn l = record {
  many : l.turn ≤ l.place;
  few : l.place ≤ length l.events;
  done : DoesAll l.fn.world (take l.place l.events) l.found l.world;
}
