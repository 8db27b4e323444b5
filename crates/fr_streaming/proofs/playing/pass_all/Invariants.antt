use Rattle.std.proofs.Common.{◌≤◌, length, take}
use Rattle.fr_endless.specs.Alike.{Alike}
use Rattle.fr_playing.specs.Striking.{Passes}
use Rattle.fr_streaming.proofs.playing.pass_all.Given as goal

-- the events so far, one or more in each turn
abbrev pub invariant-loop-turn : goal.invariant-loop-turn
invariant-loop-turn l = record {
  many : l.turn ≤ l.place;
  few : l.place ≤ length l.events;
  passed : Alike l.fn.world (λ w v. Passes w (take l.place l.events) v) l.world;
}
