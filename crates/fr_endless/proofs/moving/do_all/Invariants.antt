use Rattle.std.proofs.Common.{◌≤◌, length, take}
use Rattle.fr_endless.specs.Taps.{ToldAlike, with_taps}
use Rattle.fr_playing.specs.Moving.{DoesAll}
use Rattle.fr_endless.proofs.moving.do_all.Given as goal

-- the events so far, one or more in each turn
abbrev pub invariant-loop-turn : goal.invariant-loop-turn
invariant-loop-turn g l = record {
  many : l.turn ≤ l.place;
  few : l.place ≤ length l.events;
  told : ToldAlike (with_taps l.fn.world l.fn.taps)
      (λ w v. DoesAll w (take l.place l.events) l.found v) (with_taps l.world l.taps);
}
