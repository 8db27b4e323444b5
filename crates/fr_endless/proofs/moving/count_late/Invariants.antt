use Rattle.std.proofs.Common.{◌≡◌, take}
use Rattle.fr_endless.specs.Fronts.{AreLate}
use Rattle.fr_live.specs.LiveWorlds.{ForEachWorld}
use Rattle.fr_endless.proofs.moving.count_late.Given as goal

-- so far none was due
abbrev pub invariant-loop-event : goal.invariant-loop-event
invariant-loop-event l = record {
  count : l.count ≡ l.event-index;
  late : ForEachWorld l.world (λ w. AreLate w (take l.event-index l.events));
}
