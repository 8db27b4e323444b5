use Rattle.std.proofs.Common.{◌≡◌, ◌+◌, ◌∙◌, true, ap, sym, refl}
use Rattle.std.proofs.lemmas.List.{take_more}
use Rattle.std.specs.List.{list_all}
use Rattle.fr_playing.specs.Moving.{IsObserveOf}
use Rattle.fr_core.specs.Worlds.{is_between}
use Rattle.fr_playing.proofs.MovingLemmas.{does_none, late_more}
use Rattle.fr_playing.proofs.moving.count_late.Goals as goal

pub returns-then-not-between_windows-clause-late : goal.returns-then-not-between_windows-clause-late
returns-then-not-between_windows-clause-late c = does_none c.args.world.now

pub loop-event-init : goal.loop-event-init
loop-event-init c = record { counted = refl; late = does_none c.args.world.now }

pub loop-event-preserved : goal.loop-event-preserved
loop-event-preserved c =
    let w = c.args.world.now in
    let between : list_all is_between w.carried ≡ true =
    sym c.between_windows.ensures ∙ c.if-not-between_windows.false in record {
      counted = ap (λ n. n + 1) c.loop-event.invariant.counted;
      late = rw (
        take_more c.args.events.now c.loop-event.event-index c.event-item.result c.loop-event-test.true,
        ← c.event-item.is,
      )
          (late_more w _ c.event-item.result c.interfaces-nodes.result.now c.interfaces-nodes.ensures.value
          c.loop-event.invariant.late between (c.is_observe_of.ensures c.if-not-is_observe_of.false));
    }
