use Rattle.std.proofs.Common.{◌≡◌, ◌≤◌, Bool, true, false, cond, refl, ap, ◌∙◌, arith}
use Rattle.std.proofs.lemmas.List.{take_more}
use Rattle.fr_core.proofs.RunLemmas.{run_none, run_more}
use mir.Val.{bool_byte}
use Rattle.fr_core.proofs.run.run_events.Goals as goal

byte_is : (b : Bool) → bool_byte b ≡ cond b 1 0
byte_is true = refl
byte_is false = refl

one_at_most : (b : Bool) → bool_byte b ≤ 1
one_at_most true = omega arith
one_at_most false = omega arith

pub loop-event-init : goal.loop-event-init
loop-event-init c = record { run = run_none c.args.world.now; few = omega arith }

pub loop-event-preserved : goal.loop-event-preserved
loop-event-preserved c =
    record {
      run = rw (
        take_more c.args.events.now c.loop-event.event-index c.event-item.result c.loop-event-test.true,
        ← c.event-item.is,
      )
          (run_more _ _ _ _ _ _ _ _ c.loop-event.invariant.run c.step.ensures.step
          (c.from-accepted.ensures ∙ byte_is c.is_ok.result ∙ ap (λ b. cond b 1 0) c.is_ok.ensures.value));
      few = omega (arith, c.loop-event.invariant.few, c.from-accepted.ensures, one_at_most c.is_ok.result);
    }
