use Rattle.std.proofs.Common.{◌+◌, ◌<◌, arith, length}
use Rattle.fr_endless.proofs.MovingLemmas.{did_all, did_late, did_more, did_passed, turn_as}
use Rattle.fr_endless.specs.Taps.{with_taps}
use Rattle.fr_playing.proofs.PassingLemmas.{rest_all}
use Rattle.fr_endless.proofs.moving.do_all.Goals.{then-passed-eq0, else-passed-eq0}
use Rattle.fr_endless.proofs.moving.do_all.Goals as goal

pub loop-turn-init : goal.loop-turn-init
loop-turn-init g c = record {
  many = omega arith;
  few = c.count_late-place.ensures.few;
  told = did_late (with_taps c.args.world.now c.args.taps.now) c.args.events.now c.count_late-place.result
      c.count_late-place.ensures.late;
}

pub returns-then-place-events : goal.returns-then-place-events
returns-then-place-events g c =
    did_all (with_taps c.args.world.now c.args.taps.now) (with_taps c.loop-turn.world c.loop-turn.taps)
    c.args.events.now c.loop-turn.place c.loop-turn.found c.if-place-events.true c.loop-turn.invariant.told

pub loop-turn-preserved : goal.loop-turn-preserved
loop-turn-preserved g c =
    let start = with_taps c.args.world.now c.args.taps.now in
    let events = c.args.events.now in
    let within : c.loop-turn.place < length events = c.if-place-events.false in
    let passed = c.pass_front-passed.result in
    let mid = with_taps c.pass_front-passed.new.world c.loop-turn.taps in
    let front = did_passed start (with_taps c.loop-turn.world c.loop-turn.taps) mid events _ c.loop-turn.place passed
    c.loop-turn.found (rest_all c.loop-turn.place events) c.loop-turn.invariant.told
    c.pass_front-passed.ensures.accepts in
    elim c.if-passed-eq0.branch [
      | then-passed-eq0 w ↦ record {
        many = omega (arith, c.loop-turn.invariant.many, w.place-is);
        few = omega (arith, within, w.place-is, w.if-passed-eq0.true);
        told = turn_as start events (c.loop-turn.place + passed + 1) c.if-passed-eq0.place
            w.first_refusal-found.result c.if-passed-eq0.found
            w.apply_told-outcome.new.world c.if-passed-eq0.world w.apply_told-outcome.new.taps c.if-passed-eq0.taps
            w.place-is w.found-is w.world-is w.taps-is
            (did_more start mid (with_taps w.apply_told-outcome.new.world w.apply_told-outcome.new.taps) events
            (c.loop-turn.place + passed) w.index-events-place.result c.loop-turn.found w.first_refusal-found.result
            w.apply_told-outcome.result (omega (arith, within, w.if-passed-eq0.true)) w.index-events-place.is
            w.first_refusal-found.ensures front w.apply_told-outcome.ensures);
      }
      | else-passed-eq0 w ↦ record {
        many = omega (arith, c.loop-turn.invariant.many, w.place-is, w.if-passed-eq0.false);
        few = omega (arith, w.place-is, c.pass_front-passed.ensures.few, within);
        told = turn_as start events (c.loop-turn.place + passed) c.if-passed-eq0.place c.loop-turn.found
            c.if-passed-eq0.found c.pass_front-passed.new.world c.if-passed-eq0.world c.loop-turn.taps
            c.if-passed-eq0.taps w.place-is w.found-is w.world-is w.taps-is front;
      }
    ]

pub returns : goal.returns
returns g c =
    did_all (with_taps c.args.world.now c.args.taps.now) (with_taps c.loop-turn.world c.loop-turn.taps)
    c.args.events.now c.loop-turn.place c.loop-turn.found
    (omega (arith, c.loop-turn-test.false, c.loop-turn.invariant.many)) c.loop-turn.invariant.told
