use Rattle.std.proofs.Common.{◌+◌, ◌<◌, arith, length}
use Rattle.fr_playing.proofs.MovingLemmas.{does_none}
use Rattle.fr_playing.proofs.PassingLemmas.{did_all, did_as, did_front, did_more, rest_all}
use Rattle.fr_playing.proofs.moving.do_each.Goals.{then-passed-eq0, else-passed-eq0}
use Rattle.fr_playing.proofs.moving.do_each.Goals as goal

pub loop-turn-init : goal.loop-turn-init
loop-turn-init c = record {
  many = omega arith;
  few = omega arith;
  done = does_none c.args.world.now;
}

pub returns-then-place-events : goal.returns-then-place-events
returns-then-place-events c =
    did_all c.args.world.now c.loop-turn.world c.args.events.now c.loop-turn.place c.loop-turn.found
    c.if-place-events.true c.loop-turn.invariant.done

pub loop-turn-preserved : goal.loop-turn-preserved
loop-turn-preserved c =
    let w = c.args.world.now in
    let events = c.args.events.now in
    let within : c.loop-turn.place < length events = c.if-place-events.false in
    let passed = c.pass_front-passed.result in
    let mid = c.pass_front-passed.new.self in
    let front = did_front w c.loop-turn.world mid events _ c.loop-turn.place passed c.loop-turn.found
    (rest_all c.loop-turn.place events) c.loop-turn.invariant.done c.pass_front-passed.ensures.accepts in
    elim c.if-passed-eq0.branch [
      | then-passed-eq0 v ↦ record {
        many = omega (arith, c.loop-turn.invariant.many, v.place-is);
        few = omega (arith, within, v.place-is, v.if-passed-eq0.true);
        done = did_as w events (c.loop-turn.place + passed + 1) c.if-passed-eq0.place v.first_refusal-found.result
            c.if-passed-eq0.found v.apply-outcome.new.self c.if-passed-eq0.world v.place-is v.found-is v.world-is
            (did_more w mid v.apply-outcome.new.self events (c.loop-turn.place + passed) v.index-events-place.result
            c.loop-turn.found v.first_refusal-found.result v.apply-outcome.result
            (omega (arith, within, v.if-passed-eq0.true)) v.index-events-place.is v.first_refusal-found.ensures front
            v.apply-outcome.ensures.step);
      }
      | else-passed-eq0 v ↦ record {
        many = omega (arith, c.loop-turn.invariant.many, v.place-is, v.if-passed-eq0.false);
        few = omega (arith, v.place-is, c.pass_front-passed.ensures.few, within);
        done = did_as w events (c.loop-turn.place + passed) c.if-passed-eq0.place c.loop-turn.found
            c.if-passed-eq0.found mid c.if-passed-eq0.world v.place-is v.found-is v.world-is front;
      }
    ]

pub returns : goal.returns
returns c =
    did_all c.args.world.now c.loop-turn.world c.args.events.now c.loop-turn.place c.loop-turn.found
    (omega (arith, c.loop-turn-test.false, c.loop-turn.invariant.many)) c.loop-turn.invariant.done
