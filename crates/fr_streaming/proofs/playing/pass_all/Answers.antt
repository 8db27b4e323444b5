use Rattle.std.proofs.Common.{◌+◌, ◌<◌, arith, length}
use Rattle.fr_playing.proofs.PassingLemmas.{rest_all}
use Rattle.fr_streaming.proofs.AlikeLemmas.{passed_all, passed_as, passed_front, passed_more, passed_none}
use Rattle.fr_streaming.proofs.playing.pass_all.Goals.{then-passed-eq0+in_ok-pass, else-passed-eq0}
use Rattle.fr_streaming.proofs.playing.pass_all.Goals as goal

pub loop-turn-init : goal.loop-turn-init
loop-turn-init c = record {
  many = omega arith;
  few = omega arith;
  passed = passed_none c.args.world.now;
}

pub returns-then-place-events : goal.returns-then-place-events
returns-then-place-events c =
    passed_all c.args.world.now c.loop-turn.world c.args.events.now c.loop-turn.place c.if-place-events.true
    c.loop-turn.invariant.passed

pub loop-turn-preserved : goal.loop-turn-preserved
loop-turn-preserved c =
    let l = c.args.world.now in
    let events = c.args.events.now in
    let within : c.loop-turn.place < length events = c.if-place-events.false in
    let passed = c.pass_front-passed.result in
    let mid = c.pass_front-passed.new.self in
    let front = passed_front l c.loop-turn.world mid events _ c.loop-turn.place passed
    (rest_all c.loop-turn.place events) c.loop-turn.invariant.passed c.pass_front-passed.ensures.accepts in
    elim c.if-passed-eq0.branch [
      | then-passed-eq0+in_ok-pass w ↦ record {
        many = omega (arith, c.loop-turn.invariant.many, w.place-is);
        few = omega (arith, within, w.place-is, w.if-passed-eq0.true);
        passed = passed_as l events (c.loop-turn.place + passed + 1) c.if-passed-eq0.place w.pass.new.world
            c.if-passed-eq0.world w.place-is w.world-is
            (passed_more l mid w.pass.new.world events (c.loop-turn.place + passed) w.index-events-place.result
            (omega (arith, within, w.if-passed-eq0.true)) w.index-events-place.is front w.in_ok-pass.ensures);
      }
      | else-passed-eq0 w ↦ record {
        many = omega (arith, c.loop-turn.invariant.many, w.place-is, w.if-passed-eq0.false);
        few = omega (arith, w.place-is, c.pass_front-passed.ensures.few, within);
        passed = passed_as l events (c.loop-turn.place + passed) c.if-passed-eq0.place mid c.if-passed-eq0.world
            w.place-is w.world-is front;
      }
    ]

pub returns : goal.returns
returns c =
    passed_all c.args.world.now c.loop-turn.world c.args.events.now c.loop-turn.place
    (omega (arith, c.loop-turn-test.false, c.loop-turn.invariant.many)) c.loop-turn.invariant.passed
