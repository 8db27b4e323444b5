use Rattle.std.proofs.Common.{arith, take}
use Rattle.std.specs.List.{flat_map}
use Rattle.fr_playing.specs.Calls.{asked_in_script}
use Rattle.fr_streaming.proofs.CallLemmas.{breaks_more, goes_all, goes_more, none_goes}
use Rattle.fr_streaming.proofs.LedLemmas.{on_err}
use Rattle.fr_streaming.proofs.calling.show_lines.Goals as goal

pub loop-script-init : goal.loop-script-init
loop-script-init g c =
    let run = c.args.run.now in
    none_goes run.streamed run.scenario.now run.cluster.now c.args.world.now
    (g.W.Write.contents c.args.writer.now)

pub loop-script-preserved : goal.loop-script-preserved
loop-script-preserved g c =
    let run = c.args.run.now in
    goes_more run.streamed run.scenario.now run.cluster.now (asked_in_script c.args.cycle) c.args.scripts.now
    c.loop-script.script-index c.script-item.result c.args.world.now c.loop-script.world c.show_script.new.world
    (g.W.Write.contents c.args.writer.now) (g.W.Write.contents c.loop-script.writer)
    (g.W.Write.contents c.show_script.new.writer) c.loop-script-test.true c.script-item.is c.loop-script.invariant
    c.in_ok-show_script.ensures.goes

pub returns-in_err-show_script-clause-early : goal.returns-in_err-show_script-clause-early
returns-in_err-show_script-clause-early g c =
    let run = c.args.run.now in
    on_err _ _ (breaks_more run.streamed run.scenario.now run.cluster.now
    (flat_map (asked_in_script c.args.cycle) (take c.loop-script.script-index c.args.scripts.now)) c.args.world.now
    c.loop-script.world (g.W.Write.contents c.args.writer.now) (g.W.Write.contents c.loop-script.writer)
    (g.W.Write.contents c.show_script.new.writer) c.loop-script.invariant c.in_err-show_script.ensures.early)

pub returns-clause-goes : goal.returns-clause-goes
returns-clause-goes g c =
    let run = c.args.run.now in
    goes_all run.streamed run.scenario.now run.cluster.now (asked_in_script c.args.cycle) c.args.scripts.now
    c.loop-script.script-index c.args.world.now c.loop-script.world (g.W.Write.contents c.args.writer.now)
    (g.W.Write.contents c.loop-script.writer) (omega (arith, c.loop-script-test.false)) c.loop-script.invariant
