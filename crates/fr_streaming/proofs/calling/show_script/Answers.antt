use Rattle.std.proofs.Common.{◌≡◌, List, arith, rules, subst, take}
use Rattle.std.specs.List.{flat_map}
use Rattle.fr_core.specs.declared.script.Line.{Line}
use Rattle.fr_core.specs.Scripts.{Scripted}
use Rattle.fr_playing.specs.Calls.{asked_in_line}
use Rattle.fr_streaming.proofs.CallLemmas.{breaks_more, goes_all, goes_more, none_goes}
use Rattle.fr_streaming.proofs.LedLemmas.{on_err}
use Rattle.fr_streaming.specs.RunFields.{tells}
use Rattle.fr_streaming.specs.Streams.{Goes, MakesCalls}
use Rattle.fr_streaming.proofs.calling.show_script.Goals as goal

pub loop-line-init : goal.loop-line-init
loop-line-init g c =
    let run = c.args.run.now in
    none_goes run.streamed run.scenario.now run.cluster.now c.args.world.now
    (g.W.Write.contents c.args.writer.now)

pub loop-line-preserved : goal.loop-line-preserved
loop-line-preserved g c =
    let run = c.args.run.now in
    let b = g.W.Write.contents c.loop-line.writer in
    let d = g.W.Write.contents c.show_line.new.writer in
    goes_more run.streamed run.scenario.now run.cluster.now
    (asked_in_line c.args.cycle c.args.script.now.node c.args.script.now.task) _ c.loop-line.line-index
    c.line-item.result c.args.world.now c.loop-line.world c.show_line.new.world
    (g.W.Write.contents c.args.writer.now) b d c.loop-line-test.true c.line-item.is c.loop-line.invariant
    (subst (λ (s : Scripted). Goes (tells run) (MakesCalls (asked_in_line c.args.cycle s.node s.task
    c.line-item.result)) c.loop-line.world b d c.show_line.new.world) c.script.view_is
    c.in_ok-show_line.ensures.goes)

pub returns-in_err-show_line-clause-early : goal.returns-in_err-show_line-clause-early
returns-in_err-show_line-clause-early g c =
    let run = c.args.run.now in
    on_err _ _ (breaks_more run.streamed run.scenario.now run.cluster.now
    (flat_map (asked_in_line c.args.cycle c.args.script.now.node c.args.script.now.task)
    (take c.loop-line.line-index c.as_slice-lines.result.now)) c.args.world.now c.loop-line.world
    (g.W.Write.contents c.args.writer.now) (g.W.Write.contents c.loop-line.writer)
    (g.W.Write.contents c.show_line.new.writer) c.loop-line.invariant c.in_err-show_line.ensures.early)

pub returns-clause-goes : goal.returns-clause-goes
returns-clause-goes g c =
    let run = c.args.run.now in
    let asks = asked_in_line c.args.cycle c.args.script.now.node c.args.script.now.task in
    let a = g.W.Write.contents c.args.writer.now in
    let b = g.W.Write.contents c.loop-line.writer in
    let lines_are : c.as_slice-lines.result.now ≡ c.args.script.now.lines = search rules in
    subst (λ (lines : List Line). Goes (tells run) (MakesCalls (flat_map asks lines)) c.args.world.now a b
    c.loop-line.world) lines_are
    (goes_all run.streamed run.scenario.now run.cluster.now asks _ c.loop-line.line-index c.args.world.now
    c.loop-line.world a b (omega (arith, c.loop-line-test.false)) c.loop-line.invariant)
