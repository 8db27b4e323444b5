use Rattle.std.proofs.Common.{◌∙◌, sym}
use Rattle.fr_streaming.proofs.CallLemmas.{line_goes, line_passed}
use Rattle.fr_streaming.proofs.calling.show_line.Goals as goal

pub returns-then-from-cycle-clause-goes : goal.returns-then-from-cycle-clause-goes
returns-then-from-cycle-clause-goes g c =
    let run = c.args.run.now in
    line_goes run.streamed run.scenario.now run.cluster.now c.show_call.result c.args.cycle c.args.node
    c.args.task c.args.line.now c.args.world.now c.show_call.new.world (g.W.Write.contents c.args.writer.now)
    (g.W.Write.contents c.show_call.new.writer) (sym c.from.ensures ∙ c.if-from-cycle.true) c.show_call.ensures.goes

pub returns-else-from-cycle-clause-goes : goal.returns-else-from-cycle-clause-goes
returns-else-from-cycle-clause-goes g c =
    let run = c.args.run.now in
    line_passed run.streamed run.scenario.now run.cluster.now c.args.cycle c.args.node c.args.task
    c.args.line.now c.args.world.now (g.W.Write.contents c.args.writer.now)
    (λ same. c.if-from-cycle.false (c.from.ensures ∙ same))
