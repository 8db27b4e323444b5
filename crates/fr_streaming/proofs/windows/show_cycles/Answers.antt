use Rattle.std.proofs.Common.{length}
use Rattle.fr_playing.specs.Playing.{PlaysCycles}
use Rattle.fr_streaming.proofs.LedLemmas.{cycles_executed, on_err}
use Rattle.fr_streaming.proofs.StreamLemmas.{due_silent}
use Rattle.fr_streaming.proofs.TellLemmas.{breaks_after, cycles_next, cycles_start}
use Rattle.fr_streaming.specs.RunFields.{due_of, faults_of, scripts_of}
use Rattle.fr_streaming.proofs.windows.show_cycles.Goals as goal

pub loop-cycle-init : goal.loop-cycle-init
loop-cycle-init g c =
    let run = c.args.run.now in
    cycles_start run.streamed run.scenario.now run.cluster.now (scripts_of run) (faults_of run) (due_of run)
    (due_silent (due_of run) (length run.cluster.now.plans) c.requires) c.args.world.now
    (g.W.Write.contents c.args.writer.now)

pub loop-cycle-preserved : goal.loop-cycle-preserved
loop-cycle-preserved g c =
    let run = c.args.run.now in
    cycles_next run.streamed run.scenario.now run.cluster.now (scripts_of run) (faults_of run) (due_of run)
    (due_silent (due_of run) (length run.cluster.now.plans) c.requires) c.args.world.now c.loop-cycle.world
    c.show_cycle.new.world (g.W.Write.contents c.args.writer.now) (g.W.Write.contents c.loop-cycle.writer)
    (g.W.Write.contents c.show_cycle.new.writer) c.loop-cycle.cycle c.loop-cycle.invariant
    c.in_ok-show_cycle.ensures.goes

pub returns-in_err-show_cycle-clause-early : goal.returns-in_err-show_cycle-clause-early
returns-in_err-show_cycle-clause-early g c =
    let run = c.args.run.now in
    on_err _ _ (breaks_after run.streamed run.scenario.now run.cluster.now
    (PlaysCycles (scripts_of run) (faults_of run) (due_of run) c.loop-cycle.cycle) c.args.world.now
    c.loop-cycle.world (g.W.Write.contents c.args.writer.now) (g.W.Write.contents c.loop-cycle.writer)
    (g.W.Write.contents c.show_cycle.new.writer) c.loop-cycle.invariant
    (cycles_executed (scripts_of run) (faults_of run) (due_of run)
    (due_silent (due_of run) (length run.cluster.now.plans) c.requires) c.loop-cycle.cycle)
    c.in_err-show_cycle.ensures.early)
