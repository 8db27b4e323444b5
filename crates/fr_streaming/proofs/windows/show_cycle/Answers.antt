use Rattle.std.proofs.Common.{List, length, subst}
use Rattle.fr_core.specs.Scripts.{Scripted}
use Rattle.fr_playing.specs.Calls.{asked_in}
use Rattle.fr_streaming.proofs.CallLemmas.{breaks_more}
use Rattle.fr_streaming.proofs.LedLemmas.{err_as, on_err}
use Rattle.fr_streaming.proofs.StreamLemmas.{due_silent}
use Rattle.fr_streaming.proofs.TellLemmas.{cycle_goes}
use Rattle.fr_streaming.specs.RunFields.{due_of, faults_of, scripts_of, tells}
use Rattle.fr_streaming.specs.Streams.{Breaks, Goes, MakesCalls}
use Rattle.fr_streaming.proofs.windows.show_cycle.Goals as goal

pub returns-in_err-show_lines-clause-early : goal.returns-in_err-show_lines-clause-early
returns-in_err-show_lines-clause-early g c = on_err _ _ c.in_err-show_lines.ensures.early

pub returns-clause-goes : goal.returns-clause-goes
returns-clause-goes g c =
    let run = c.args.run.now in
    let a = g.W.Write.contents c.args.writer.now in
    let b = g.W.Write.contents c.show_lines.new.writer in
    let d = g.W.Write.contents c.show_windows.new.writer in
    let called = subst (λ (scripts : List Scripted). Goes (tells run) (MakesCalls (asked_in c.args.cycle scripts))
    c.args.world.now a b c.show_lines.new.world) c.scripts.ensures.value c.in_ok-show_lines.ensures.goes in
    cycle_goes run.streamed run.scenario.now run.cluster.now (scripts_of run) (faults_of run) (due_of run)
    (due_silent (due_of run) (length run.cluster.now.plans) c.requires) c.show_windows.result c.args.cycle
    c.args.world.now c.show_lines.new.world c.show_windows.new.world a b d called c.show_windows.ensures.goes

pub returns-clause-early : goal.returns-clause-early
returns-clause-early g c =
    let run = c.args.run.now in
    let a = g.W.Write.contents c.args.writer.now in
    let b = g.W.Write.contents c.show_lines.new.writer in
    let d = g.W.Write.contents c.show_windows.new.writer in
    let called = subst (λ (scripts : List Scripted). Goes (tells run) (MakesCalls (asked_in c.args.cycle scripts))
    c.args.world.now a b c.show_lines.new.world) c.scripts.ensures.value c.in_ok-show_lines.ensures.goes in
    err_as c.show_windows.result (Breaks (tells run) c.show_lines.new.world b d)
    (Breaks (tells run) c.args.world.now a d)
    c.show_windows.ensures.early
    (breaks_more run.streamed run.scenario.now run.cluster.now (asked_in c.args.cycle (scripts_of run))
    c.args.world.now c.show_lines.new.world a b d called)
