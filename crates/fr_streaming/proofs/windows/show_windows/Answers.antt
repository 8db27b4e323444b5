use Rattle.std.proofs.Common.{◌≡◌, ◌∙◌, true, false, ap, length, sym}
use Rattle.fr_playing.specs.Moving.{is_at_cycle}
use Rattle.fr_playing.specs.Windows.{PlaysWithin}
use Rattle.fr_streaming.proofs.LedLemmas.{on_err, within_executed}
use Rattle.fr_streaming.proofs.StreamLemmas.{due_silent}
use Rattle.fr_streaming.proofs.TellLemmas.{breaks_after, breaks_at, windows_end, windows_more, windows_none}
use Rattle.fr_streaming.specs.RunFields.{due_of, faults_of}
use Rattle.fr_streaming.specs.Streams.{WithoutCalls}
use Rattle.fr_streaming.proofs.windows.show_windows.Goals as goal

pub loop-count-init : goal.loop-count-init
loop-count-init g c =
    let run = c.args.run.now in
    windows_none run.streamed run.scenario.now run.cluster.now c.args.cycle (faults_of run) (due_of run)
    (due_silent (due_of run) (length run.cluster.now.plans) c.requires) c.args.world.now
    (g.W.Write.contents c.args.writer.now)

pub loop-count-preserved : goal.loop-count-preserved
loop-count-preserved g c =
    let run = c.args.run.now in
    let within : is_at_cycle c.show_window.new.world.bus.bus.opened ≡ false =
    ap (λ b. is_at_cycle b.bus.opened) (sym c.bus.ensures)
    ∙ ap is_at_cycle (sym c.window.ensures) ∙ sym c.is_at_cycle.ensures ∙ c.if-is_at_cycle.false in
    windows_more run.streamed run.scenario.now run.cluster.now c.args.cycle (faults_of run) (due_of run)
    (due_silent (due_of run) (length run.cluster.now.plans) c.requires) c.args.world.now c.loop-count.world
    c.show_window.new.world (g.W.Write.contents c.args.writer.now) (g.W.Write.contents c.loop-count.writer)
    (g.W.Write.contents c.show_window.new.writer) c.loop-count.count c.loop-count.invariant
    c.in_ok-show_window.ensures.goes within

pub returns-then-is_at_cycle-clause-goes : goal.returns-then-is_at_cycle-clause-goes
returns-then-is_at_cycle-clause-goes g c =
    let run = c.args.run.now in
    let at : is_at_cycle c.show_window.new.world.bus.bus.opened ≡ true =
    ap (λ b. is_at_cycle b.bus.opened) (sym c.bus.ensures)
    ∙ ap is_at_cycle (sym c.window.ensures) ∙ sym c.is_at_cycle.ensures ∙ c.if-is_at_cycle.true in
    windows_end run.streamed run.scenario.now run.cluster.now c.args.cycle (faults_of run) (due_of run)
    (due_silent (due_of run) (length run.cluster.now.plans) c.requires) c.args.world.now c.loop-count.world
    c.show_window.new.world (g.W.Write.contents c.args.writer.now) (g.W.Write.contents c.loop-count.writer)
    (g.W.Write.contents c.show_window.new.writer) c.loop-count.count c.loop-count.invariant
    c.in_ok-show_window.ensures.goes at

pub returns-in_err-show_window-clause-early : goal.returns-in_err-show_window-clause-early
returns-in_err-show_window-clause-early g c =
    let run = c.args.run.now in
    on_err _ _ (breaks_after run.streamed run.scenario.now run.cluster.now
    (WithoutCalls (PlaysWithin c.args.cycle (faults_of run) (due_of run) c.loop-count.count)) c.args.world.now
    c.loop-count.world (g.W.Write.contents c.args.writer.now) (g.W.Write.contents c.loop-count.writer)
    (g.W.Write.contents c.show_window.new.writer) c.loop-count.invariant
    (within_executed c.args.cycle (faults_of run) (due_of run)
    (due_silent (due_of run) (length run.cluster.now.plans) c.requires) c.loop-count.count)
    c.in_err-show_window.ensures.early)

pub returns-clause-early : goal.returns-clause-early
returns-clause-early g c =
    let run = c.args.run.now in
    breaks_at run.streamed run.scenario.now run.cluster.now
    (WithoutCalls (PlaysWithin c.args.cycle (faults_of run) (due_of run) c.loop-count.count)) c.args.world.now
    c.loop-count.world (g.W.Write.contents c.args.writer.now) (g.W.Write.contents c.loop-count.writer)
    c.loop-count.invariant
    (within_executed c.args.cycle (faults_of run) (due_of run)
    (due_silent (due_of run) (length run.cluster.now.plans) c.requires) c.loop-count.count)
