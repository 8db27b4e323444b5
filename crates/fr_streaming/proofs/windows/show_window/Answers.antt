use Rattle.std.proofs.Common.{◌≡◌, ◌∙◌, ℕ, ap₂, length, List, subst}
use Rattle.fr_bus.specs.Standing.{LiveStanding}
use Rattle.fr_endless.specs.Alike.{Alike}
use Rattle.fr_playing.specs.Windows.{PlaysWindow}
use Rattle.fr_runs.specs.declared.fault_line.FaultLine.{FaultLine}
use Rattle.fr_streaming.proofs.LedLemmas.{on_err, window_executed}
use Rattle.fr_streaming.proofs.StreamLemmas.{due_silent, window_shows}
use Rattle.fr_streaming.proofs.TellLemmas.{breaks_none, handed_breaks, handed_goes}
use Rattle.fr_streaming.specs.declared.log.NodeOffers.{NodeOffers}
use Rattle.fr_streaming.specs.declared.telling.Run.{Run}
use Rattle.fr_streaming.specs.RunFields.{due_of, faults_of}
use Rattle.fr_streaming.specs.Streams.{told_last, WithoutCalls}
use Rattle.fr_streaming.proofs.windows.show_window.Goals as goal

-- the text that is handed to the writer, from what each call returned
text_is : (run : Run) (bus new : LiveStanding) (offered offers : List NodeOffers) (made handed : List ℕ) → bus ≡ new
    → offered ≡ offers → handed ≡ made
    → made ≡ told_last run.streamed run.scenario.now run.cluster.now bus.bus.course.begun bus.last offered
    → handed ≡ told_last run.streamed run.scenario.now run.cluster.now new.bus.course.begun new.last offers
text_is run bus new offered offers made handed bus_is offers_are handed_is made_is =
    handed_is ∙ made_is
    ∙ ap₂ (λ (b : LiveStanding) (os : List NodeOffers). told_last run.streamed run.scenario.now run.cluster.now
    b.bus.course.begun b.last os) bus_is offers_are

pub returns-in_err-play_window-clause-early : goal.returns-in_err-play_window-clause-early
returns-in_err-play_window-clause-early g c =
    let run = c.args.run.now in
    on_err _ _ (breaks_none run.streamed run.scenario.now run.cluster.now c.args.world.now
    (g.W.Write.contents c.args.writer.now))

pub returns-in_err-text-clause-early : goal.returns-in_err-text-clause-early
returns-in_err-text-clause-early g c =
    let run = c.args.run.now in
    on_err _ _ (breaks_none run.streamed run.scenario.now run.cluster.now c.args.world.now
    (g.W.Write.contents c.args.writer.now))

pub returns-clause-goes : goal.returns-clause-goes
returns-clause-goes g c =
    let run = c.args.run.now in
    let old = c.args.world.now in
    let new = c.play_window.new.world in
    let offers = c.offers_for-offers.result.items in
    let text = told_last run.streamed run.scenario.now run.cluster.now new.bus.bus.course.begun new.bus.last offers in
    handed_goes run.streamed run.scenario.now run.cluster.now c.write_out.result
    (WithoutCalls (PlaysWindow c.args.cycle (faults_of run) (due_of run))) old new
    (g.W.Write.contents c.args.writer.now) (g.W.Write.contents c.write_out.new.writer) c.as_slice-2.result.now text
    (text_is run c.bus.result.now new.bus c.as_slice.result.now offers _ _ c.bus.ensures c.as_slice.ensures.value
    c.as_slice-2.ensures.value c.in_ok-text.ensures)
    (window_shows run.streamed run.scenario.now run.cluster.now c.args.cycle
    (faults_of run) (due_of run) old new offers c.requires c.offers_for-offers.ensures
    (subst (λ (faults : List FaultLine). Alike old (λ w v. PlaysWindow c.args.cycle faults (due_of run) w v) new)
    c.faults.ensures c.in_ok-play_window.ensures))
    c.write_out.ensures.written

pub returns-clause-early : goal.returns-clause-early
returns-clause-early g c =
    let run = c.args.run.now in
    let old = c.args.world.now in
    let new = c.play_window.new.world in
    let offers = c.offers_for-offers.result.items in
    let text = told_last run.streamed run.scenario.now run.cluster.now new.bus.bus.course.begun new.bus.last offers in
    handed_breaks run.streamed run.scenario.now run.cluster.now c.write_out.result
    (WithoutCalls (PlaysWindow c.args.cycle (faults_of run) (due_of run))) old new
    (g.W.Write.contents c.args.writer.now) (g.W.Write.contents c.write_out.new.writer) c.as_slice-2.result.now text
    (text_is run c.bus.result.now new.bus c.as_slice.result.now offers _ _ c.bus.ensures c.as_slice.ensures.value
    c.as_slice-2.ensures.value c.in_ok-text.ensures)
    (window_shows run.streamed run.scenario.now run.cluster.now c.args.cycle
    (faults_of run) (due_of run) old new offers c.requires c.offers_for-offers.ensures
    (subst (λ (faults : List FaultLine). Alike old (λ w v. PlaysWindow c.args.cycle faults (due_of run) w v) new)
    c.faults.ensures c.in_ok-play_window.ensures))
    (window_executed c.args.cycle (faults_of run) (due_of run)
    (due_silent (due_of run) (length run.cluster.now.plans) c.requires))
    c.write_out.ensures.cut
