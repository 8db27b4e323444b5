use Rattle.std.proofs.Common.{◌∷◌, ◌∙◌, []}
use Rattle.fr_streaming.proofs.CallLemmas.{called_one}
use Rattle.fr_streaming.proofs.LedLemmas.{made_executed, on_err}
use Rattle.fr_streaming.proofs.TellLemmas.{breaks_none, handed_breaks, handed_goes}
use Rattle.fr_streaming.specs.Streams.{asked, told_call, MakesCalls}
use Rattle.fr_streaming.proofs.calling.show_call.Goals as goal

pub returns-in-Err-clause-early : goal.returns-in-Err-clause-early
returns-in-Err-clause-early g c =
    let run = c.args.run.now in
    breaks_none run.streamed run.scenario.now run.cluster.now c.args.world.now
    (g.W.Write.contents c.args.writer.now)

pub returns-in_err-text-clause-early : goal.returns-in_err-text-clause-early
returns-in_err-text-clause-early g c =
    let run = c.args.run.now in
    on_err _ _ (breaks_none run.streamed run.scenario.now run.cluster.now c.args.world.now
    (g.W.Write.contents c.args.writer.now))

pub returns-clause-goes : goal.returns-clause-goes
returns-clause-goes g c =
    let run = c.args.run.now in
    let line = c.args.line.now in
    handed_goes run.streamed run.scenario.now run.cluster.now c.write_out.result
    (MakesCalls (asked c.args.node c.args.task line.cycle line.action ∷ [])) c.args.world.now c.call.new.self
    (g.W.Write.contents c.args.writer.now) (g.W.Write.contents c.write_out.new.writer) c.as_slice.result.now
    (told_call run.streamed (asked c.args.node c.args.task line.cycle line.action) c.place_in-place.result
    c.in-Ok.answer)
    (c.as_slice.ensures.value ∙ c.in_ok-text.ensures)
    (called_one run.streamed run.scenario.now run.cluster.now c.args.world.now c.call.new.self c.args.node
    c.args.task line.cycle line.action c.call.result c.place_in-place.result c.in-Ok.answer c.place_in-place.ensures
    c.in-Ok.is c.call.ensures.steps c.call.ensures.answer)
    c.write_out.ensures.written

pub returns-clause-early : goal.returns-clause-early
returns-clause-early g c =
    let run = c.args.run.now in
    let line = c.args.line.now in
    let asks = asked c.args.node c.args.task line.cycle line.action ∷ [] in
    handed_breaks run.streamed run.scenario.now run.cluster.now c.write_out.result
    (MakesCalls asks) c.args.world.now c.call.new.self
    (g.W.Write.contents c.args.writer.now) (g.W.Write.contents c.write_out.new.writer) c.as_slice.result.now
    (told_call run.streamed (asked c.args.node c.args.task line.cycle line.action) c.place_in-place.result
    c.in-Ok.answer)
    (c.as_slice.ensures.value ∙ c.in_ok-text.ensures)
    (called_one run.streamed run.scenario.now run.cluster.now c.args.world.now c.call.new.self c.args.node
    c.args.task line.cycle line.action c.call.result c.place_in-place.result c.in-Ok.answer c.place_in-place.ensures
    c.in-Ok.is c.call.ensures.steps c.call.ensures.answer)
    (made_executed asks) c.write_out.ensures.cut
