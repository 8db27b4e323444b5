use Rattle.fr_endless.proofs.ReplyLemmas.{replied, replied_so, asked_so, event_so}
use Rattle.fr_endless.proofs.ReplyLemmas.{line_so, both_so, forget_so, window_so, run_so}
use Rattle.fr_endless.proofs.ReplyLemmas.{now_so, at_so, report_so, status_so, trace_so, origin_so, record_so}
use Rattle.fr_endless.specs.Taps.{with_taps}
use Rattle.fr_session.specs.Sessions.{with_faults}
use Rattle.fr_session.specs.TermsFields.{terms_in}
use Rattle.fr_endless.proofs.session.do_request.Goals as goal

pub returns-in-Event : goal.returns-in-Event
returns-in-Event g c =
    let t = terms_in c.args.terms.now in
    let l = with_taps c.args.world.now c.args.taps.now in
    let kept = c.args.noted.now in
    asked_so g.W.Write.contents c.args.writer.now c.write_answer.new.writer c.write_answer.result t l
    (with_taps c.step_told-answer.new.world c.step_told-answer.new.taps) kept
    kept c.args.request _ c.in-Event.is
    (replied g.W.Write.contents c.args.writer.now c.write_answer.new.writer c.write_answer.result _ _
    (event_so t l (with_taps c.step_told-answer.new.world c.step_told-answer.new.taps) kept c.in-Event.event
    c.step_told-answer.result c.step_told-answer.ensures)
    c.write_answer.ensures)

pub returns-in-Receive : goal.returns-in-Receive
returns-in-Receive g c =
    let t = terms_in c.args.terms.now in
    let l = with_taps c.args.world.now c.args.taps.now in
    asked_so g.W.Write.contents c.args.writer.now c.receive.new.writer c.receive.result t l
    (with_taps c.receive.new.world c.receive.new.taps) c.args.noted.now c.receive.new.noted c.args.request _
    c.in-Receive.is
    (replied_so g.W.Write.contents c.args.writer.now c.receive.new.writer c.receive.result _ _
    (λ reply told s w is keep. told s w is) c.receive.ensures)

pub returns-in-Next : goal.returns-in-Next
returns-in-Next g c =
    let t = terms_in c.args.terms.now in
    let l = with_taps c.args.world.now c.args.taps.now in
    asked_so g.W.Write.contents c.args.writer.now c.take_next.new.writer c.take_next.result t l
    (with_taps c.take_next.new.world c.take_next.new.taps) c.args.noted.now c.take_next.new.noted c.args.request _
    c.in-Next.is
    (replied_so g.W.Write.contents c.args.writer.now c.take_next.new.writer c.take_next.result _ _
    (λ reply told s w is keep. told s w is) c.take_next.ensures)

pub returns-in-Fault : goal.returns-in-Fault
returns-in-Fault g c =
    let t = terms_in c.args.terms.now in
    let l = with_taps c.args.world.now c.args.taps.now in
    let kept = c.args.noted.now in
    asked_so g.W.Write.contents c.args.writer.now c.keep_line.new.writer c.keep_line.result t l l kept
    (with_faults kept c.keep_line.new.kept) c.args.request _ c.in-Fault.is
    (replied_so g.W.Write.contents c.args.writer.now c.keep_line.new.writer c.keep_line.result _ _
    (line_so t l kept c.in-Fault.line c.keep_line.new.kept) c.keep_line.ensures)

pub returns-in-Faults : goal.returns-in-Faults
returns-in-Faults g c =
    let t = terms_in c.args.terms.now in
    let l = with_taps c.args.world.now c.args.taps.now in
    let kept = c.args.noted.now in
    asked_so g.W.Write.contents c.args.writer.now c.keep_both.new.writer c.keep_both.result t l l kept
    (with_faults kept c.keep_both.new.kept) c.args.request _ c.in-Faults.is
    (replied_so g.W.Write.contents c.args.writer.now c.keep_both.new.writer c.keep_both.result _ _
    (both_so t l kept c.in-Faults.a c.in-Faults.b c.keep_both.new.kept) c.keep_both.ensures)

pub returns-in-Forget : goal.returns-in-Forget
returns-in-Forget g c =
    let t = terms_in c.args.terms.now in
    let l = with_taps c.args.world.now c.args.taps.now in
    let kept = c.args.noted.now in
    asked_so g.W.Write.contents c.args.writer.now c.write_done.new.writer c.write_done.result t l l kept
    (with_faults kept c.clear.new.self) c.args.request _ c.in-Forget.is
    (replied g.W.Write.contents c.args.writer.now c.write_done.new.writer c.write_done.result _ _
    (forget_so t l kept c.clear.new.self c.clear.ensures) c.write_done.ensures)

pub returns-in-Window : goal.returns-in-Window
returns-in-Window g c =
    let t = terms_in c.args.terms.now in
    let l = with_taps c.args.world.now c.args.taps.now in
    let kept = c.args.noted.now in
    asked_so g.W.Write.contents c.args.writer.now c.write_moved.new.writer c.write_moved.result t l
    (with_taps c.finish_window-hindered.new.world c.finish_window-hindered.new.taps) kept
    kept c.args.request _ c.in-Window.is
    (replied g.W.Write.contents c.args.writer.now c.write_moved.new.writer c.write_moved.result _ _
    (window_so t l (with_taps c.finish_window-hindered.new.world c.finish_window-hindered.new.taps) kept
    c.as_slice.result.now c.bus.result.now
    c.finish_window-hindered.result c.as_slice.ensures c.bus.ensures c.finish_window-hindered.ensures)
    c.write_moved.ensures)

pub returns-in-Run : goal.returns-in-Run
returns-in-Run g c =
    let t = terms_in c.args.terms.now in
    let l = with_taps c.args.world.now c.args.taps.now in
    let kept = c.args.noted.now in
    asked_so g.W.Write.contents c.args.writer.now c.write_moved-in-Run.new.writer c.write_moved-in-Run.result t l
    (with_taps c.finish_cycles-hindered.new.world c.finish_cycles-hindered.new.taps) kept
    kept c.args.request _ c.in-Run.is
    (replied g.W.Write.contents c.args.writer.now c.write_moved-in-Run.new.writer c.write_moved-in-Run.result _ _
    (run_so t l (with_taps c.finish_cycles-hindered.new.world c.finish_cycles-hindered.new.taps) kept
    c.as_slice-in-Run.result.now c.bus-in-Run.result.now
    c.in-Run.cycles c.finish_cycles-hindered.result c.as_slice-in-Run.ensures c.bus-in-Run.ensures
    c.finish_cycles-hindered.ensures) c.write_moved-in-Run.ensures)

pub returns-in-Now : goal.returns-in-Now
returns-in-Now g c =
    let t = terms_in c.args.terms.now in
    let l = with_taps c.args.world.now c.args.taps.now in
    let kept = c.args.noted.now in
    asked_so g.W.Write.contents c.args.writer.now c.write_now.new.writer c.write_now.result t l l kept
    kept c.args.request _ c.in-Now.is
    (replied g.W.Write.contents c.args.writer.now c.write_now.new.writer c.write_now.result _ _
    (now_so t l kept c.bus-in-Now.result.now c.bus-in-Now.ensures) c.write_now.ensures)

pub returns-in-At : goal.returns-in-At
returns-in-At g c =
    let t = terms_in c.args.terms.now in
    let l = with_taps c.args.world.now c.args.taps.now in
    let kept = c.args.noted.now in
    asked_so g.W.Write.contents c.args.writer.now c.write_at.new.writer c.write_at.result t l l kept
    kept c.args.request _ c.in-At.is
    (replied g.W.Write.contents c.args.writer.now c.write_at.new.writer c.write_at.result _ _
    (at_so t l kept c.bus-in-At.result.now c.params.result.now c.bus-in-At.ensures c.params.ensures.value)
    c.write_at.ensures)

pub returns-in-Report : goal.returns-in-Report
returns-in-Report g c =
    let t = terms_in c.args.terms.now in
    let l = with_taps c.args.world.now c.args.taps.now in
    let kept = c.args.noted.now in
    asked_so g.W.Write.contents c.args.writer.now c.write_node_report.new.writer c.write_node_report.result t l l kept
    kept c.args.request _ c.in-Report.is
    (replied_so g.W.Write.contents c.args.writer.now c.write_node_report.new.writer c.write_node_report.result _ _
    (report_so t l kept c.in-Report.node) c.write_node_report.ensures)

pub returns-in-Status : goal.returns-in-Status
returns-in-Status g c =
    let t = terms_in c.args.terms.now in
    let l = with_taps c.args.world.now c.args.taps.now in
    let kept = c.args.noted.now in
    asked_so g.W.Write.contents c.args.writer.now c.write_node_status.new.writer c.write_node_status.result t l l kept
    kept c.args.request _ c.in-Status.is
    (replied_so g.W.Write.contents c.args.writer.now c.write_node_status.new.writer c.write_node_status.result _ _
    (status_so t l kept c.in-Status.node c.in-Status.channel) c.write_node_status.ensures)

pub returns-in-Trace : goal.returns-in-Trace
returns-in-Trace g c =
    let t = terms_in c.args.terms.now in
    let l = with_taps c.args.world.now c.args.taps.now in
    let kept = c.args.noted.now in
    asked_so g.W.Write.contents c.args.writer.now c.write_no_history.new.writer c.write_no_history.result t l l kept
    kept c.args.request _ c.in-Trace.is
    (replied g.W.Write.contents c.args.writer.now c.write_no_history.new.writer c.write_no_history.result _ _
    (trace_so t l kept c.in-Trace.field-0) c.write_no_history.ensures)

pub returns-in-Origin : goal.returns-in-Origin
returns-in-Origin g c =
    let t = terms_in c.args.terms.now in
    let l = with_taps c.args.world.now c.args.taps.now in
    let kept = c.args.noted.now in
    asked_so g.W.Write.contents c.args.writer.now c.write_no_history-in-Origin.new.writer
    c.write_no_history-in-Origin.result t l l kept
    kept c.args.request _ c.in-Origin.is
    (replied g.W.Write.contents c.args.writer.now c.write_no_history-in-Origin.new.writer
    c.write_no_history-in-Origin.result _ _
    (origin_so t l kept c.in-Origin.field-0) c.write_no_history-in-Origin.ensures)

pub returns-in-Record : goal.returns-in-Record
returns-in-Record g c =
    let t = terms_in c.args.terms.now in
    let l = with_taps c.args.world.now c.args.taps.now in
    let kept = c.args.noted.now in
    asked_so g.W.Write.contents c.args.writer.now c.write_record.new.writer c.write_record.result t l l kept
    kept c.args.request _ c.in-Record.is
    (replied_so g.W.Write.contents c.args.writer.now c.write_record.new.writer c.write_record.result _ _
    (record_so t l kept c.bus-in-Record.result.now c.kept.result.now c.in-Record.window c.bus-in-Record.ensures
    c.kept.ensures) c.write_record.ensures)
