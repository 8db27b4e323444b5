use Rattle.fr_endless.proofs.TraceLemmas.{call_refused, call_told}
use Rattle.fr_trace.specs.TraceText.{entry_line}
use Rattle.fr_endless.proofs.tracing.call_traced.Goals as goal

pub returns-in-Ok : goal.returns-in-Ok
returns-in-Ok g c =
    call_told c.args.world.now c.call.new.self c.args.taps.now c.add_line.new.self c.args.asked.now.node
    c.args.asked.now.task c.args.asked.now.call c.in-Ok.answer c.entry_told-entry.result c.from.result
    c.in-Ok.ensures.steps c.in-Ok.ensures.answer c.entry_told-entry.ensures
    (c.add_line.ensures (entry_line c.entry_told-entry.result) c.line_of-line.ensures) c.from.ensures

pub returns-in-Err : goal.returns-in-Err
returns-in-Err g c =
    call_refused c.args.world.now c.call.new.self c.args.taps.now c.args.asked.now.node
    c.args.asked.now.task c.args.asked.now.call c.in-Err.error c.in-Err.ensures.steps
