use Rattle.std.proofs.Common.{◌++◌, ap, ◌∙◌}
use Rattle.fr_lines.specs.declared.versions.Version.TheVariants.{Three}
use Rattle.fr_session.proofs.QueryLemmas.{block_told, memory_told}
use Rattle.fr_trace.specs.TraceText.{trace_text}
use Rattle.fr_session.proofs.queries.write_trace_block.Goals as goal

pub returns-in-Ok : goal.returns-in-Ok
returns-in-Ok g c =
    let text = trace_text Three c.args.interface.now in
    block_told g.W.Write.contents _ _ c.write_block.result text _
    (c.in-Ok.ensures.written ∙ ap (λ l. l ++ text) c.new-block.ensures.items) c.write_block.ensures

pub returns-in-Err : goal.returns-in-Err
returns-in-Err g c =
    memory_told g.W.Write.contents _ _ c.write_memory.result
    (trace_text Three c.args.interface.now) c.write_memory.ensures
