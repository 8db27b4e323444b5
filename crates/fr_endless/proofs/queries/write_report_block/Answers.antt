use Rattle.std.proofs.Common.{◌++◌, ap, ◌∙◌}
use Rattle.fr_auditing.specs.KeptReport.{kept_report}
use Rattle.fr_session.proofs.QueryLemmas.{block_told, memory_told}
use Rattle.fr_endless.proofs.queries.write_report_block.Goals as goal

pub returns-in-Ok : goal.returns-in-Ok
returns-in-Ok g c =
    let text = kept_report c.args.interface.now c.args.count in
    block_told g.W.Write.contents _ _ c.write_block.result text _
    (c.in-Ok.ensures ∙ ap (λ l. l ++ text) c.new-block.ensures.items) c.write_block.ensures

pub returns-in-Err : goal.returns-in-Err
returns-in-Err g c =
    memory_told g.W.Write.contents _ _ c.write_memory.result (kept_report c.args.interface.now c.args.count)
    c.write_memory.ensures
