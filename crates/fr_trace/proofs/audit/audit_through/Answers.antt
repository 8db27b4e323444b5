use Rattle.fr_trace.proofs.RefusalLemmas.{through_short}
use Rattle.fr_trace.proofs.audit.audit_through.Goals as goal

pub returns-clause-short : goal.returns-clause-short
returns-clause-short g c = through_short _ _ c.in-Ok.interface c.write_report.result c.in-Ok.ensures.through
    c.in-Ok.ensures.few
