use Rattle.fr_bench.proofs.AuditLemmas.{accepts_earlier, accepts_later}
use Rattle.fr_bench.proofs.audit.audit.Goals as goal

pub returns : goal.returns
returns g c = record {
  found = c.audit_through.ensures.found;
  read = c.audit_through.ensures.read;
  only = λ s legal trace. accepts_earlier _ _ _ c.audit_through.result s c.audit_through.ensures.found legal trace;
  long = λ s legal same. accepts_later _ _ _ c.audit_through.result s c.audit_through.ensures.found legal same;
}
