use Rattle.fr_trace.proofs.OutcomeLemmas.{leaves_audited, leaves_stopped, not_refused}
use Rattle.fr_trace.proofs.RefusalLemmas.{audited_named}
use Rattle.fr_trace.proofs.audit.audit.Goals as goal

pub returns : goal.returns
returns g c =
    let audited = leaves_audited _ _ _ _ c.audit_through.result c.audit_through.ensures.left in
    record {
      found = audited;
      read = leaves_stopped _ _ _ _ c.audit_through.result c.audit_through.ensures.left;
      short = c.audit_through.ensures.short;
      line = audited_named _ _ _ c.audit_through.result audited;
      only = λ s is same. not_refused _ _ _ c.audit_through.result s audited is same;
    }
