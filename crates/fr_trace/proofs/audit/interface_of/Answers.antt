use Rattle.std.proofs.Common.{None}
use Rattle.fr_trace.proofs.OutcomeLemmas.{leaves_audited, leaves_stopped, not_refused, outcome_not_refused}
use Rattle.fr_trace.proofs.OutcomeLemmas.{through_understood, understood_leaves}
use Rattle.fr_trace.proofs.RefusalLemmas.{audited_named, named_alike}
use Rattle.fr_trace.specs.Audit.{outcome}
use Rattle.fr_trace.proofs.audit.interface_of.Goals as goal

pub returns : goal.returns
returns g c =
    let r = c.read_through.result in
    let text = g.R.Read.remaining c.args.reader.now in
    let rest = g.R.Read.remaining c.read_through.new.reader in
    let left = understood_leaves text rest r c.read_through.ensures.legal c.read_through.ensures.through in
    let audited = leaves_audited text rest None None (outcome r) left in
    record {
      found = through_understood text rest r c.read_through.ensures.legal c.read_through.ensures.through;
      read = leaves_stopped text rest None None (outcome r) left;
      line = named_alike text r (audited_named text None None (outcome r) audited);
      only = λ s is same. outcome_not_refused r (not_refused text None None (outcome r) s audited is same);
    }
