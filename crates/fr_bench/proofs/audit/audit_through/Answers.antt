use Rattle.std.proofs.Common.{rules, subst, sym, Err}
use Rattle.std.proofs.KnownBytes.{Keeps-refl}
use Rattle.std.specs.Io.KnownBytes.{Consumes}
use Rattle.fr_bench.proofs.AuditLemmas.{ends_by, ends_none, found_by, found_none}
use Rattle.fr_bench.specs.Audits.{Ends, Finds}
use Rattle.fr_trace.specs.declared.error.TraceError.{TraceError}
use Rattle.fr_bench.proofs.audit.audit_through.Goals as goal

pub returns-in-Err : goal.returns-in-Err
returns-in-Err g c =
    let text = g.R.Read.remaining c.args.reader.now in
    let rest = g.R.Read.remaining c.head_of.new.reader in
    let old = g.W.Write.contents c.args.writer.now in record {
      found = subst (λ (e : TraceError). Finds text old old (Err e)) (sym c.in-Err.ensures.0)
          (found_none text old old (Keeps-refl old));
      read = subst (λ (e : TraceError). Ends text rest (Err e)) (sym c.in-Err.ensures.0)
          (ends_none text rest c.in-Err.ensures.1 c.in-Err.ensures.2);
    }

pub returns : goal.returns
returns g c =
    let text = g.R.Read.remaining c.args.reader.now in
    let rest = g.R.Read.remaining c.audit_by.new.reader in
    let old = g.W.Write.contents c.args.writer.now in
    let new = g.W.Write.contents c.audit_by.new.writer in
    let come =
    subst (Consumes text (g.R.Read.remaining c.head_of.new.reader)) (sym c.as_slice-bytes.ensures.value)
    c.in-Ok.ensures.0 in record {
      found = found_by text old new c.in-Ok.head.items c.is_later.result c.audit_by.result c.in-Ok.ensures.2
          (search rules) (c.audit_by.ensures.found text come);
      read = ends_by text rest c.in-Ok.head.items c.is_later.result c.audit_by.result c.in-Ok.ensures.2 (search rules)
          (c.audit_by.ensures.read text come);
    }
