use Rattle.std.proofs.KnownBytes.{Keeps-refl}
use Rattle.fr_bench.proofs.AuditLemmas.{by_refused, by_reported}
use Rattle.fr_bench.proofs.audit.audit_by.Goals as goal

pub returns-in-Err : goal.returns-in-Err
returns-in-Err g c =
    let rest = g.R.Read.remaining c.read_text.new.reader in
    let old = g.W.Write.contents c.args.writer.now in record {
      found = λ text come. (by_refused c.args.later text rest old old c.in-Err.fault (c.in-Err.ensures text come)
          (Keeps-refl old)).0;
      read = λ text come. (by_refused c.args.later text rest old old c.in-Err.fault (c.in-Err.ensures text come)
          (Keeps-refl old)).1;
    }

pub returns : goal.returns
returns g c =
    let rest = g.R.Read.remaining c.read_text.new.reader in
    let old = g.W.Write.contents c.args.writer.now in
    let new = g.W.Write.contents c.report.new.writer in record {
      found = λ text come. (by_reported c.args.later text rest old new c.in-Ok.interface c.report.result
          (c.in-Ok.ensures text come) c.report.ensures).0;
      read = λ text come. (by_reported c.args.later text rest old new c.in-Ok.interface c.report.result
          (c.in-Ok.ensures text come) c.report.ensures).1;
    }
