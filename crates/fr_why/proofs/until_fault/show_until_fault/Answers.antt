use Rattle.std.proofs.Common.{◌≡◌, List, [], ℕ, IfSome, Result, Err, rules, subst, sym}
use Rattle.fr_trace.specs.declared.error.TraceError.{TraceError}
use Rattle.fr_why.proofs.ExplainLemmas.{shows_accepted, shows_known, shows_none}
use Rattle.fr_why.specs.Explains.{kept, ShowsUntil}
use Rattle.fr_why.specs.Finding.{IsFound}
use Rattle.fr_why.proofs.until_fault.show_until_fault.Goals as goal

pub returns-in_err-text-clause-some : goal.returns-in_err-text-clause-some
returns-in_err-text-clause-some g c =
    let old = g.W.Write.contents c.args.writer.now in
    let e = c.in_err-text.field-0.0 in
    let gone : c.from_residual.result ≡ Err e = search rules in (
      [],
      subst (λ (r : Result (Unit {0}) TraceError). ShowsUntil c.args.form [] old old r) (sym gone)
          (shows_none c.args.form [] old e c.in_err-text.ensures.refused),
    )

pub returns-in-Ok-Accepted-clause-shown : goal.returns-in-Ok-Accepted-clause-shown
returns-in-Ok-Accepted-clause-shown g c =
    let known = g.R.Read.remaining c.args.reader.now in
    let old = g.W.Write.contents c.args.writer.now in
    let new = g.W.Write.contents c.write_form.new.writer in
    let bytes = c.as_slice.result.now in
    let found = subst (IsFound bytes) c.in-Ok-Accepted.field-0-is c.in-Ok-Accepted.ensures.found in
    let read : IfSome known (λ text. bytes ≡ kept text) =
    subst (λ (b : List ℕ). IfSome known (λ text. b ≡ kept text)) (sym c.as_slice.ensures.value)
    c.in_ok-text.ensures.known in
    shows_known c.args.form known bytes old new c.write_form.result read
    (shows_accepted c.args.form bytes old new c.in-Ok-Accepted.interface c.write_form.result found.0 found.1
    c.write_form.ensures.written c.write_form.ensures.refused)

pub returns-in-Ok-Accepted-clause-some : goal.returns-in-Ok-Accepted-clause-some
returns-in-Ok-Accepted-clause-some g c =
    let old = g.W.Write.contents c.args.writer.now in
    let new = g.W.Write.contents c.write_form.new.writer in
    let bytes = c.as_slice.result.now in
    let found = subst (IsFound bytes) c.in-Ok-Accepted.field-0-is c.in-Ok-Accepted.ensures.found in (
      bytes,
      shows_accepted c.args.form bytes old new c.in-Ok-Accepted.interface c.write_form.result found.0 found.1
          c.write_form.ensures.written c.write_form.ensures.refused,
    )
