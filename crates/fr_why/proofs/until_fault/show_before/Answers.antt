use Rattle.std.proofs.Common.{◌≡◌, Result, Err, rules, take, drop, subst, Option, sym, ◌∙◌}
use Rattle.std.specs.Io.KnownBytes.{Appends}
use Rattle.fr_capture.specs.Shows.{IsUnwritten}
use Rattle.fr_interface.specs.State.{State}
use Rattle.fr_trace.specs.declared.error.TraceError.{TraceError}
use Rattle.fr_why.specs.Explains.{shown_so_far, ShowsUntil}
use Rattle.fr_why.specs.Finding.{between}
use Rattle.fr_why.proofs.ExplainLemmas.{shows_fault, shows_part}
use Rattle.fr_why.proofs.until_fault.show_before.Goals as goal

pub returns-in_ok-write_form-in-Ok-Some : goal.returns-in_ok-write_form-in-Ok-Some
returns-in_ok-write_form-in-Ok-Some g c =
    let text = c.args.text.now in
    let f = c.args.fault.now in
    let old = g.W.Write.contents c.args.writer.now in
    let new = g.W.Write.contents c.write_form.new.writer in
    shows_fault c.args.form text (take f.start text) (between f.start f.end text)
    (drop f.end text) old new f.error c.requires.of_text c.requires.at_fault
    (subst (λ (o : Option State). Appends old new (shown_so_far c.args.form o))
    (sym c.in-Ok-Some.field-0-is ∙ c.in-Ok-Some.ensures.left) c.in_ok-write_form-in-Ok-Some.ensures.written)

pub returns-in_err-write_form-in-Ok-Some : goal.returns-in_err-write_form-in-Ok-Some
returns-in_err-write_form-in-Ok-Some g c =
    let text = c.args.text.now in
    let f = c.args.fault.now in
    let old = g.W.Write.contents c.args.writer.now in
    let new = g.W.Write.contents c.write_form.new.writer in
    let e = c.in_err-write_form-in-Ok-Some.field-0.0 in
    let gone : c.from_residual.result ≡ Err e = search rules in
    subst (λ (r : Result (Unit {0}) TraceError). ShowsUntil c.args.form text old new r) (sym gone)
    (shows_part c.args.form text (take f.start text) (between f.start f.end text) (drop f.end text) old new e f.error
    c.requires.at_fault
    (subst (λ (o : Option State). IsUnwritten (shown_so_far c.args.form o) old new e)
    (sym c.in-Ok-Some.field-0-is ∙ c.in-Ok-Some.ensures.left) c.in_err-write_form-in-Ok-Some.ensures.refused))
