use Rattle.std.proofs.Common.{List, [], ℕ, Result, Err, ◌≡◌, rules, subst, sym}
use Rattle.fr_trace.specs.declared.error.TraceError.{TraceError}
use Rattle.fr_trace.specs.declared.error.TraceError.TheVariants.{Write}
use Rattle.fr_why.specs.declared.verdict.Verdict.{Verdict}
use Rattle.fr_why.specs.Explains.{Explains, IsExplained}
use Rattle.std.specs.Io.KnownBytes.{Appends}
use Rattle.fr_files.specs.Outputs.{FallsShort}
use Rattle.fr_why.proofs.ExplainLemmas.{explains_known, explains_none, read_whole}
use Rattle.fr_why.proofs.explain.explain_trace.Goals as goal

pub returns-in_err-text-clause-some : goal.returns-in_err-text-clause-some
returns-in_err-text-clause-some g c =
    let old = g.W.Write.contents c.args.writer.now in
    let e = c.in_err-text.field-0.0 in
    let gone : c.from_residual.result ≡ Err e = search rules in (
      [],
      subst (λ (r : Result Verdict TraceError). Explains [] old old r) (sym gone)
          (explains_none [] old e c.in_err-text.ensures.refused),
    )

pub returns-in-Ok-clause-whole : goal.returns-in-Ok-clause-whole
returns-in-Ok-clause-whole g c =
    read_whole (g.R.Read.remaining c.args.reader.now) c.in_ok-text.text.items c.in_ok-verdict.words.items
    c.in_ok-verdict.verdict c.in_ok-text.ensures.known
    (subst (λ (t : List ℕ). IsExplained t c.in_ok-verdict.verdict c.in_ok-verdict.words.items) c.as_slice.ensures.value
    c.in_ok-verdict.ensures.told)

pub returns-clause-told : goal.returns-clause-told
returns-clause-told g c =
    let old = g.W.Write.contents c.args.writer.now in
    let new = g.W.Write.contents c.write_text.new.writer in
    let bytes = c.in_ok-text.text.items in
    let verdict = c.in_ok-verdict.verdict in
    let words = c.in_ok-verdict.words.items in
    let explained = subst (λ (t : List ℕ). IsExplained t verdict words) c.as_slice.ensures.value
    c.in_ok-verdict.ensures.told in
    let short = subst (λ (t : List ℕ). FallsShort old new t) c.as_slice-2.ensures.value c.in-Err.ensures.cut in
    explains_known (g.R.Read.remaining c.args.reader.now) bytes old new (Err Write) c.in_ok-text.ensures.known
    (verdict, words, explained, short)

pub returns-clause-some : goal.returns-clause-some
returns-clause-some g c =
    let old = g.W.Write.contents c.args.writer.now in
    let new = g.W.Write.contents c.write_text.new.writer in
    let verdict = c.in_ok-verdict.verdict in
    let words = c.in_ok-verdict.words.items in
    let short = subst (λ (t : List ℕ). FallsShort old new t) c.as_slice-2.ensures.value c.in-Err.ensures.cut in
    (c.as_slice.result.now, (verdict, words, c.in_ok-verdict.ensures.told, short))

pub returns-in-Ok-clause-some : goal.returns-in-Ok-clause-some
returns-in-Ok-clause-some g c =
    let old = g.W.Write.contents c.args.writer.now in
    let new = g.W.Write.contents c.write_text.new.writer in
    let words = c.in_ok-verdict.words.items in
    let written = subst (λ (t : List ℕ). Appends old new t) c.as_slice-2.ensures.value c.in-Ok.ensures.written in
    (c.as_slice.result.now, (words, c.in_ok-verdict.ensures.told, written))
