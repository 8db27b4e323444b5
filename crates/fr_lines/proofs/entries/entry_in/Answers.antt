use Rattle.std.proofs.Common.{sym, ap, ◌∙◌}
use Rattle.fr_lines.proofs.FrontLemmas.{observe_line, fetch_line, commit_line}
use Rattle.fr_lines.specs.Reading.{commit_in, fetch_in, observe_in}
use Rattle.fr_text.specs.Spaces.{words_of}
use Rattle.fr_lines.proofs.entries.entry_in.Goals as goal

pub returns-in-Some : goal.returns-in-Some
returns-in-Some c =
    let front = rw c.as_slice.ensures at c.in-Some.ensures.cases.0 in
    let rest = rw c.as_slice.ensures at c.in-Some.ensures.cases.1 in
    c.observe_of.ensures ∙ ap observe_in (c.new.ensures ∙ ap words_of rest)
    ∙ sym (observe_line c.args.version c.args.line.now front)

pub returns-in-Some-strip_prefix : goal.returns-in-Some-strip_prefix
returns-in-Some-strip_prefix c =
    let front = rw c.as_slice-2.ensures at c.in-Some-strip_prefix.ensures.cases.0 in
    let rest = rw c.as_slice-2.ensures at c.in-Some-strip_prefix.ensures.cases.1 in
    c.fetch_of.ensures c.args.bytes.now ∙ ap (λ l. fetch_in (words_of l)) rest
    ∙ sym (fetch_line c.args.version c.args.line.now front)

pub returns-in-Some-strip_prefix-2 : goal.returns-in-Some-strip_prefix-2
returns-in-Some-strip_prefix-2 c =
    let front = rw c.as_slice-3.ensures at c.in-Some-strip_prefix-2.ensures.cases.0 in
    let rest = rw c.as_slice-3.ensures at c.in-Some-strip_prefix-2.ensures.cases.1 in
    c.commit_of.ensures ∙ ap (λ l. commit_in (words_of l)) rest
    ∙ sym (commit_line c.args.version c.args.line.now front)
