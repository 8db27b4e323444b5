use Rattle.std.proofs.Common.{rules, ◌++◌, ◌∷◌, [], List, ℕ, subst, sym}
use Rattle.std.specs.Fmt.{decimal}
use Rattle.std.specs.Prelude.{slice_index, OnOk}
use Rattle.std.specs.Io.KnownBytes.{Appends}
use Rattle.fr_slots.specs.Admission.{letter_of}
use Rattle.fr_trace.specs.ReportText.{errors_text}
use Rattle.fr_trace.proofs.ReportLemmas.{line-behind_three}
use Rattle.fr_trace.proofs.WritingLemmas.{appends-last}
use Rattle.fr_auditing.proofs.report.write_channel.Goals as goal

pub returns : goal.returns
returns g c =
    let counts = c.args.counts in
    let letter = letter_of c.args.channel in
    let valid = decimal (slice_index counts 0) in
    let syntax = decimal (slice_index counts 1) in
    let start = g.W.Write.contents c.args.writer.now in
    let mid = g.W.Write.contents c.write.new.self in
    let end = g.W.Write.contents c.write_errors.new.writer in
    let front = letter ++ 32 ∷ (valid ++ 32 ∷ syntax) in
    let back = errors_text (slice_index counts 2) (slice_index counts 3) (slice_index counts 4) in
    let first : Appends start mid front = search rules in
    subst (λ (t : List ℕ). OnOk c.write_errors.result (Appends start end t))
    (sym (line-behind_three letter valid syntax (decimal (slice_index counts 2))
    (decimal (slice_index counts 3) ∷ decimal (slice_index counts 4) ∷ [])))
    (appends-last c.write_errors.result start mid end front back first c.write_errors.ensures)
