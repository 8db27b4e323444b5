use Rattle.std.proofs.Common.{◌≡◌, ◌∙◌, ℕ, List, Result, Err, ap, inl, refl, rules, subst, sym}
use Rattle.std.specs.Io.KnownBytes.{Appends}
use Rattle.fr_files.specs.declared.error.BenchError.{BenchError}
use Rattle.fr_files.specs.Inputs.{ForText}
use Rattle.fr_files.specs.Outputs.{FallsShort}
use Rattle.fr_showing.proofs.ShowLemmas.{can_be_had, node_missing, shown_of, shown_part, unshown_of}
use Rattle.fr_showing.proofs.ShowLemmas.{unwritten_file, unwritten_view}
use Rattle.fr_playing.specs.declared.error.PlayError.{PlayError}
use Rattle.fr_playing.specs.declared.error.PlayError.TheVariants as refusal
use Rattle.fr_showing.specs.declared.show.Notes.{Notes}
use Rattle.fr_showing.specs.Shows.{Prints, Tells}
use Rattle.fr_showing.proofs.show.show_run.Goals as goal

pub returns-in_err-file-clause-written : goal.returns-in_err-file-clause-written
returns-in_err-file-clause-written g c =
    let old = g.W.Write.contents c.args.writer.now in
    let remaining = g.R.Read.remaining c.args.reader.now in
    let e = c.in_err-file.field-0.0 in
    let gone : c.from_residual.result ≡ Err e = search rules in
    subst (λ (r : Result Notes PlayError). Prints c.args.cluster.now c.args.names.now c.args.cycles c.args.shown
    remaining old old r)
    (sym gone)
    (unwritten_file c.args.cluster.now c.args.names.now c.args.cycles c.args.shown remaining old old e
    c.in_err-file.ensures refl)

pub returns-in_err-text-clause-written : goal.returns-in_err-text-clause-written
returns-in_err-text-clause-written g c =
    let old = g.W.Write.contents c.args.writer.now in
    let e = c.in_err-text.field-0.0 in
    let gone : c.from_residual-in_err-text.result ≡ Err e = search rules in
    subst (λ (r : Result Notes PlayError). Prints c.args.cluster.now c.args.names.now c.args.cycles c.args.shown
    (g.R.Read.remaining c.args.reader.now) old old r) (sym gone)
    (unwritten_view c.args.cluster.now c.args.names.now c.args.cycles c.args.shown
    (g.R.Read.remaining c.args.reader.now) old old
    c.in_ok-file.file e c.in_err-text.ensures.refused refl)

pub returns-in_err-text-clause-refused : goal.returns-in_err-text-clause-refused
returns-in_err-text-clause-refused g c =
    let remaining = g.R.Read.remaining c.args.reader.now in
    let e = c.in_err-text.field-0.0 in
    let gone : c.from_residual-in_err-text.result ≡ Err e = search rules in
    subst (λ (r : Result Notes PlayError). ForText remaining
    (λ text. Tells c.args.cluster.now c.args.names.now c.args.cycles c.args.shown text r)) (sym gone)
    (node_missing c.args.cluster.now c.args.names.now c.args.cycles c.args.shown remaining c.in_ok-file.file e
    c.in_ok-file.ensures
    c.in_err-text.ensures.refused)

pub returns-in_err-notes-clause-written : goal.returns-in_err-notes-clause-written
returns-in_err-notes-clause-written g c =
    let old = g.W.Write.contents c.args.writer.now in
    let e = c.in_err-notes.field-0.0 in
    let gone : c.from_residual-in_err-notes.result ≡ Err e = search rules in
    subst (λ (r : Result Notes PlayError). Prints c.args.cluster.now c.args.names.now c.args.cycles c.args.shown
    (g.R.Read.remaining c.args.reader.now) old old r) (sym gone)
    (unwritten_view c.args.cluster.now c.args.names.now c.args.cycles c.args.shown
    (g.R.Read.remaining c.args.reader.now) old old
    c.in_ok-file.file e (inl c.in_err-notes.ensures.refused) refl)

pub returns-in_err-notes-clause-refused : goal.returns-in_err-notes-clause-refused
returns-in_err-notes-clause-refused g c =
    let remaining = g.R.Read.remaining c.args.reader.now in
    let e = c.in_err-notes.field-0.0 in
    let gone : c.from_residual-in_err-notes.result ≡ Err e = search rules in
    subst (λ (r : Result Notes PlayError). ForText remaining
    (λ text. Tells c.args.cluster.now c.args.names.now c.args.cycles c.args.shown text r)) (sym gone)
    (node_missing c.args.cluster.now c.args.names.now c.args.cycles c.args.shown remaining c.in_ok-file.file e
    c.in_ok-file.ensures
    (inl c.in_err-notes.ensures.refused))

pub returns-in_err-write_whole-clause-written : goal.returns-in_err-write_whole-clause-written
returns-in_err-write_whole-clause-written g c =
    let remaining = g.R.Read.remaining c.args.reader.now in
    let old = g.W.Write.contents c.args.writer.now in
    let new = g.W.Write.contents c.write_whole.new.writer in
    let e = c.in_err-write_whole.field-0.0 in
    let gone : c.from_residual-in_err-write_whole.result ≡ Err (refusal.Text e) = search rules in
    let named = gone ∙ ap (λ (x : BenchError). Err (refusal.Text x)) c.in_err-write_whole.ensures.refused in
    subst (λ (r : Result Notes PlayError). Prints c.args.cluster.now c.args.names.now c.args.cycles c.args.shown
    remaining old new r)
    (sym named)
    (shown_part c.args.cluster.now c.args.names.now c.args.cycles c.args.shown remaining old new c.in_ok-file.file
    c.in_ok-text.text.items c.in_ok-file.ensures c.in_ok-text.ensures.text
    (subst (λ (xs : List ℕ). FallsShort old new xs) c.as_slice.ensures.value c.in_err-write_whole.ensures.cut))

pub returns-clause-written : goal.returns-clause-written
returns-clause-written g c =
    let remaining = g.R.Read.remaining c.args.reader.now in
    let old = g.W.Write.contents c.args.writer.now in
    let new = g.W.Write.contents c.write_whole.new.writer in
    shown_of c.args.cluster.now c.args.names.now c.args.cycles c.args.shown remaining old new c.in_ok-file.file
    c.in_ok-text.text.items
    c.in_ok-notes.notes c.in_ok-file.ensures
    c.in_ok-text.ensures.text
    (subst (λ (xs : List ℕ). Appends old new xs) c.as_slice.ensures.value c.in_ok-write_whole.ensures.written)
    c.in_ok-notes.ensures.numbers

pub returns-in_err-file-clause-refused : goal.returns-in_err-file-clause-refused
returns-in_err-file-clause-refused g c =
    let remaining = g.R.Read.remaining c.args.reader.now in
    let e = c.in_err-file.field-0.0 in
    let gone : c.from_residual.result ≡ Err e = search rules in
    subst (λ (r : Result Notes PlayError). ForText remaining
    (λ text. Tells c.args.cluster.now c.args.names.now c.args.cycles c.args.shown text r)) (sym gone)
    (unshown_of c.args.cluster.now c.args.names.now c.args.cycles c.args.shown remaining e c.in_err-file.ensures)

pub returns-in_err-write_whole-clause-refused : goal.returns-in_err-write_whole-clause-refused
returns-in_err-write_whole-clause-refused g c =
    let remaining = g.R.Read.remaining c.args.reader.now in
    let e = c.in_err-write_whole.field-0.0 in
    let gone : c.from_residual-in_err-write_whole.result ≡ Err (refusal.Text e) = search rules in
    let named = gone ∙ ap (λ (x : BenchError). Err (refusal.Text x)) c.in_err-write_whole.ensures.refused in
    subst (λ (r : Result Notes PlayError). ForText remaining
    (λ text. Tells c.args.cluster.now c.args.names.now c.args.cycles c.args.shown text r)) (sym named)
    (can_be_had c.args.cluster.now c.args.names.now c.args.cycles remaining c.in_ok-file.file c.in_ok-file.ensures)

pub returns-clause-refused : goal.returns-clause-refused
returns-clause-refused g c =
    can_be_had c.args.cluster.now c.args.names.now c.args.cycles
    (g.R.Read.remaining c.args.reader.now) c.in_ok-file.file
    c.in_ok-file.ensures
