use Rattle.std.proofs.Common.{◌<◌, ◌+◌, take, sym, ◌∙◌, arith, length, subst}
use Rattle.std.specs.Io.KnownBytes.{Appends}
use Rattle.std.specs.List.{flat_map}
use Rattle.std.proofs.KnownBytes.{Appends-nil}
use Rattle.fr_trace.specs.TraceText.{entry_line}
use Rattle.fr_trace.proofs.WritingLemmas.{written-more, there_is, none_behind}
use Rattle.fr_trace.proofs.trace.write_entries.Goals.{in-Some+in_ok-write_entry, in_default}
use Rattle.fr_trace.proofs.trace.write_entries.Goals as goal

pub loop-number-init : goal.loop-number-init
loop-number-init g c = Appends-nil (g.W.Write.contents c.args.writer.now)

pub loop-number-preserved : goal.loop-number-preserved
loop-number-preserved g c =
    let entries = c.args.journal.now.entries in
    let i = c.loop-number.number in
    let start = g.W.Write.contents c.args.writer.now in
    let lt : i < length entries = omega (arith, c.len-number-end.ensures.value, c.loop-number-test.true) in
    elim c.match-get.branch [
      | in-Some+in_ok-write_entry w ↦
          let e = w.in-Some.entry in
          subst (λ x. Appends start (g.W.Write.contents x) (flat_map entry_line (take (i + 1) entries)))
          (sym w.writer-is)
          (written-more entry_line entries i e start (g.W.Write.contents c.loop-number.writer)
          (g.W.Write.contents w.write_entry.new.writer) lt
          (there_is entries i e (sym c.get.ensures ∙ w.in-Some.is)) c.loop-number.invariant w.in_ok-write_entry.ensures)
      | in_default w ↦ absurd (none_behind entries i lt (sym c.get.ensures ∙ w.in_default.is))
    ]
