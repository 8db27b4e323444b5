use Rattle.std.proofs.Common.{◌≡◌, ◌≤◌, ◌<◌, ◌+◌, List, length, take, Some, sym, ap, subst, ◌∙◌, arith}
use Rattle.std.specs.Option.{option_and_then}
use Rattle.std.specs.Prelude.{slice_get, OnOk}
use Rattle.std.specs.Io.KnownBytes.{Appends}
use Rattle.fr_fifo.proofs.TextLemmas.{IsAlong, along_all, along_more, along_none}
use Rattle.fr_fifo.specs.declared.running.Running.{Running}
use Rattle.fr_fifo.specs.FifoText.{frames_text}
use Rattle.fr_journal.specs.Forms.{Entry}
use Rattle.fr_journal.specs.OpenWindow.{closed_window}
use Rattle.fr_trace.proofs.WritingLemmas.{there_is, none_behind}
use Rattle.fr_fifo.proofs.show.write_frames.Goals.{in-Some+in_ok-running, in_default}
use Rattle.fr_fifo.proofs.show.write_frames.Goals as goal

pub loop-number-init : goal.loop-number-init
loop-number-init g c =
    along_none c.args.interface.now c.args.queue.now c.journal-journal.result.now.entries
    (g.W.Write.contents c.args.writer.now)

pub loop-number-preserved : goal.loop-number-preserved
loop-number-preserved g c =
    let entries = c.journal-journal.result.now.entries in
    let count = c.loop-number.number in
    let lt : count < length entries = omega (arith, c.len-number-end.ensures.value, c.loop-number-test.true) in
    elim c.match-get.branch [
      | in-Some+in_ok-running w ↦
          let s = c.args.interface.now in
          let q = c.args.queue.now in
          let start = g.W.Write.contents c.args.writer.now in
          let mid = g.W.Write.contents w.write_entry.new.writer in
          let there : slice_get entries count ≡ Some w.in-Some.entry = sym c.get.ensures ∙ w.in-Some.is in
          let closed : w.closed_window-closed.result ≡ closed_window (take count entries) w.in-Some.entry =
          w.closed_window-closed.ensures ∙ ap (option_and_then (closed_window (take count entries))) there in
          let one = along_more s q entries start count w.in-Some.entry (g.W.Write.contents c.loop-number.writer) mid
          c.loop-number.running w.in_ok-running.running w.closed_window-closed.result lt
          (there_is entries count w.in-Some.entry there) c.loop-number.invariant closed
          w.in_ok-running.ensures.written w.in_ok-running.ensures.after in
          let with_writer = subst (λ x. IsAlong s q entries (count + 1) start (g.W.Write.contents x)
          w.in_ok-running.running) (sym w.writer-is) one in
          subst (λ (r : Running). IsAlong s q entries (count + 1) start (g.W.Write.contents c.match-get.writer) r)
          (sym w.running-is) with_writer
      | in_default w ↦ absurd (none_behind entries count lt (sym c.get.ensures ∙ w.in_default.is))
    ]

pub returns : goal.returns
returns g c =
    let s = c.args.interface.now in
    let q = c.args.queue.now in
    let start = g.W.Write.contents c.args.writer.now in
    let entries = c.journal-journal.result.now.entries in
    let all : length entries ≤ c.loop-number.number = omega (
      arith,
      c.len-number-end.ensures.value,
      c.loop-number-test.false,
    ) in
    subst (λ (es : List Entry). OnOk c.write_waiting.result
    (Appends start (g.W.Write.contents c.write_waiting.new.writer) (frames_text s q es)))
    c.journal-journal.ensures.entries
    (along_all s q entries start c.write_waiting.result c.loop-number.number
    (g.W.Write.contents c.loop-number.writer) (g.W.Write.contents c.write_waiting.new.writer) c.loop-number.running
    all c.loop-number.invariant c.write_waiting.ensures)
