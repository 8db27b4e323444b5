use Rattle.std.proofs.Common.{◌≡◌, ◌≤◌, ◌<◌, ◌+◌, ◌++◌, List, ℕ, Option, length, sym, subst, ◌∙◌, arith, ap}
use Rattle.std.specs.Io.KnownBytes.{Appends}
use Rattle.std.specs.Prelude.{OnErr, OnOk}
use Rattle.fr_files.specs.Outputs.{AppendsFront}
use Rattle.fr_files.proofs.OutputLemmas.{short_front}
use Rattle.fr_capture.specs.Shows.{heading, shown_of}
use Rattle.fr_capture.specs.declared.moment.Moment.{Moment}
use Rattle.fr_capture.specs.Clocks.{moment_after}
use Rattle.fr_journal.specs.Forms.{Entry}
use Rattle.fr_slots.specs.Parameters.{Parameters}
use Rattle.fr_trace.proofs.WritingLemmas.{there_is, none_behind}
use Rattle.fr_capture.proofs.ShowLemmas.{IsShown, shown_none, shown_entry, shown_handed, shown_all}
use Rattle.fr_capture.proofs.ShowLemmas.{on_each, shown_cut, shown_last, shown_part, shown_rounds}
use Rattle.fr_capture.proofs.show.write_pieces.Goals.{in-Some+in_ok-write_entry, in_default}
use Rattle.fr_capture.proofs.show.write_pieces.Goals.{then-len-ge-ENOUGH+in_ok-hand_on, else-len-ge-ENOUGH}
use Rattle.fr_capture.proofs.show.write_pieces.Goals as goal

pub loop-number-init : goal.loop-number-init
loop-number-init g c =
    let start = g.W.Write.contents c.args.writer.now in
    shown_none c.args.form c.args.interface.now c.journal-journal.result.now.entries start
    c.write_heading.new.writer.items
    (c.in_ok-write_heading.ensures ∙ ap (λ (t : List ℕ). t ++ heading c.args.form) c.requires)

pub write_entry-requires : goal.write_entry-requires
write_entry-requires g c =
    let start = g.W.Write.contents c.args.writer.now in
    let few : c.loop-number.number ≤ 1000000 = omega (arith, c.loop-number-test.true, c.len-number-end.ensures.few) in
    shown_rounds c.args.form c.args.interface.now c.journal-journal.result.now.entries start c.loop-number.number
    1000000
    (g.W.Write.contents c.loop-number.writer) c.loop-number.piece.items c.loop-number.last c.loop-number.invariant few

pub moment_after-last-requires : goal.moment_after-last-requires
moment_after-last-requires g c =
    let start = g.W.Write.contents c.args.writer.now in
    let few : c.loop-number.number ≤ 1000000 = omega (arith, c.loop-number-test.true, c.len-number-end.ensures.few) in
    shown_rounds c.args.form c.args.interface.now c.journal-journal.result.now.entries start c.loop-number.number
    1000000
    (g.W.Write.contents c.loop-number.writer) c.loop-number.piece.items c.loop-number.last c.loop-number.invariant few

pub loop-number-preserved : goal.loop-number-preserved
loop-number-preserved g c =
    let form = c.args.form in
    let s = c.args.interface.now in
    let entries = c.journal-journal.result.now.entries in
    let start = g.W.Write.contents c.args.writer.now in
    let count = c.loop-number.number in
    let now = g.W.Write.contents c.loop-number.writer in
    let lt : count < length entries = omega (arith, c.len-number-end.ensures.value, c.loop-number-test.true) in
    let shown : IsShown form s entries (count + 1) start now c.match-get.piece.items c.match-get.last =
    elim c.match-get.branch [
      | in-Some+in_ok-write_entry w ↦
          let e = w.in-Some.entry in
          let params_is : moment_after c.params-params.result.now c.loop-number.last count e
          ≡ moment_after s.params c.loop-number.last count e =
          ap (λ (p : Parameters). moment_after p c.loop-number.last count e) c.params-params.ensures.value in
          let one = shown_entry form s entries start count e now c.loop-number.piece.items
          w.write_entry.new.writer.items c.loop-number.last lt
          (there_is entries count e (sym c.get.ensures ∙ w.in-Some.is)) c.loop-number.invariant
          w.in_ok-write_entry.ensures in
          let with_last = subst (λ (m : Option Moment). IsShown form s entries
          (count + 1) start now w.write_entry.new.writer.items m)
          (sym (w.last-is ∙ w.moment_after-last.ensures ∙ params_is)) one in
          subst (λ x. IsShown form s entries (count + 1) start now x.items c.match-get.last) (sym w.piece-is) with_last
      | in_default w ↦ absurd (none_behind entries count lt (sym c.get.ensures ∙ w.in_default.is))
    ] in
    elim c.if-len-ge-ENOUGH.branch [
      | then-len-ge-ENOUGH+in_ok-hand_on w ↦
          let next = g.W.Write.contents w.hand_on.new.writer in
          let handed = shown_handed form s entries start (count + 1) now next c.match-get.piece.items
          w.hand_on.new.piece.items c.match-get.last shown
          w.in_ok-hand_on.ensures.written w.in_ok-hand_on.ensures.empty in
          let with_writer = subst (λ x. IsShown form s entries (count + 1) start
          (g.W.Write.contents x) w.hand_on.new.piece.items c.match-get.last) (sym w.writer-is) handed in
          subst (λ x. IsShown form s entries (count + 1) start
          (g.W.Write.contents c.if-len-ge-ENOUGH.writer) x.items c.match-get.last) (sym w.piece-is) with_writer
      | else-len-ge-ENOUGH w ↦
          let with_writer = subst (λ x. IsShown form s entries (count + 1) start
          (g.W.Write.contents x) c.match-get.piece.items c.match-get.last) (sym w.writer-is) shown in
          subst (λ x. IsShown form s entries (count + 1) start
          (g.W.Write.contents c.if-len-ge-ENOUGH.writer) x.items c.match-get.last) (sym w.piece-is) with_writer
    ]

pub returns-in_err-write_entry-clause-cut : goal.returns-in_err-write_entry-clause-cut
returns-in_err-write_entry-clause-cut g c =
    let start = g.W.Write.contents c.args.writer.now in
    let now = g.W.Write.contents c.loop-number.writer in
    on_each (AppendsFront start now (shown_of c.args.form c.args.interface.now c.args.interface.now.entries))
    c.from_residual-in_err-write_entry.result
    (subst (λ (es : List Entry). AppendsFront start now (shown_of c.args.form c.args.interface.now es))
    c.journal-journal.ensures.entries
    (shown_part c.args.form c.args.interface.now c.journal-journal.result.now.entries start c.loop-number.number now
    c.loop-number.piece.items c.loop-number.last c.loop-number.invariant))

pub returns-in_err-hand_on-clause-cut : goal.returns-in_err-hand_on-clause-cut
returns-in_err-hand_on-clause-cut g c =
    let form = c.args.form in
    let s = c.args.interface.now in
    let entries = c.journal-journal.result.now.entries in
    let start = g.W.Write.contents c.args.writer.now in
    let count = c.loop-number.number in
    let now = g.W.Write.contents c.loop-number.writer in
    let next = g.W.Write.contents c.hand_on.new.writer in
    let lt : count < length entries = omega (arith, c.len-number-end.ensures.value, c.loop-number-test.true) in
    let shown : IsShown form s entries (count + 1) start now c.match-get.piece.items c.match-get.last =
    elim c.match-get.branch [
      | in-Some+in_ok-write_entry w ↦
          let e = w.in-Some.entry in
          let params_is : moment_after c.params-params.result.now c.loop-number.last count e
          ≡ moment_after s.params c.loop-number.last count e =
          ap (λ (p : Parameters). moment_after p c.loop-number.last count e) c.params-params.ensures.value in
          let one = shown_entry form s entries start count e now c.loop-number.piece.items
          w.write_entry.new.writer.items c.loop-number.last lt
          (there_is entries count e (sym c.get.ensures ∙ w.in-Some.is)) c.loop-number.invariant
          w.in_ok-write_entry.ensures in
          let with_last = subst (λ (m : Option Moment). IsShown form s entries
          (count + 1) start now w.write_entry.new.writer.items m)
          (sym (w.last-is ∙ w.moment_after-last.ensures ∙ params_is)) one in
          subst (λ x. IsShown form s entries (count + 1) start now x.items c.match-get.last) (sym w.piece-is) with_last
      | in_default w ↦ absurd (none_behind entries count lt (sym c.get.ensures ∙ w.in_default.is))
    ] in
    on_each (AppendsFront start next (shown_of form s s.entries)) c.from_residual-in_err-hand_on.result
    (subst (λ (es : List Entry). AppendsFront start next (shown_of form s es)) c.journal-journal.ensures.entries
    (shown_cut form s entries start (count + 1) now next c.match-get.piece.items c.match-get.last shown
    (short_front now next c.match-get.piece.items c.in_err-hand_on.ensures.cut)))

pub returns-clause-cut : goal.returns-clause-cut
returns-clause-cut g c =
    let form = c.args.form in
    let start = g.W.Write.contents c.args.writer.now in
    let now = g.W.Write.contents c.loop-number.writer in
    let new = g.W.Write.contents c.hand_on-2.new.writer in
    let entries = c.journal-journal.result.now.entries in
    let r = c.hand_on-2.result in
    subst (λ (es : List Entry). OnErr r (AppendsFront start new (shown_of form c.args.interface.now es)))
    c.journal-journal.ensures.entries
    (shown_last form c.args.interface.now entries start r c.loop-number.number now new c.loop-number.piece.items
    c.loop-number.last c.loop-number.invariant c.hand_on-2.ensures.cut)

pub returns-clause-written : goal.returns-clause-written
returns-clause-written g c =
    let form = c.args.form in
    let start = g.W.Write.contents c.args.writer.now in
    let now = g.W.Write.contents c.loop-number.writer in
    let new = g.W.Write.contents c.hand_on-2.new.writer in
    let entries = c.journal-journal.result.now.entries in
    let all : length entries ≤ c.loop-number.number = omega (
      arith,
      c.len-number-end.ensures.value,
      c.loop-number-test.false,
    ) in
    let r = c.hand_on-2.result in
    let done = shown_all form c.args.interface.now entries start r c.loop-number.number now new
    c.loop-number.piece.items c.loop-number.last c.loop-number.invariant all c.hand_on-2.ensures.written in
    subst (λ (es : List Entry). OnOk r (Appends start new (shown_of form c.args.interface.now es)))
    c.journal-journal.ensures.entries done
