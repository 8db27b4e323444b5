use Rattle.std.proofs.Common.{List, ℕ, false, sym, subst, ◌∙◌}
use Rattle.std.specs.Prelude.{codes, OnOk}
use Rattle.std.specs.Io.KnownBytes.{Appends}
use Rattle.fr_capture.proofs.TakerLemmas.{no_word}
use Rattle.fr_capture.specs.declared.takers.Taker.{Taker}
use Rattle.fr_capture.specs.Takers.{after_commas}
use Rattle.fr_showing.specs.Takers.{takers_by_plans}
use Rattle.fr_trace.proofs.WritingLemmas.{appends-last}
use Rattle.fr_showing.proofs.takers.write_takers_by_plans.Goals as goal

pub returns-else-branch : goal.returns-else-branch
returns-else-branch g c =
    let sent = c.args.sent.now in
    let ts : List Taker = takers_by_plans sent.params.now sent.sealed.now sent.channel 0 c.args.plans.now in
    let old = g.W.Write.contents c.args.writer.now in
    let mid = g.W.Write.contents c.write_planned.new.writer in
    let new = g.W.Write.contents c.write.new.self in
    subst (λ (t : List ℕ). OnOk c.write.result (Appends old new t))
    (no_word ts (sym c.in_ok-write_planned.ensures.any ∙ c.if-branch.false))
    (appends-last c.write.result old mid new (after_commas false ts)
    (codes "-") c.in_ok-write_planned.ensures.text c.write.ensures.bytes)
