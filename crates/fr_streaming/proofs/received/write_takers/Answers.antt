use Rattle.std.proofs.Common.{List, ℕ, false, sym, subst, ◌∙◌}
use Rattle.std.specs.Prelude.{codes, OnOk}
use Rattle.std.specs.Io.KnownBytes.{Appends}
use Rattle.fr_capture.proofs.TakerLemmas.{no_word}
use Rattle.fr_capture.specs.Takers.{after_commas}
use Rattle.fr_streaming.proofs.ReceivedLemmas.{appends-last}
use Rattle.fr_streaming.proofs.received.write_takers.Goals as goal

pub returns-else-branch : goal.returns-else-branch
returns-else-branch g c =
    let ts = c.args.takers.now in
    let old = g.W.Write.contents c.args.writer.now in
    let mid = g.W.Write.contents c.write_more.new.writer in
    let new = g.W.Write.contents c.write.new.self in
    subst (λ (t : List ℕ). OnOk c.write.result (Appends old new t))
    (no_word ts (sym c.in_ok-write_more.ensures.any ∙ c.if-branch.false))
    (appends-last c.write.result old mid new (after_commas false ts)
    (codes "-") c.in_ok-write_more.ensures.text c.write.ensures.bytes)
