use Rattle.std.proofs.Common.{◌≡◌, List, [], sym, subst, ◌∙◌}
use Rattle.fr_showing.proofs.CommitLemmas.{not_takeable, takeable}
use Rattle.fr_showing.specs.CommitText.{recorded_of, taken_text, takers_by}
use Rattle.fr_capture.specs.declared.takers.Taker.{Taker}
use Rattle.fr_capture.specs.Takers.{takers_word}
use Rattle.fr_showing.specs.Takers.{takers_in}
use Rattle.fr_text.specs.Writing.{Writes}
use Rattle.fr_showing.proofs.commits.write_taken.Goals as goal

pub returns-then-is_takeable : goal.returns-then-is_takeable
unfolding taken_text
returns-then-is_takeable g c =
    let w = c.args.world.now in
    let s = c.args.sending.now in
    subst (λ (ts : List Taker). Writes g.W.Write.contents c.args.writer.now c.write_takers_of.new.writer
    c.write_takers_of.result (takers_word ts))
    (takeable c.args.end (takers_in w.bus.cluster.params w.interfaces (recorded_of w s) s.channel)
    (sym c.is_takeable.ensures ∙ c.if-is_takeable.true)) c.write_takers_of.ensures

pub returns-else-is_takeable : goal.returns-else-is_takeable
unfolding taken_text
returns-else-is_takeable g c =
    let w = c.args.world.now in
    let s = c.args.sending.now in
    let ts : List Taker = takers_in w.bus.cluster.params w.interfaces (recorded_of w s) s.channel in
    let none : [] ≡ takers_by c.args.end ts = not_takeable c.args.end ts
    (sym c.is_takeable.ensures ∙ c.if-is_takeable.false) in
    subst (λ (l : List Taker). Writes g.W.Write.contents c.args.writer.now c.write.new.self c.write.result
    (takers_word l)) none c.write.ensures.bytes
