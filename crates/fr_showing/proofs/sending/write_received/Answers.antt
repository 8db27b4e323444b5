use Rattle.std.proofs.Common.{◌≡◌, ◌∙◌, List, [], ap₂, subst, sym}
use Rattle.fr_capture.specs.declared.takers.Taker.{Taker}
use Rattle.fr_capture.specs.Takers.{takers_word}
use Rattle.fr_showing.proofs.CommitLemmas.{not_takeable, takeable}
use Rattle.fr_showing.specs.CommitText.{received_text, takers_by}
use Rattle.fr_showing.specs.Takers.{takers_by_plans}
use Rattle.fr_slots.specs.Parameters.{Parameters}
use Rattle.fr_slots.specs.Plans.{Plan}
use Rattle.fr_text.specs.Writing.{Writes}
use Rattle.fr_showing.proofs.sending.write_received.Goals as goal

pub returns-then-is_takeable : goal.returns-then-is_takeable
unfolding received_text
returns-then-is_takeable g c =
    let d = c.args.cluster.now in
    let r = c.args.sealed.now in
    let channel = c.args.channel in
    let ts : List Taker = takers_by_plans d.params r channel 0 d.plans in
    let same : takers_by_plans c.params.result.now r channel 0 c.plans.result.now ≡ ts =
    ap₂ (λ (p : Parameters) (plans : List Plan). takers_by_plans p r channel 0 plans) c.params.ensures.value
    c.plans.ensures.value in
    subst (λ (l : List Taker). Writes g.W.Write.contents c.args.writer.now c.write_takers_by_plans.new.writer
    c.write_takers_by_plans.result (takers_word l))
    (same ∙ takeable c.args.end ts (sym c.is_takeable.ensures ∙ c.if-is_takeable.true))
    c.write_takers_by_plans.ensures

pub returns-else-is_takeable : goal.returns-else-is_takeable
unfolding received_text
returns-else-is_takeable g c =
    let d = c.args.cluster.now in
    let ts : List Taker = takers_by_plans d.params c.args.sealed.now c.args.channel 0 d.plans in
    let none : [] ≡ takers_by c.args.end ts = not_takeable c.args.end ts
    (sym c.is_takeable.ensures ∙ c.if-is_takeable.false) in
    subst (λ (l : List Taker). Writes g.W.Write.contents c.args.writer.now c.write.new.self c.write.result
    (takers_word l)) none c.write.ensures.bytes
